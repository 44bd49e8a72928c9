use Rattle.std.proofs.Common.{◌≡◌, ◌∙◌, ℕ, length, map, ap, sym, arith}
use Rattle.scenario.specs.Plans.{numbers_from}
use Rattle.link_run.specs.kept.FrameRows.{whole_in}
use Rattle.link_run.specs.kept.Gathered.{Gathering}
use Rattle.link_run.proofs.Gathering.{count-frames, gathered-moved, no-frames}
use Rattle.link_run.proofs.deframer.Deframer.rest.Goals as goal

pub drop_whole-requires : goal.drop_whole-requires
drop_whole-requires c =
    let many : c.self.inside.whole ≡ length c.args.self.now.frames = sym (count-frames _ c.self.inside.whole)
    ∙ ap (λ (v : Gathering). length v.frames) c.self.view_is in
    let some = c.if-self-gt0.true in
    record { some = omega arith }

pub returns-then-self-gt0-clause-gathered : goal.returns-then-self-gt0-clause-gathered
returns-then-self-gt0-clause-gathered c =
    let same = c.drop_whole.ensures.same in
    gathered-moved c.args.self.now c.drop_whole.new.self (ap (λ (v : Gathering). v.params) same)
    (ap (λ (v : Gathering). v.at) same) (ap (λ (v : Gathering). v.mark) same)
    c.drop_whole.ensures.octets

pub returns-else-self-gt0-clause-nothing : goal.returns-else-self-gt0-clause-nothing
returns-else-self-gt0-clause-nothing c =
    let d = c.self.inside in
    let none : d.whole ≡ 0 = (let past = c.if-self-gt0.false in omega arith) in
    let frame = whole_in d.rows.items d.shape d.room d.first d.others in
    ap (λ (v : Gathering). v.frames) (sym c.self.view_is)
    ∙ ap (λ (n : ℕ). map frame (numbers_from 0 n)) none
    ∙ no-frames frame
