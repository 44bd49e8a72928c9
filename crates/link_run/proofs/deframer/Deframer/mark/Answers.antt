use Rattle.std.proofs.Common.{◌∙◌, ◌==◌, get_or, ap, sym, eq-eqb, ne_eqb}
use Rattle.std.proofs.lemmas.Bool.{cond-false, cond-true}
use Rattle.link_run.specs.kept.Gathered.{Gathering, no_frame}
use Rattle.link_run.proofs.Gathering.{frame-shown, in-frames}
use Rattle.link_run.proofs.deframer.Deframer.mark.Goals as goal

pub returns-then-i-eq0 : goal.returns-then-i-eq0
returns-then-i-eq0 c =
    let d = c.self.inside in
    let i = c.args.i in
    let shown = frame-shown d.rows.items d.shape d.room d.first d.others d.whole i
    (in-frames _ d.whole i _ (ap (λ (v : Gathering). v.frames) c.self.view_is) c.requires) in
    sym (ap (λ (v : Gathering). (get_or v.frames i no_frame).mark) (sym c.self.view_is)
    ∙ ap (λ w. w.mark) shown
    ∙ cond-true (i == 0) d.first d.others (eq-eqb i 0 c.if-i-eq0.true))

pub returns-else-i-eq0 : goal.returns-else-i-eq0
returns-else-i-eq0 c =
    let d = c.self.inside in
    let i = c.args.i in
    let shown = frame-shown d.rows.items d.shape d.room d.first d.others d.whole i
    (in-frames _ d.whole i _ (ap (λ (v : Gathering). v.frames) c.self.view_is) c.requires) in
    sym (ap (λ (v : Gathering). (get_or v.frames i no_frame).mark) (sym c.self.view_is)
    ∙ ap (λ w. w.mark) shown
    ∙ cond-false (i == 0) d.first d.others (ne_eqb i 0 c.if-i-eq0.false))
