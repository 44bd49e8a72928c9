use Rattle.std.proofs.Common.{◌≡◌, ◌∙◌, ℕ, ◌+◌, ◌-◌, ◌*◌, ◌/◌, ap, ap₂, subst, arith}
use Rattle.link_params.specs.declared.fields.Params.{Params}
use Rattle.link_params.specs.Numbers.{octets_per_tick}
use Rattle.link_run.proofs.TickRows.{at-of, beginnings-from, beginnings-none, beginnings-whole}
use Rattle.link_run.proofs.reporting.entries_at.Goals as goal

pub returns-then-whole-gt0 : goal.returns-then-whole-gt0
returns-then-whole-gt0 c =
    let frames = c.whole_frames-whole.result in
    beginnings-whole c.args.s.now.shape c.args.place frames
    (subst (λ (p : Params). frames * p.f ≡ octets_per_tick p) c.requires.same
    (c.whole_frames-whole.ensures c.if-whole-gt0.true))

pub returns-then-first-per_tick : goal.returns-then-first-per_tick
returns-then-first-per_tick c =
    let p = c.args.s.now.shape in
    let first = c.octets_to_frame-first.result in
    let per_tick = c.octets_per_tick-per_tick.ensures.value in
    let size = c.frame_octets-size.ensures.value in
    let some = c.frame_octets-size.ensures.some in
    let begins = at-of p c.args.place first _ _ per_tick size
    c.octets_to_frame-first.ensures.begins in
    let near = c.octets_to_frame-first.ensures.below in
    let below = c.if-first-per_tick.true in
    ap (λ (k : ℕ). 1 + k) (c.frames_in.ensures
    ∙ ap₂ (λ (n f : ℕ). (n - first - 1) / f) per_tick size)
    ∙ beginnings-from p c.args.place first (omega arith) begins (omega arith) (omega arith)

pub returns-else-first-per_tick : goal.returns-else-first-per_tick
returns-else-first-per_tick c =
    let p = c.args.s.now.shape in
    let first = c.octets_to_frame-first.result in
    let per_tick = c.octets_per_tick-per_tick.ensures.value in
    let size = c.frame_octets-size.ensures.value in
    let some = c.frame_octets-size.ensures.some in
    let begins = at-of p c.args.place first _ _ per_tick size
    c.octets_to_frame-first.ensures.begins in
    let near = c.octets_to_frame-first.ensures.below in
    let above = c.if-first-per_tick.false in
    beginnings-none p c.args.place first (omega arith) begins (omega arith) (omega arith)
