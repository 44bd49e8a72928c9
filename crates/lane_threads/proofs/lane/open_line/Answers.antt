use Rattle.std.proofs.Common.{◌≡◌, ◌≤◌, ◌-◌, ℕ, None, ap, sym, ◌∙◌, arith}
use Rattle.std.proofs.Math.Nat.{mul-le-mul_left}
use Rattle.link_params.specs.declared.fields.Params.{Params}
use Rattle.link_params.specs.declared.fields.Timing.{Timing}
use Rattle.link_params.specs.Numbers.{period}
use Rattle.link_params.specs.TimingLaws.{broken_timing}
use Rattle.link_params.proofs.LawFacts.{timely}
use Rattle.lane_threads.proofs.lane.open_line.Goals as goal

first-within : (p : Params) (t own : Timing) (ticks : ℕ) → broken_timing p t ≡ None → own ≡ t
    → ticks ≡ period p → own.w_lo ≤ ticks - 1
first-within p t own ticks legal same is =
    let l = timely p t legal in
    let low : own.w_lo ≡ t.w_lo = ap (λ (k : Timing). k.w_lo) same in
    omega arith

pub overflow_mul-delay : goal.overflow_mul-delay
overflow_mul-delay c =
    let p = c.args.link.now.params in
    let ticks : c.period.result ≡ period p = c.period.ensures.value
    ∙ ap period c.shape-shape.ensures.same in
    let within = first-within p c.args.link.now.timing c.timing.result c.period.result
    c.timing.ensures.legal c.timing.ensures.same ticks in
    let high = c.period.ensures.high in
    omega (arith, mul-le-mul_left c.timing.result.w_lo c.width-2.ensures.bound)

pub open-requires-clause-delay : goal.open-requires-clause-delay
open-requires-clause-delay c =
    let p = c.args.link.now.params in
    let ticks : c.period.result ≡ period p = c.period.ensures.value
    ∙ ap period c.shape-shape.ensures.same in
    let within = first-within p c.args.link.now.timing c.timing.result c.period.result
    c.timing.ensures.legal c.timing.ensures.same ticks in
    let bits : c.width-2.result ≡ c.width.result = c.width-2.ensures.value
    ∙ sym c.width.ensures.value in
    rw bits (omega (arith, mul-le-mul_left c.width.result within))
