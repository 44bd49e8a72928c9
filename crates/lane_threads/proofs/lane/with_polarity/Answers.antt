use Rattle.std.proofs.Common.{◌≡◌, ◌∙◌, ◌<◌, ◌≤◌, ◌-◌, ◌*◌, ◌^◌, ℕ, Bool, mod-eq_of_lt, sym, ap, refl, arith}
use Rattle.std.proofs.Math.Nat.{pow-le-pow_right}
use Rattle.jesd_base.specs.Bits.{bits}
use Rattle.link_model.specs.Carried.{with_polarity}
use Rattle.lane_threads.proofs.InvertedBits.{bits-with_polarity}
use Rattle.lane_threads.proofs.lane.with_polarity.Goals as goal

pub returns-then-inverted-clause-bits : goal.returns-then-inverted-clause-bits
returns-then-inverted-clause-bits c =
    let w : ℕ = c.args.width in
    let some : 0 < 2 = omega arith in
    let most : 2 ^ w ≤ 2 ^ 66 = pow-le-pow_right some c.requires.width in
    let long : 2 ^ 66 ≡ 73786976294838206464 = refl in
    let low : 1 * 2 ^ w < 340282366920938463463374607431768211456 = omega arith in
    let one : 1 * 2 ^ w ≡ 2 ^ w = omega arith in
    ap (λ (n : ℕ). bits w (n - 1 - c.args.word)) (mod-eq_of_lt low ∙ one)
    ∙ bits-with_polarity w c.args.word c.requires.word
    ∙ sym (ap (λ (b : Bool). with_polarity b (bits w c.args.word)) c.if-inverted.true)

pub returns-else-inverted-clause-bits : goal.returns-else-inverted-clause-bits
returns-else-inverted-clause-bits c =
    sym (ap (λ (b : Bool). with_polarity b (bits c.args.width c.args.word)) c.if-inverted.false)
