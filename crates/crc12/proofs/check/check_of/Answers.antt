use Rattle.std.proofs.Common.{◌≡◌, ◌+◌, ◌*◌, ◌/◌, ◌^◌, ◌<◌, ◌++◌, ◌∙◌, ℕ, Bool, List, bit_xor, refl, sym, ap, ap₂, arith, lit<}
use Rattle.std.proofs.lemmas.Nat.{xor_lt}
use Rattle.jesd_base.specs.Bits.{bits, value, zeros}
use Rattle.jesd_base.specs.Division.{divide, rem}
use Rattle.crc12.specs.Crc.{crc, divisor}
use Rattle.crc12.proofs.ByteLemmas.{bits-masked}
use Rattle.crc12.proofs.DivisionInParts.{value-crc-more, value-crc-lt}
use Rattle.crc12.proofs.check.check_of.Goals as goal

pub loop-behind-init : goal.loop-behind-init
unfolding bits zeros divide rem divisor
loop-behind-init c = (refl, lit< tt)

pub loop-behind-preserved : goal.loop-behind-preserved
loop-behind-preserved c =
    let n : ℕ = 8 * c.loop-behind.behind in
    let high : ℕ = c.args.word / 2 ^ n in
    let d = c.division.ensures in
    let b = c.bits_and_numbers.ensures in
    let own : c.entry-check.result ≡ value (crc (bits 8 high ++ zeros n)) =
    c.entry-check.ensures ∙ ap (λ (r : List Bool). value (crc (r ++ zeros n))) (bits-masked 8 8 high (lit< tt)) in
    let more : 8 + n ≡ 8 * (c.loop-behind.behind + 1) = omega arith in
    let below : value (crc (bits 8 high ++ zeros n)) < 2 ^ 12 =
    value-crc-lt d.linear d.length d.zeros d.goes_on b.length b.value_of_bits b.bits_of_value b.below b.append d.xor b.parts (bits 8 high ++ zeros n) in (
      ap₂ bit_xor c.loop-behind.invariant.0 own
          ∙ sym (value-crc-more d.linear d.length d.zeros d.goes_on b.length b.value_of_bits b.bits_of_value b.below b.append d.xor b.parts c.args.word n)
          ∙ ap (λ (k : ℕ). value (crc (bits k c.args.word))) more,
      xor_lt 12 c.loop-behind.check c.entry-check.result c.loop-behind.invariant.1 (rw (← own) at below),
    )
