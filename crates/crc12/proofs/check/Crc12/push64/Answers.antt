use Rattle.std.proofs.Common.{◌≡◌, ◌*◌, ◌%◌, ◌^◌, ◌∙◌, ℕ, bit_xor, sym, ap, arith}
use Rattle.jesd_base.specs.Bits.{bits, value}
use Rattle.crc12.specs.Crc.{crc}
use Rattle.crc12.proofs.DivisionInParts.{value-crc-payload}
use Rattle.crc12.proofs.check.Crc12.push64.Goals as goal

pub returns : goal.returns
returns c = λ taken h.
    let r : ℕ = c.self.inside.register in
    let small = c.self.invariant in
    let same = c.from.ensures in
    let up : c.from.result * 2 ^ 52 % 2 ^ 64 ≡ r * 2 ^ 52 = omega arith in
    let d = c.division.ensures in
    let b = c.bits_and_numbers.ensures in
    record {
      value = c.check_of-self-inside.ensures.is
          ∙ ap (λ n. value (crc (bits 64 (bit_xor c.args.payload n)))) up
          ∙ sym (value-crc-payload d.linear d.length d.zeros d.goes_on b.length b.value_of_bits b.bits_of_value b.below b.append d.xor b.parts taken r c.args.payload (omega arith)
          (c.self.view_is ∙ h.value));
    }
