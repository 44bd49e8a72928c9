use Rattle.std.proofs.Common.{◌∙◌, ap, ℕ}
use Rattle.jesd_base.specs.Bits.{bits, value}
use Rattle.code_8b10b.specs.Code.{after}
use Rattle.lane_b.specs.kept.Across.{ten_across}
use Rattle.lane_b.proofs.AcrossLemmas.{across-value, across-below}
use Rattle.lane_b.proofs.chars.Chars.next.Goals as goal

pub returns-clause-reading : goal.returns-clause-reading
returns-clause-reading c =
    let e = c.bits_and_numbers.ensures in
    let rest : ℕ = c.args.self.now.rest in
    let is = across-value e.value_of_bits e.both e.parts c.args.self.now.last c.args.bits rest c.args.self.now.ten_bits c.requires.bits c.args.self.now.few in
    let below = across-below e.value_of_bits e.both e.parts c.args.self.now.last c.args.bits rest c.requires.bits c.args.self.now.few in
    let w : ℕ = value (ten_across rest (bits 10 c.args.self.now.last) (bits 10 c.args.bits)) in
    let one = (c.code_laws.ensures.reading c.args.self.now.rd w below).1 c.decode-reading.result.0 in
    let r = rw (c.from.ensures, c.from-2.ensures, is) at c.decode-reading.ensures.reading in
    one r

pub returns-clause-rd : goal.returns-clause-rd
returns-clause-rd c =
    let e = c.bits_and_numbers.ensures in
    let rest : ℕ = c.args.self.now.rest in
    let is = across-value e.value_of_bits e.both e.parts c.args.self.now.last c.args.bits rest c.args.self.now.ten_bits c.requires.bits c.args.self.now.few in
    let r = rw (c.from.ensures, c.from-2.ensures) at c.decode-reading.ensures.disparity in
    r ∙ ap (after c.args.self.now.rd) is
