use Rattle.std.proofs.Common.{◌≡◌, ◌≢◌, ◌/◌, ◌^◌, ◌+◌, ◌-◌, ℕ, arith, sym, ◌∙◌}
use Rattle.std.proofs.lemmas.Nat.{and_mask}
use Rattle.std.specs.Int.Bits.{bit_and}
use Rattle.code_8b10b.specs.declared.hunt.TheConstants.{COMMAS, OTHER_COMMAS, FORTY_BITS}
use Rattle.code_8b10b.proofs.Locks.{found-no_phase, found-early, found-others, nowhere_before}
use Rattle.code_8b10b.proofs.Windows.{BitLaws, found-bits_commas, found-bits_other}
use Rattle.code_8b10b.proofs.hunt.lock_in.Goals as goal

pub returns-in_err-rest-clause-answer : goal.returns-in_err-rest-clause-answer
returns-in_err-rest-clause-answer c =
    let e = c.bits_and_numbers.ensures in
    let laws : BitLaws = record { value_of_bits = e.value_of_bits; bits_of_value = e.bits_of_value; bits_of_both = e.both } in
    let p = c.phase_of.ensures in
    c.from_residual.ensures ∙ sym (found-no_phase laws c.args.count c.args.window c.phase_of.result c.requires.count p.commas p.other_commas c.in_err-rest.was)

pub returns-then-count-rest-clause-answer : goal.returns-then-count-rest-clause-answer
returns-then-count-rest-clause-answer c =
    let e = c.bits_and_numbers.ensures in
    let laws : BitLaws = record { value_of_bits = e.value_of_bits; bits_of_value = e.bits_of_value; bits_of_both = e.both } in
    let p = c.phase_of.ensures in
    sym (found-early laws c.args.count c.args.window c.phase_of.result c.requires.count p.commas p.other_commas c.in_ok-rest.rest c.in_ok-rest.was c.if-count-rest.true)

pub returns-in-269246262021-clause-answer : goal.returns-in-269246262021-clause-answer
returns-in-269246262021-clause-answer c =
    let e = c.bits_and_numbers.ensures in
    let laws : BitLaws = record { value_of_bits = e.value_of_bits; bits_of_value = e.bits_of_value; bits_of_both = e.both } in
    let p = c.phase_of.ensures in
    let r : ℕ = c.in_ok-rest.rest in
    let x : ℕ = c.args.count - (40 + r) in
    let at : x + 40 + r ≡ c.args.count = omega arith in
    let before = nowhere_before laws c.args.count c.args.window c.phase_of.result c.requires.count p.commas p.other_commas r c.in_ok-rest.was c.if-count-rest.false in
    sym (found-bits_commas laws c.args.count c.args.window x r at (sym (and_mask _ 40) ∙ c.in-269246262021.is) before)

pub returns-in-830265365754-clause-answer : goal.returns-in-830265365754-clause-answer
returns-in-830265365754-clause-answer c =
    let e = c.bits_and_numbers.ensures in
    let laws : BitLaws = record { value_of_bits = e.value_of_bits; bits_of_value = e.bits_of_value; bits_of_both = e.both } in
    let p = c.phase_of.ensures in
    let r : ℕ = c.in_ok-rest.rest in
    let x : ℕ = c.args.count - (40 + r) in
    let at : x + 40 + r ≡ c.args.count = omega arith in
    let before = nowhere_before laws c.args.count c.args.window c.phase_of.result c.requires.count p.commas p.other_commas r c.in_ok-rest.was c.if-count-rest.false in
    sym (found-bits_other laws c.args.count c.args.window x r at (sym (and_mask _ 40) ∙ c.in-830265365754.is) before)

pub returns-in_default-clause-answer : goal.returns-in_default-clause-answer
returns-in_default-clause-answer c =
    let e = c.bits_and_numbers.ensures in
    let laws : BitLaws = record { value_of_bits = e.value_of_bits; bits_of_value = e.bits_of_value; bits_of_both = e.both } in
    let p = c.phase_of.ensures in
    let r : ℕ = c.in_ok-rest.rest in
    let four : ℕ = c.args.window / 2 ^ r in
    let first : bit_and four FORTY_BITS ≢ COMMAS = omega arith in
    let second : bit_and four FORTY_BITS ≢ OTHER_COMMAS = omega arith in
    sym (found-others laws c.args.count c.args.window c.phase_of.result c.requires.count p.commas p.other_commas r c.in_ok-rest.was
    (λ same. first (and_mask four 40 ∙ same))
    (λ same. second (and_mask four 40 ∙ same)))
