use Rattle.std.proofs.Common.{◌≡◌, ◌≤◌, ◌<◌, ◌+◌, ◌-◌, ◌∙◌, suc, sym, ap, length, length-set, add-one, arith, ℕ, option_map, Some}
use Rattle.std.proofs.lemmas.List.{take_more_set, take_all}
use Rattle.scenario.specs.declared.cause.Cause.TheVariants as cause
use Rattle.scenario.specs.Check.{lowest, fault}
use Rattle.scenario.specs.Reads.{texts_of, are_numbers, numbers_in_fields, field, num}
use Rattle.scenario.specs.Text.{number}
use Rattle.scenario.proofs.ReadLemmas.{numbers_from-more, lowest-number, lowest-unread, lowest-no_numbers, is_number-Some, is_number-None, num-Some}
use Rattle.scenario.proofs.row.read_numbers.Goals as goal

pub loop-slot-preserved : goal.loop-slot-preserved
loop-slot-preserved c =
    let ts = texts_of c.args.row.now in
    let i = c.loop-slot.slot-index in
    let ns = c.loop-slot.numbers in
    let inv = c.loop-slot.invariant in
    let lt : i < length ns = omega (arith, c.loop-slot.auto.numbers, c.loop-slot-test.true) in
    let m : ℕ = length ns - (i + 1) in
    let left : length ns - i ≡ suc m = omega arith in
    let is : Some c.in-Some.n ≡ number (field ts c.loop-slot.at) =
    rw c.field_at.ensures at c.in-Some.ensures in
    let n : c.in-Some.n ≡ num ts (c.args.from + i) = num-Some ts c.loop-slot.at c.in-Some.n is
    ∙ ap (num ts) inv.0 in (
      omega (arith, inv.0),
      take_more_set ns i c.in-Some.n lt
          ∙ (rw (inv.1, n) (sym (numbers_from-more i c.args.from ts)
          ∙ ap (λ k. numbers_in_fields c.args.from k ts) (sym (add-one i)))),
      rw length-set
          (lowest-number m c.loop-slot.at ts
          (is_number-Some (field ts c.loop-slot.at) c.in-Some.n is)
          ∙ ap (λ k. lowest c.loop-slot.at (are_numbers c.loop-slot.at k ts)) (sym left) ∙ inv.2),
    )

pub returns-in-None : goal.returns-in-None
returns-in-None c =
    let ts = texts_of c.args.row.now in
    let i = c.loop-slot.slot-index in
    let ns = c.loop-slot.numbers in
    let lt : i < length ns = omega (arith, c.loop-slot.auto.numbers, c.loop-slot-test.true) in
    let m : ℕ = length ns - (i + 1) in
    let left : length ns - i ≡ suc m = omega arith in
    let none = is_number-None (field ts c.loop-slot.at)
    (rw c.field_at.ensures at c.in-None.ensures) in
    rw (length-set, c.at.ensures)
    (ap (option_map (fault cause.Form)) (sym c.loop-slot.invariant.2
    ∙ ap (λ k. lowest c.loop-slot.at (are_numbers c.loop-slot.at k ts)) left
    ∙ lowest-unread m c.loop-slot.at ts none))

pub returns : goal.returns
returns c =
    let ts = texts_of c.args.row.now in
    let i = c.loop-slot.slot-index in
    let ns = c.loop-slot.numbers in
    let inv = c.loop-slot.invariant in
    let ge : length ns ≤ i = omega (arith, c.loop-slot.auto.numbers, c.loop-slot-test.false) in
    let le : i ≤ length ns =
    omega (arith, c.loop-slot.auto.numbers, c.loop-slot.auto.slot-index-end) in
    let is : i ≡ length ns = omega arith in (
      sym inv.2 ∙ lowest-no_numbers (length ns - i) c.loop-slot.at ts (omega arith),
      sym (take_all i ns ge) ∙ inv.1 ∙ ap (λ k. numbers_in_fields c.args.from k ts) is,
    )
