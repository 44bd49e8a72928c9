use Rattle.std.proofs.Common.{◌≡◌, ◌<◌, ◌≤◌, ◌++◌, ◌∙◌, sym, ap, length, length-set, take, arith}
use Rattle.std.proofs.lemmas.List.{append-nil, take_more_set, take_all}
use Rattle.scenario.specs.Digits.{hex_digits}
use Rattle.scenario.proofs.LineLemmas.{digit-more}
use Rattle.scenario.proofs.digits.write_digits.Goals as goal

pub loop-place-preserved : goal.loop-place-preserved
loop-place-preserved c =
    let inv = c.loop-place.invariant in
    let i = c.loop-place.place-index in
    let ds = c.loop-place.places in
    let lt : i < length ds = omega (arith, c.loop-place.auto.places, c.loop-place-test.true) in
    let some : 0 < c.loop-place.left = omega (arith, inv.left) in
    record {
      left = rw length-set (omega (arith, inv.left));
      digits =
          rw length-set
          (digit-more _ (take i ds) _ c.loop-place.left c.args.word c.digit_of.result some
          inv.digits
          c.digit_of.ensures (take_more_set ds i c.digit_of.result lt));
    }

pub returns : goal.returns
unfolding hex_digits
returns c =
    let inv = c.loop-place.invariant in
    let i = c.loop-place.place-index in
    let ds = c.loop-place.places in
    let ge : length ds ≤ i = omega (arith, c.loop-place.auto.places, c.loop-place-test.false) in
    let none : c.loop-place.left ≡ 0 = omega (arith, inv.left) in
    sym (take_all i ds ge) ∙ sym (append-nil (take i ds))
    ∙ ap (λ k. take i ds ++ hex_digits k c.args.word) (sym none) ∙ inv.digits
    ∙ ap (λ n. hex_digits n c.args.word) c.loop-place.auto.places
