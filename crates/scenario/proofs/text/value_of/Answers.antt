use Rattle.std.proofs.Common.{◌≤◌, ◌<◌, ◌+◌, ◌^◌, ◌*◌, ◌∙◌, sym, length, ℕ, arith}
use Rattle.scenario.proofs.TextLemmas.{value_after-more, value_after-other, pow_16, pow_16_more}
use Rattle.scenario.proofs.text.value_of.Goals as goal

small : (i v radix d : ℕ) → i < 10 → radix ≤ 16 → d < radix → v < 16 ^ i → v * radix + d < 16 ^ 10
small i v radix d few high low less = let le : i + 1 ≤ 10 = omega arith in
    pow_16 (i + 1) 10 (v * radix + d) le (pow_16_more i v radix d high low less)

pub overflow_mul-value : goal.overflow_mul-value
overflow_mul-value c = let d = c.in-Some.ensures.value in
    let few : c.loop-c.c-index < 10 = omega (arith, c.requires.short) in
    let s = small c.loop-c.c-index c.loop-c.value c.args.radix c.in-Some.digit few c.requires.high
    (rw d.1 d.0) c.loop-c.invariant.1 in
    rw c.from-in-Some.ensures (omega (arith, s))

pub overflow_add-value : goal.overflow_add-value
overflow_add-value c = let d = c.in-Some.ensures.value in
    let few : c.loop-c.c-index < 10 = omega (arith, c.requires.short) in
    let s = small c.loop-c.c-index c.loop-c.value c.args.radix c.in-Some.digit few c.requires.high
    (rw d.1 d.0) c.loop-c.invariant.1 in
    rw (c.from-in-Some.ensures, c.from-in-Some-2.ensures) (omega (arith, s))

pub loop-c-preserved : goal.loop-c-preserved
loop-c-preserved c = let d = c.in-Some.ensures.value in
    let first = rw c.from.ensures at d.0 in
    let is = rw c.from.ensures at d.1 in
    rw (c.from-in-Some.ensures, c.from-in-Some-2.ensures) (
      value_after-more c.args.text.now c.loop-c.c-index c.args.radix c.loop-c.value c.in-Some.digit
          c.loop-c-test.true first is ∙ c.loop-c.invariant.0,
      pow_16_more c.loop-c.c-index c.loop-c.value c.args.radix c.in-Some.digit c.requires.high
          (rw d.1 d.0) c.loop-c.invariant.1,
    )

pub returns-in-None : goal.returns-in-None
returns-in-None c =
    let none = rw c.from.ensures at c.in-None.ensures.value in record {
      value =
          sym (sym c.loop-c.invariant.0
          ∙ value_after-other c.args.text.now c.loop-c.c-index c.args.radix c.loop-c.value
          c.loop-c-test.true none);
      small = tt;
    }

pub returns-clause-small : goal.returns-clause-small
returns-clause-small c = pow_16 c.loop-c.c-index (length c.args.text.now) c.loop-c.value
    c.loop-c.auto.c-index-end c.loop-c.invariant.1
