use Rattle.std.proofs.Common.{◌≡◌, ◌≢◌, ℕ, ◌+◌, ◌-◌, ◌*◌, ◌%◌, ◌^◌, ◌∙◌, ◌<◌, List, length, map, bit_and, set, ap, sym, below_more, get_or-set_other, get_or-set_same, arith}
use Rattle.std.proofs.Math.ListN.{length-set}
use Rattle.std.proofs.Math.Nat.{mod-eq_of_lt}
use Rattle.scenario.specs.Plans.{numbers_from}
use Rattle.scenario.proofs.SourceLemmas.{listed, masked, ramp-next}
use Rattle.scenario.proofs.source.ramp_words.Goals as goal

pub loop-word-preserved : goal.loop-word-preserved
loop-word-preserved c =
    let i = c.loop-word.invariant in
    let at : ℕ = c.loop-word.word-index in
    record {
      value = ap (λ v. (v + c.args.step) % 2 ^ 64) i.value
          ∙ ramp-next c.args.first c.args.step at (2 ^ 64);
      written = below_more _ _
          (λ k h. let ne : k ≢ at = omega arith in rw get_or-set_other (i.written k h))
          (let lt : at < length c.loop-word.words = omega arith in
          rw get_or-set_same
          (masked c.loop-word.value (c.args.first + c.args.step * at) c.args.bits c.requires
          i.value));
    }

pub returns : goal.returns
returns c =
    let f : ℕ → ℕ = (λ k. (c.args.first + c.args.step * k) % 2 ^ c.args.bits) in
    listed c.loop-word.words f (λ k lt. let below : k < c.loop-word.word-index = omega arith in
    c.loop-word.invariant.written k below)
    ∙ ap (λ m. map f (numbers_from 0 m)) c.loop-word.auto.words

pub returns-then-words-eq1 : goal.returns-then-words-eq1
returns-then-words-eq1 c =
    let words : List ℕ = c.args.words.now in
    let f : ℕ → ℕ = (λ k. (c.args.first + c.args.step * k) % 2 ^ c.args.bits) in
    let v : ℕ = bit_and c.args.first (1 * 2 ^ c.args.bits % 2 ^ 64 - 1) in
    let len : length (set words 0 v) ≡ length words = length-set words 0 v in
    let below : c.args.first < 2 ^ 64 = c.ranges.first.fits in
    let same : c.args.first + c.args.step * 0 ≡ c.args.first = omega arith in
    let whole : c.args.first ≡ (c.args.first + c.args.step * 0) % 2 ^ 64
    = sym (ap (λ n. n % 2 ^ 64) same ∙ mod-eq_of_lt below) in
    let word = masked c.args.first (c.args.first + c.args.step * 0) c.args.bits c.requires whole in
    let some : 0 < length words = omega arith in
    listed (set words 0 v) f
    (λ k lt. let first : k ≡ 0 = omega arith in rw (first, get_or-set_same words 0 v 0 some) word)
    ∙ ap (λ m. map f (numbers_from 0 m)) len
