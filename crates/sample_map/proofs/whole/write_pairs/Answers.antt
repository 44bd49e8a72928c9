use Rattle.std.proofs.Common.{◌≡◌, ℕ, ◌+◌, ◌*◌, ◌/◌, ◌%◌, ◌^◌, ◌<◌, List, length, get_or, inl, inr, refl, arith}
use Rattle.std.proofs.lemmas.Bool.{cases_lt}
use Rattle.std.proofs.lemmas.List.{get_or-set_other, get_or-set_same}
use Rattle.std.proofs.Math.ListN.{length-set, set}
use Rattle.sample_map.proofs.whole.write_pairs.Goals as goal

-- the octets with those of word r
abbrev pair : List ℕ → List ℕ → ℕ → ℕ → List ℕ
pair words out tail r = set (set out (2 * r) (get_or words r 0 * 2 ^ tail / 256)) (2 * r + 1) (get_or words r 0 * 2 ^ tail % 256)

first_more : (words out : List ℕ) (tail r : ℕ) → 2 * r + 1 < length out
    → ((j : ℕ) → j < r → get_or out (2 * j) 0 ≡ get_or words j 0 * 2 ^ tail / 256)
    → (j : ℕ) → j < r + 1 → get_or (pair words out tail r) (2 * j) 0 ≡ get_or words j 0 * 2 ^ tail / 256
first_more words out tail r lt before j below =
    let a : ℕ = get_or words r 0 * 2 ^ tail / 256 in
    let b : ℕ = get_or words r 0 * 2 ^ tail % 256 in
    elim (cases_lt j r) [
      | inl low ↦ rw (get_or-set_other (set out (2 * r) a) (2 * r + 1) (2 * j) b 0 (λ e. omega arith), get_or-set_other out (2 * r) (2 * j) a 0 (λ e. omega arith)) (before j low)
      | inr high ↦
          let e : j ≡ r = omega arith in
          rw (e, get_or-set_other (set out (2 * r) a) (2 * r + 1) (2 * r) b 0 (λ e. omega arith), get_or-set_same out (2 * r) a 0 (omega arith)) refl
    ]

second_more : (words out : List ℕ) (tail r : ℕ) → 2 * r + 1 < length out
    → ((j : ℕ) → j < r → get_or out (2 * j + 1) 0 ≡ get_or words j 0 * 2 ^ tail % 256)
    → (j : ℕ) → j < r + 1 → get_or (pair words out tail r) (2 * j + 1) 0 ≡ get_or words j 0 * 2 ^ tail % 256
second_more words out tail r lt before j below =
    let a : ℕ = get_or words r 0 * 2 ^ tail / 256 in
    let b : ℕ = get_or words r 0 * 2 ^ tail % 256 in
    let same = length-set out (2 * r) a in
    elim (cases_lt j r) [
      | inl low ↦ rw (get_or-set_other (set out (2 * r) a) (2 * r + 1) (2 * j + 1) b 0 (λ e. omega arith), get_or-set_other out (2 * r) (2 * j + 1) a 0 (λ e. omega arith)) (before j low)
      | inr high ↦
          let e : j ≡ r = omega arith in
          rw (e, get_or-set_same (set out (2 * r) a) (2 * r + 1) b 0 (omega arith)) refl
    ]

pub returns-then-words-eq1-clause-first : goal.returns-then-words-eq1-clause-first
returns-then-words-eq1-clause-first c = λ j lt.
    let words : List ℕ = c.args.words.now in
    rw c.write_pair.ensures
    (first_more words c.args.out.now c.args.tail 0 (omega arith) (λ i none. absurd (omega arith)) j (omega arith))

pub returns-then-words-eq1-clause-second : goal.returns-then-words-eq1-clause-second
returns-then-words-eq1-clause-second c = λ j lt.
    let words : List ℕ = c.args.words.now in
    rw c.write_pair.ensures
    (second_more words c.args.out.now c.args.tail 0 (omega arith) (λ i none. absurd (omega arith)) j (omega arith))

pub loop-r-preserved : goal.loop-r-preserved
loop-r-preserved c =
    let words : List ℕ = c.args.words.now in
    let r : ℕ = c.loop-r.r in
    let fits : 2 * r + 1 < length c.loop-r.out = omega arith in
    rw c.write_pair-in-loop-r.ensures (record {
      first = first_more words c.loop-r.out c.args.tail r fits c.loop-r.invariant.first;
      second = second_more words c.loop-r.out c.args.tail r fits c.loop-r.invariant.second;
    })
