-- Lists of bits and their numbers, and the least place.
use Rattle.std.proofs.Common.{◌≡◌, ℕ, zero, suc, ◌+◌, ◌-◌, ◌*◌, ◌/◌, ◌%◌, ◌^◌, ◌<◌, ◌≤◌, ◌==◌, ◌++◌, Bool, true, false, List, [], ◌∷◌, length, Some, None, refl, sym, ◌∙◌, ap, ap₂, inl, inr, zero-add, length-append, arith}
use Rattle.std.proofs.Math.Nat.{pow-suc, suc-add, mod-lt, div-mul-le_self, mod-eq-sub-div-mul}
use Rattle.std.proofs.lemmas.Nat.{pow-add, pow_pos, mod-pow-add}
use Rattle.std.proofs.lemmas.Nat.Bits.{bit_at_cat_low, bit_at_cat_high, bit_at-lt}
use Rattle.std.proofs.lemmas.Bool.{cases_Bool, cases_lt, true≢false}
use Rattle.std.specs.Int.{bit_at}
use Rattle.jesd_base.specs.Bits.{bit, bits, value, zeros}
use Rattle.jesd_base.specs.laws.BitLaws.{BitsLength, ValueOfBits, BitsOfValue, ValueBelow, ValueOfAppend, BitsOfBoth, BitsOfParts, ZerosLength}
use Rattle.jesd_base.specs.Search.{first_from, IsLeast, FindsLeast, FindsNone}

pub pow_double : (n : ℕ) → 2 ^ suc n ≡ 2 * 2 ^ n
pow_double n = rw (pow-suc 2 n) (omega arith)

pub bits_length : BitsLength
unfolding bits
bits_length zero x = refl
bits_length (suc n) x = ap suc (bits_length n x)

pub value_below : ValueBelow
value_below [] = omega arith
value_below (true ∷ xs) = let h = value_below xs in let p : 2 ^ suc (length xs) ≡ 2 * 2 ^ length xs = pow_double (length xs) in rw p (omega arith)
value_below (false ∷ xs) = let h = value_below xs in let p : 2 ^ suc (length xs) ≡ 2 * 2 ^ length xs = pow_double (length xs) in rw p (omega arith)

pub value_of_append : ValueOfAppend
value_of_append [] ys = omega arith
value_of_append (true ∷ xs) ys =
    let h = value_of_append xs ys in
    let l = length-append xs ys in
    let p = pow-add 2 (length xs) (length ys) in
    rw (l, p, h) (omega arith)
value_of_append (false ∷ xs) ys = let h = value_of_append xs ys in rw h (omega arith)

-- a bit as a number, from a test
bit_of_test : (b : ℕ) → b < 2 → bit (b == 1) ≡ b
bit_of_test b lt = elim (cases_lt b 1) [
  | inl below ↦ let e : b ≡ 0 = omega arith in rw e refl
  | inr above ↦ let e : b ≡ 1 = omega arith in rw e refl
]

pub value_of_bits : ValueOfBits
unfolding bits
value_of_bits zero x = omega arith
value_of_bits (suc n) x =
    let h = value_of_bits n x in
    let l = bits_length n x in
    let b = bit_of_test (bit_at x n) (bit_at-lt x n) in
    let m : x % 2 ^ (1 + n) ≡ (x / 2 ^ n % 2) * 2 ^ n + x % 2 ^ n = mod-pow-add x 1 n in
    let s : suc n ≡ 1 + n = omega arith in
    rw (b, h, l, s) (sym m)

-- bits above the low n don't matter
pub bits-high : (n m a x : ℕ) → n ≤ m → bits n (a * 2 ^ m + x) ≡ bits n x
unfolding bits
bits-high zero m a x le = refl
bits-high (suc n) m a x le =
    let lt : n < m = omega arith in
    ap₂ {C = List Bool} (λ y r. y ∷ r) (ap (λ v. v == 1) (bit_at_cat_low a m x n lt)) (bits-high n m a x (omega arith))

pub bits_of_value : BitsOfValue
unfolding bits
bits_of_value [] = refl
bits_of_value (true ∷ bs) =
    let n : ℕ = length bs in
    let first : bit_at (1 * 2 ^ n + value bs) n ≡ bit_at 1 (n - n) = bit_at_cat_high 1 n (value bs) n (value_below bs) (omega arith) in
    let z : n - n ≡ 0 = omega arith in
    let one : bit_at (1 * 2 ^ n + value bs) n ≡ 1 = first ∙ ap (bit_at 1) z in
    ap₂ {C = List Bool} (λ y r. y ∷ r) (ap (λ v. v == 1) one) (bits-high n n 1 (value bs) (omega arith) ∙ bits_of_value bs)
bits_of_value (false ∷ bs) =
    let n : ℕ = length bs in
    let first : bit_at (0 * 2 ^ n + value bs) n ≡ bit_at 0 (n - n) = bit_at_cat_high 0 n (value bs) n (value_below bs) (omega arith) in
    let z : n - n ≡ 0 = omega arith in
    let none : bit_at (0 * 2 ^ n + value bs) n ≡ 0 = first ∙ ap (bit_at 0) z in
    ap₂ {C = List Bool} (λ y r. y ∷ r) (ap (λ v. v == 1) none) (bits-high n n 0 (value bs) (omega arith) ∙ bits_of_value bs)

pub bits_of_both : BitsOfBoth
unfolding bits
bits_of_both zero n x y lt = rw (zero-add n) (bits-high n n x y (omega arith))
bits_of_both (suc m) n x y lt =
    let e : m + n - n ≡ m = omega arith in
    let first : bit_at (x * 2 ^ n + y) (m + n) ≡ bit_at x m = bit_at_cat_high x n y (m + n) lt (omega arith) ∙ ap (bit_at x) e in
    rw (suc-add m n) (ap₂ {C = List Bool} (λ b r. b ∷ r) (ap (λ v. v == 1) first) (bits_of_both m n x y lt))

pub bits_of_parts : BitsOfParts
unfolding bits
bits_of_parts m n x =
    let below = div-mul-le_self x (2 ^ n) in
    let rest = mod-eq-sub-div-mul x (2 ^ n) in
    let e : x ≡ x / 2 ^ n * 2 ^ n + x % 2 ^ n = omega arith in
    let low : bits n x ≡ bits n (x % 2 ^ n) = ap (bits n) e ∙ bits-high n n (x / 2 ^ n) (x % 2 ^ n) (omega arith) in
    ap (bits (m + n)) e ∙ bits_of_both m n (x / 2 ^ n) (x % 2 ^ n) (mod-lt x (pow_pos n)) ∙ ap (λ r. bits m (x / 2 ^ n) ++ r) (sym low)

pub zeros_length : ZerosLength
unfolding zeros
zeros_length zero = refl
zeros_length (suc n) = ap suc (zeros_length n)

-- ---- the least place

least_here : (test : ℕ → Bool) (p : ℕ) → test p ≡ true → IsLeast test p p
least_here test p h = record { from = omega arith; passes = h; least = λ y low high. absurd (omega arith) }

least_later : (test : ℕ → Bool) (p x : ℕ) → test p ≡ false → IsLeast test (suc p) x → IsLeast test p x
least_later test p x h later =
    let f = later.from in
    record {
      from = omega arith;
      passes = later.passes;
      least = λ y low high. elim (cases_lt p y) [
        | inl above ↦ later.least y (omega arith) high
        | inr here ↦ let e : y ≡ p = omega arith in rw e h
      ];
    }

least_after : (test : ℕ → Bool) (p x : ℕ) → test p ≡ false → IsLeast test p x → IsLeast test (suc p) x
least_after test p x h whole =
    let f = whole.from in
    record {
      from = elim (cases_lt p x) [
        | inl above ↦ omega arith
        | inr here ↦ let e : x ≡ p = omega arith in absurd (true≢false (rw e at (sym whole.passes) ∙ h))
      ];
      passes = whole.passes;
      least = λ y low high. whole.least y (omega arith) high;
    }

pub finds_least : FindsLeast
unfolding first_from
finds_least test zero p x = (λ e. cc, λ least lt. let f = least.from in absurd (omega arith))
finds_least test (suc n) p x = elim (cases_Bool (test p)) [
  | inl here ↦ (
    λ e. let some : Some p ≡ Some x = rw here at e in let same : p ≡ x = cc in rw (← same) (least_here test p here, omega arith),
    λ least lt. elim (cases_lt p x) [
      | inl above ↦ let no = least.least p (omega arith) above in absurd (true≢false (sym here ∙ no))
      | inr same ↦ let f = least.from in let e : x ≡ p = omega arith in rw (here, e) refl
    ],
  )
  | inr apart ↦
      let later = finds_least test n (suc p) x in (
        λ e. let some : first_from test n (suc p) ≡ Some x = rw apart at e in let r = later.0 some in let b = r.1 in (least_later test p x apart r.0, omega arith),
        λ least lt. rw apart (later.1 (least_after test p x apart least) (omega arith)),
      )
]

pub finds_none : FindsNone
unfolding first_from
finds_none test zero p = (λ e y low high. absurd (omega arith), λ none. refl)
finds_none test (suc n) p = elim (cases_Bool (test p)) [
  | inl here ↦ (
    λ e. let some : Some p ≡ None = rw here at e in cc,
    λ none. absurd (true≢false (sym here ∙ none p (omega arith) (omega arith))),
  )
  | inr apart ↦
      let later = finds_none test n (suc p) in (
        λ e. let rest : first_from test n (suc p) ≡ None = rw apart at e in λ y low high. elim (cases_lt p y) [
          | inl above ↦ later.0 rest y (omega arith) (omega arith)
          | inr here ↦ let same : y ≡ p = omega arith in rw same apart
        ],
        λ none. rw apart (later.1 (λ y low high. none y (omega arith) (omega arith))),
      )
]
