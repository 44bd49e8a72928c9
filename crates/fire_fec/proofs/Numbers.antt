-- Bits of numbers.
use Rattle.std.proofs.Common.{◌≡◌, ℕ, zero, suc, ◌+◌, ◌-◌, ◌*◌, ◌/◌, ◌%◌, ◌^◌, ◌<◌, ◌≤◌, ◌==◌, Bool, List, ◌∷◌, ◌++◌, length, refl, sym, ◌∙◌, ap, ap₂, inl, inr, zero-add, arith, bit_xor}
use Rattle.std.proofs.Math.Nat.{suc-add}
use Rattle.std.proofs.lemmas.Nat.{pow_pos, mod-pow-add}
use Rattle.std.proofs.lemmas.Nat.Bits.{bit_at_cat_low, bit_at_cat_high, bit_at-lt, bit_at-zero, bit_at_xor}
use Rattle.std.proofs.lemmas.Bool.{cases_lt}
use Rattle.std.specs.Int.{bit_at}
use Rattle.jesd_base.specs.Bits.{add, bit, bits, value, zeros}
use Rattle.jesd_base.specs.Division.{add_bits}

pub bits_length : (n x : ℕ) → length (bits n x) ≡ n
unfolding bits
bits_length zero x = refl
bits_length (suc n) x = ap suc (bits_length n x)

-- a bit as a number, from a test
bit_of_test : (b : ℕ) → b < 2 → bit (b == 1) ≡ b
bit_of_test b lt = elim (cases_lt b 1) [
  | inl below ↦ let e : b ≡ 0 = omega arith in rw e refl
  | inr above ↦ let e : b ≡ 1 = omega arith in rw e refl
]

pub value_of_bits : (n x : ℕ) → value (bits n x) ≡ x % 2 ^ n
unfolding bits
value_of_bits zero x = omega arith
value_of_bits (suc n) x =
    let h = value_of_bits n x in
    let l = bits_length n x in
    let b = bit_of_test (bit_at x n) (bit_at-lt x n) in
    let m : x % 2 ^ (1 + n) ≡ (x / 2 ^ n % 2) * 2 ^ n + x % 2 ^ n = mod-pow-add x 1 n in
    let s : suc n ≡ 1 + n = omega arith in
    rw (b, h, l, s) (sym m)

-- bits above the low n don't matter
pub bits-high : (n m a x : ℕ) → n ≤ m → bits n (a * 2 ^ m + x) ≡ bits n x
unfolding bits
bits-high zero m a x le = refl
bits-high (suc n) m a x le =
    let lt : n < m = omega arith in
    ap₂ {C = List Bool} (λ y r. y ∷ r) (ap (λ v. v == 1) (bit_at_cat_low a m x n lt)) (bits-high n m a x (omega arith))

-- the bits of a number that is put together from two
pub bits_of_both : (m n x y : ℕ) → y < 2 ^ n → bits (m + n) (x * 2 ^ n + y) ≡ bits m x ++ bits n y
unfolding bits
bits_of_both zero n x y lt = rw (zero-add n) (bits-high n n x y (omega arith))
bits_of_both (suc m) n x y lt =
    let e : m + n - n ≡ m = omega arith in
    let first : bit_at (x * 2 ^ n + y) (m + n) ≡ bit_at x m = bit_at_cat_high x n y (m + n) lt (omega arith) ∙ ap (bit_at x) e in
    rw (suc-add m n) (ap₂ {C = List Bool} (λ b r. b ∷ r) (ap (λ v. v == 1) first) (bits_of_both m n x y lt))

whole : (n x : ℕ) → (x / 2 ^ n) * 2 ^ n + x % 2 ^ n ≡ x
whole n x = let p = pow_pos n in omega arith

pub bits-low : (n x : ℕ) → bits n (x % 2 ^ n) ≡ bits n x
bits-low n x = sym (bits-high n n (x / 2 ^ n) (x % 2 ^ n) (omega arith)) ∙ ap (bits n) (whole n x)

pub bits-split : (m n x : ℕ) → bits (m + n) x ≡ bits m (x / 2 ^ n) ++ bits n x
bits-split m n x =
    let p = pow_pos n in
    ap (bits (m + n)) (sym (whole n x)) ∙ bits_of_both m n (x / 2 ^ n) (x % 2 ^ n) (omega arith) ∙ ap (λ r. bits m (x / 2 ^ n) ++ r) (bits-low n x)

pub bits-zero : (n : ℕ) → bits n 0 ≡ zeros n
unfolding bits zeros
bits-zero zero = refl
bits-zero (suc n) = ap₂ {C = List Bool} (λ b r. b ∷ r) (ap (λ v. v == 1) (bit_at-zero n)) (bits-zero n)

test-sum : (a b : ℕ) → a < 2 → b < 2 → ((a + b) % 2 == 1) ≡ add (a == 1) (b == 1)
test-sum a b la lb = elim (cases_lt a 1) [
  | inl a0 ↦ let e : a ≡ 0 = omega arith in elim (cases_lt b 1) [
    | inl b0 ↦ let f : b ≡ 0 = omega arith in rw (e, f) refl
    | inr b1 ↦ let f : b ≡ 1 = omega arith in rw (e, f) refl
  ]
  | inr a1 ↦ let e : a ≡ 1 = omega arith in elim (cases_lt b 1) [
    | inl b0 ↦ let f : b ≡ 0 = omega arith in rw (e, f) refl
    | inr b1 ↦ let f : b ≡ 1 = omega arith in rw (e, f) refl
  ]
]

pub bits-xor : (n x y : ℕ) → bits n (bit_xor x y) ≡ add_bits (bits n x) (bits n y)
unfolding bits
bits-xor zero x y = refl
bits-xor (suc n) x y =
    ap₂ {C = List Bool} (λ b r. b ∷ r) (ap (λ v. v == 1) (bit_at_xor x y n) ∙ test-sum (bit_at x n) (bit_at y n) (bit_at-lt x n) (bit_at-lt y n)) (bits-xor n x y)
