-- No shift of a pattern within the word is a pattern.
use Rattle.std.proofs.Common.{◌≡◌, ℕ, zero, suc, ◌+◌, ◌-◌, ◌*◌, ◌/◌, ◌%◌, ◌^◌, ◌<◌, ◌≤◌, nat_lt, nat_le, Bool, true, ◌&&◌, ◌||◌, refl, sym, ◌∙◌, ap, add-zero, zero-add, arith, inl, inr, bit_xor}
use Rattle.std.specs.Int.Bits.{xor_assoc, xor_self, xor_zero_r, xor_block}
use Rattle.std.proofs.lemmas.Nat.{xor_mod, xor_lt}
use Rattle.std.proofs.lemmas.Bool.{and_parts, or_cases, cases_lt, ltb-true, leb-true, lt-ltb, le-ltb}
use Rattle.fire_fec.specs.kept.Shifting.{times_x, times_pow, over_x}

-- nine bits, the first of them 1
abbrev pub IsMask : ℕ → Type 0
IsMask m = (256 ≤ m) × (m < 512)

-- none of the next n shifts of r is a pattern of nine bits whose first bit is 1
pub is_free : ℕ → ℕ → Bool
is_free zero r = true
is_free (suc n) r = (nat_lt (times_x r) 256 || nat_le 512 (times_x r)) && is_free n (times_x r)

-- two patterns at two places are one where they have one remainder
abbrev pub BurstsDiffer : Type 0
BurstsDiffer = (a b m n : ℕ) → a < 2074 → b < 2074 → IsMask m → IsMask n → times_pow a m ≡ times_pow b n → (a ≡ b) × (m ≡ n)

abbrev pub all_below : (ℕ → Bool) → ℕ → Bool
all_below p zero = true
all_below p (suc n) = p n && all_below p n

pub all_below_at : (p : ℕ → Bool) (n k : ℕ) → all_below p n ≡ true → k < n → p k ≡ true
all_below_at p zero k h lt = absurd (omega arith)
all_below_at p (suc n) k h lt =
    let parts = and_parts (p n) (all_below p n) h in
    elim (cases_lt k n) [
      | inl below ↦ all_below_at p n k parts.1 below
      | inr top ↦
          let e : k ≡ n = omega arith in
          rw e parts.0
    ]

free_from : ℕ → ℕ → Bool
free_from base i = is_free 2073 (base + i)

free_256 : all_below (free_from 256) 64 ≡ true
unfolding free_from is_free times_x
free_256 = refl

free_320 : all_below (free_from 320) 64 ≡ true
unfolding free_from is_free times_x
free_320 = refl

free_384 : all_below (free_from 384) 64 ≡ true
unfolding free_from is_free times_x
free_384 = refl

free_448 : all_below (free_from 448) 64 ≡ true
unfolding free_from is_free times_x
free_448 = refl

from_block : (base m : ℕ) → all_below (free_from base) 64 ≡ true → base ≤ m → m < base + 64 → is_free 2073 m ≡ true
unfolding free_from
from_block base m h lo hi =
    let at = all_below_at (free_from base) 64 (m - base) h (omega arith) in
    let e : base + (m - base) ≡ m = omega arith in
    rw e at at

pub free : (m : ℕ) → IsMask m → is_free 2073 m ≡ true
free m h = elim (cases_lt m 320) [
  | inl a ↦ from_block 256 m free_256 h.0 a
  | inr b ↦ elim (cases_lt m 384) [
    | inl c ↦ from_block 320 m free_320 (omega arith) c
    | inr d ↦ elim (cases_lt m 448) [
      | inl e ↦ from_block 384 m free_384 (omega arith) e
      | inr f ↦ from_block 448 m free_448 (omega arith) (omega arith)
    ]
  ]
]

free_at : (n d r : ℕ) → is_free n r ≡ true → 0 < d → d ≤ n → IsMask (times_pow d r) → ⊥
unfolding is_free times_x times_pow
free_at n zero r h pos le mask = absurd (omega arith)
free_at zero (suc d) r h pos le mask = absurd (omega arith)
free_at (suc n) (suc d) r h pos le mask =
    let parts = and_parts (nat_lt (times_x r) 256 || nat_le 512 (times_x r)) (is_free n (times_x r)) h in
    elim (cases_lt 0 d) [
      | inl more ↦ free_at n d (times_x r) parts.1 more (omega arith) mask
      | inr last ↦
          let z : d ≡ 0 = omega arith in
          let here : IsMask (times_x r) = rw z at mask in
          elim (or_cases (nat_lt (times_x r) 256) (nat_le 512 (times_x r)) parts.0) [
            | inl low ↦ let l = ltb-true _ _ low in omega (arith, here.0, l)
            | inr high ↦ let l = leb-true _ _ high in omega (arith, here.1, l)
          ]
    ]

-- ---- times x has an inverse
pub over_times_x : (r : ℕ) → r < 2 ^ 26 → over_x (times_x r) ≡ r
unfolding over_x times_x
over_times_x r lt = elim (cases_lt r 0x2000000) [
  | inl low ↦
      let b = lt-ltb r 0x2000000 low in
      let e : (2 * r) % 2 ≡ 0 = omega arith in
      let h : 2 * r / 2 ≡ r = omega arith in
      rw (b, e) h
  | inr high ↦
      let b = le-ltb r 0x2000000 high in
      let e : (2 * r) % 2 ^ 1 ≡ 0 = omega arith in
      let m : bit_xor (2 * r) 0x4220211 % 2 ≡ 1 = xor_mod (2 * r) 0x4220211 1 ∙ rw e refl in
      let back : bit_xor (bit_xor (2 * r) 0x4220211) 0x4220211 ≡ 2 * r = xor_assoc (2 * r) 0x4220211 0x4220211 ∙ rw (xor_self 0x4220211) (xor_zero_r (2 * r)) in
      let h : 2 * r / 2 ≡ r = omega arith in
      rw (b, m, back) h
]

pub times_x_small : (r : ℕ) → r < 2 ^ 26 → times_x r < 2 ^ 26
unfolding times_x
times_x_small r lt = elim (cases_lt r 0x2000000) [
  | inl low ↦ let b = lt-ltb r 0x2000000 low in rw b (omega arith)
  | inr high ↦
      let b = le-ltb r 0x2000000 high in
      let s : ℕ = 2 * r - 2 ^ 26 in
      let small : s < 2 ^ 26 = omega arith in
      let e : 2 * r ≡ 1 * 2 ^ 26 + s = omega arith in
      let x = xor_block 26 1 1 s 0x220211 small (omega arith) in
      let y : bit_xor (2 * r) 0x4220211 ≡ bit_xor s 0x220211 = ap (λ v. bit_xor v 0x4220211) e ∙ x ∙ zero-add _ in
      rw (b, y) (xor_lt 26 s 0x220211 small (omega arith))
]

pub times_x_same : (r s : ℕ) → r < 2 ^ 26 → s < 2 ^ 26 → times_x r ≡ times_x s → r ≡ s
times_x_same r s lr ls e = sym (over_times_x r lr) ∙ ap over_x e ∙ over_times_x s ls

pub times_pow_small : (n r : ℕ) → r < 2 ^ 26 → times_pow n r < 2 ^ 26
unfolding times_pow
times_pow_small zero r lt = lt
times_pow_small (suc n) r lt = times_pow_small n (times_x r) (times_x_small r lt)

pub times_pow_same : (n r s : ℕ) → r < 2 ^ 26 → s < 2 ^ 26 → times_pow n r ≡ times_pow n s → r ≡ s
unfolding times_pow
times_pow_same zero r s lr ls e = e
times_pow_same (suc n) r s lr ls e = times_x_same r s lr ls (times_pow_same n (times_x r) (times_x s) (times_x_small r lr) (times_x_small s ls) e)

pub times_pow_add : (a d r : ℕ) → times_pow (a + d) r ≡ times_pow a (times_pow d r)
unfolding times_pow
times_pow_add a zero r = rw add-zero refl
times_pow_add a (suc d) r = let e : a + suc d ≡ suc (a + d) = omega arith in rw e (times_pow_add a d (times_x r))

one_way : (a b m n : ℕ) → a ≤ b → b < 2074 → IsMask m → IsMask n → times_pow a m ≡ times_pow b n → (a ≡ b) × (m ≡ n)
unfolding times_pow
one_way a b m n le lt hm hn e =
    let d : ℕ = b - a in
    let s : b ≡ a + d = omega arith in
    let e2 : times_pow a m ≡ times_pow a (times_pow d n) = e ∙ ap (λ v. times_pow v n) s ∙ times_pow_add a d n in
    let same : m ≡ times_pow d n = times_pow_same a m (times_pow d n) (omega arith) (times_pow_small d n (omega arith)) e2 in
    elim (cases_lt 0 d) [
      | inl more ↦ absurd (free_at 2073 d n (free n hn) more (omega arith) (rw (← same) hm))
      | inr none ↦ let z : d ≡ 0 = omega arith in (omega arith, rw z at same)
    ]

pub bursts_differ_hold : BurstsDiffer
unfolding times_pow
bursts_differ_hold a b m n la lb hm hn e = elim (cases_lt a b) [
  | inl less ↦ one_way a b m n (omega arith) lb hm hn e
  | inr more ↦ let r = one_way b a n m more la hn hm (sym e) in (sym r.0, sym r.1)
]
