-- The is_highest-fives of four commas by their five equal bits, for all bits around them.
use Rattle.std.proofs.Common.{◌≡◌, ℕ, suc, ◌+◌, ◌-◌, ◌*◌, ◌/◌, ◌%◌, ◌^◌, ◌<◌, ◌≤◌, nat_lt, nat_le, Bool, true, ◌&&◌, List, refl, sym, ◌∙◌, ap, arith, inl, inr}
use Rattle.std.proofs.Math.Nat.{mod-lt, div-lt_iff_lt-mul}
use Rattle.std.proofs.Math.Pow.{pow_pos, pow_mono}
use Rattle.std.proofs.lemmas.Nat.{and_mask, mod-pow-add, pow-add, shr_split, xor_lt}
use Rattle.std.proofs.lemmas.Bool.{and_parts, cases_lt, leb-true, ltb-true}
use Rattle.std.specs.Int.Bits.{bit_and, bit_or, bit_xor}
use Rattle.code_8b10b.proofs.Tabulated.{tabulated, same_below}

-- bit p is set where bits p + 3 to p + 7 are equal, for p below ten
unfoldable pub fives : ℕ → ℕ
fives w =
    let c = bit_xor w (w / 2) in
    bit_xor (bit_and (bit_or (bit_or (bit_or c (c / 2)) (c / 4)) (c / 8) / 8) 1023) 1023

-- its is_highest-one bit is r
unfoldable pub is_highest : ℕ → ℕ → Bool
is_highest r f = nat_le (2 ^ r) f && nat_lt f (2 ^ suc r)

pub is_highest-one : (r s f : ℕ) → is_highest r f ≡ true → 2 ^ s ≤ f → f < 2 * 2 ^ s → s ≡ r
unfolding is_highest
is_highest-one r s f h low high =
    let parts = and_parts (nat_le (2 ^ r) f) (nat_lt f (2 ^ suc r)) h in
    let a : 2 ^ r ≤ f = leb-true _ _ parts.0 in
    let b : f < 2 ^ suc r = ltb-true _ _ parts.1 in
    elim (cases_lt r s) [
      | inl below ↦ let p : 2 ^ suc r ≤ 2 ^ s = pow_mono (omega arith) in absurd (omega arith)
      | inr up ↦ elim (cases_lt s r) [
        | inl above ↦ let p : 2 ^ (s + 1) ≤ 2 ^ r = pow_mono (omega arith) in let q : 2 ^ (s + 1) ≡ 2 * 2 ^ s = pow-add 2 s 1 ∙ omega arith in absurd (omega arith)
        | inr same ↦ omega arith
      ]
    ]

-- forty bits with r bits after them and 9 - r before them
around : ℕ → ℕ → ℕ → ℕ → ℕ
around four r a b = a * 2 ^ (40 + r) + (four * 2 ^ r + b)

all_around : ℕ → (ℕ → ℕ → ℕ → Bool) → List (List (List Bool))
all_around n test = tabulated (λ r. tabulated (λ a. tabulated (test r a) (2 ^ r)) (2 ^ (9 - r))) n

shows : ℕ → ℕ → ℕ → ℕ → Bool
shows four r a b = is_highest r (fives (around four r a b))

computed-commas : all_around 10 (shows 0x3EB053EB05) ≡ all_around 10 (λ r a b. true)
unfolding all_around shows around fives is_highest
computed-commas = refl

computed-other_commas : all_around 10 (shows 0xC14FAC14FA) ≡ all_around 10 (λ r a b. true)
unfolding all_around shows around fives is_highest
computed-other_commas = refl

shows-at : (four r a b : ℕ) → all_around 10 (shows four) ≡ all_around 10 (λ r a b. true) → r < 10 → a < 2 ^ (9 - r) → b < 2 ^ r → shows four r a b ≡ true
unfolding all_around
shows-at four r a b all small front rest =
    let at = same_below (λ s. tabulated (λ c. tabulated (shows four s c) (2 ^ s)) (2 ^ (9 - s))) (λ s. tabulated (λ c. tabulated (λ d. true) (2 ^ s)) (2 ^ (9 - s))) 10 r all small in
    let before = same_below (λ c. tabulated (shows four r c) (2 ^ r)) (λ c. tabulated (λ d. true) (2 ^ r)) (2 ^ (9 - r)) a at front in
    same_below (shows four r a) (λ d. true) (2 ^ r) b before rest

around-window : (w r : ℕ) → around (w / 2 ^ r % 2 ^ 40) r (w / 2 ^ (40 + r)) (w % 2 ^ r) ≡ w
unfolding around
around-window w r = rw (← mod-pow-add w 40 r) (shr_split w (40 + r))

is_highest-fives : (four w r : ℕ) → all_around 10 (shows four) ≡ all_around 10 (λ r a b. true) → w < 2 ^ 49 → r < 10 → w / 2 ^ r % 2 ^ 40 ≡ four → is_highest r (fives w) ≡ true
unfolding shows
is_highest-fives four w r all lt small e =
    let n : 2 ^ 49 ≡ 2 ^ (9 - r) * 2 ^ (40 + r) = let s : 49 ≡ 9 - r + (40 + r) = omega arith in ap (λ k. 2 ^ k) s ∙ pow-add 2 (9 - r) (40 + r) in
    let front : w / 2 ^ (40 + r) < 2 ^ (9 - r) = (div-lt_iff_lt-mul (pow_pos (40 + r))).1 (rw (← n) lt) in
    let h = shows-at four r (w / 2 ^ (40 + r)) (w % 2 ^ r) all small front (mod-lt w (pow_pos r)) in
    let is : around four r (w / 2 ^ (40 + r)) (w % 2 ^ r) ≡ w = ap (λ f. around f r (w / 2 ^ (40 + r)) (w % 2 ^ r)) (sym e) ∙ around-window w r in
    rw is at h

pub is_highest-commas : (w r : ℕ) → w < 2 ^ 49 → r < 10 → w / 2 ^ r % 2 ^ 40 ≡ 0x3EB053EB05 → is_highest r (fives w) ≡ true
is_highest-commas w r lt small e = is_highest-fives 0x3EB053EB05 w r computed-commas lt small e

pub is_highest-other_commas : (w r : ℕ) → w < 2 ^ 49 → r < 10 → w / 2 ^ r % 2 ^ 40 ≡ 0xC14FAC14FA → is_highest r (fives w) ≡ true
is_highest-other_commas w r lt small e = is_highest-fives 0xC14FAC14FA w r computed-other_commas lt small e

pub fives-below : (w : ℕ) → fives w < 2 ^ 10
unfolding fives
fives-below w =
    let c : ℕ = bit_xor w (w / 2) in
    let u : ℕ = bit_or (bit_or (bit_or c (c / 2)) (c / 4)) (c / 8) / 8 in
    let low : bit_and u 1023 < 2 ^ 10 = rw (and_mask u 10) (mod-lt u (pow_pos 10)) in
    xor_lt 10 (bit_and u 1023) 1023 low (omega arith)

pub power-below_ten : (s f : ℕ) → f < 2 ^ 10 → 2 ^ s ≤ f → s < 10
power-below_ten s f small low = elim (cases_lt s 10) [
  | inl below ↦ below
  | inr large ↦ let p : 2 ^ 10 ≤ 2 ^ s = pow_mono large in absurd (omega arith)
]

pub is_highest-zero : (r : ℕ) → is_highest r 0 ≡ true → ⊥
unfolding is_highest
is_highest-zero r h =
    let low : 2 ^ r ≤ 0 = leb-true _ _ (and_parts (nat_le (2 ^ r) 0) (nat_lt 0 (2 ^ suc r)) h).0 in
    let p : 0 < 2 ^ r = pow_pos r in
    omega arith
