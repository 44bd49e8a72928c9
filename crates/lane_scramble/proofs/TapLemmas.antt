-- What the code's words are, bit by bit.
use Rattle.std.proofs.Common.{◌≡◌, ℕ, zero, suc, ◌∷◌, ◌+◌, ◌-◌, ◌*◌, ◌/◌, ◌%◌, ◌^◌, ◌<◌, ◌≤◌, ◌==◌, Bool, true, false, List, ◌++◌, take, reverse, refl, sym, ap, ap₂, ◌∙◌, inl, inr, arith, bit_and, lit<, lit≤}
use Rattle.std.specs.Prelude.{bit_xor, bit_or}
use Rattle.std.specs.Int.{bit_at}
use Rattle.std.proofs.lemmas.Bool.{cases_lt}
use Rattle.std.proofs.lemmas.List.{take-append-le}
use Rattle.std.proofs.lemmas.Nat.{and_le_r, and_mask, mod_below, or_shifted, pow_pos, shr_high, shr_le, shr_split, xor_lt}
use Rattle.std.proofs.lemmas.Nat.Bits.{bit_at_xor, bit_at-lt, bit_at-zero, bit_at_above, bit_at_cat_low, bit_at_cat_high}
use Rattle.jesd_base.specs.Bits.{add, bits}
use Rattle.lane_scramble.proofs.WordLemmas.{at, lowest, at-shifted, length-lowest, lowest-parts, take-lowest, IsSum, IsSumBack, scrambled-word, descrambled-word}
use Rattle.lane_scramble.specs.Scrambling.{scrambled, descrambled}

-- ---- sums of bits

pub add-false : (x : Bool) → add x false ≡ x
add-false true = refl
add-false false = refl

pub add-comm : (x y : Bool) → add x y ≡ add y x
add-comm true true = refl
add-comm true false = refl
add-comm false true = refl
add-comm false false = refl

pub add-assoc : (x y z : Bool) → add (add x y) z ≡ add x (add y z)
add-assoc true true true = refl
add-assoc true true false = refl
add-assoc true false z = refl
add-assoc false y z = refl

-- four bits on two taps, in the order of the scrambler's code
scrambler-order : (x p q r s : Bool) → add (add (add (add x p) q) r) s ≡ add x (add (add p r) (add q s))
scrambler-order x p q r s =
    rw (add-assoc (add (add x p) q) r s, add-assoc (add x p) q (add r s), add-assoc x p (add q (add r s)))
    (ap (add x) (rw (add-assoc p r (add q s)) (ap (add p)
    (sym (add-assoc q r s) ∙ ap (λ t. add t s) (add-comm q r) ∙ add-assoc r q s))))

-- and in that of the descrambler's
descrambler-order : (y r s p q : Bool) → add (add (add (add y r) s) p) q ≡ add y (add (add p r) (add q s))
descrambler-order y r s p q =
    scrambler-order y r s p q ∙ ap₂ {C = Bool} (λ t u. add y (add t u)) (add-comm r p) (add-comm s q)

bit-sum : (s t : ℕ) → s < 2 → t < 2 → ((s + t) % 2 == 1) ≡ add (s == 1) (t == 1)
bit-sum s t ls lt = elim (cases_lt s 1) [
  | inl low ↦ let e : s ≡ 0 = omega arith in elim (cases_lt t 1) [
    | inl low' ↦ let e' : t ≡ 0 = omega arith in rw (e, e') refl
    | inr high' ↦ let e' : t ≡ 1 = omega arith in rw (e, e') refl
  ]
  | inr high ↦ let e : s ≡ 1 = omega arith in elim (cases_lt t 1) [
    | inl low' ↦ let e' : t ≡ 0 = omega arith in rw (e, e') refl
    | inr high' ↦ let e' : t ≡ 1 = omega arith in rw (e, e') refl
  ]
]

-- ---- a bit of a word

pub at-xor : (a b i : ℕ) → at (bit_xor a b) i ≡ add (at a i) (at b i)
at-xor a b i = ap (λ t. t == 1) (bit_at_xor a b i) ∙ bit-sum (bit_at a i) (bit_at b i) (bit_at-lt a i) (bit_at-lt b i)

pub at-above : (v n i : ℕ) → v < 2 ^ n → n ≤ i → at v i ≡ false
at-above v n i small above = ap (λ t. t == 1) (bit_at_above v n i small above)

pub at-low : (a k b i : ℕ) → i < k → at (a * 2 ^ k + b) i ≡ at b i
at-low a k b i within = ap (λ t. t == 1) (bit_at_cat_low a k b i within)

pub at-high : (a k b i : ℕ) → b < 2 ^ k → k ≤ i → at (a * 2 ^ k + b) i ≡ at a (i - k)
at-high a k b i small above = ap (λ t. t == 1) (bit_at_cat_high a k b i small above)

pub at-kept : (v w i : ℕ) → i < w → at (v % 2 ^ w) i ≡ at v i
at-kept v w i within = sym (at-low (v / 2 ^ w) w (v % 2 ^ w) i within) ∙ ap (λ t. at t i) (shr_split v w)

pub at-masked : (v w i : ℕ) → i < w → at (bit_and v (2 ^ w - 1)) i ≡ at v i
at-masked v w i within = ap (λ t. at t i) (and_mask v w) ∙ at-kept v w i within

-- a word that is shifted up has zeros below
at-up-low : (v s w i : ℕ) → i < w → i < s → at (v * 2 ^ s % 2 ^ w) i ≡ false
at-up-low v s w i within low =
    let e : v * 2 ^ s + 0 ≡ v * 2 ^ s = omega arith in
    at-kept (v * 2 ^ s) w i within ∙ ap (λ t. at t i) (sym e) ∙ at-low v s 0 i low ∙ ap (λ t. t == 1) (bit_at-zero i)

at-up-high : (v s w i : ℕ) → i < w → s ≤ i → at (v * 2 ^ s % 2 ^ w) i ≡ at v (i - s)
at-up-high v s w i within high =
    let e : v * 2 ^ s + 0 ≡ v * 2 ^ s = omega arith in
    at-kept (v * 2 ^ s) w i within ∙ ap (λ t. at t i) (sym e) ∙ at-high v s 0 i (pow_pos s) high

-- a window of two words in a row, as two words that are shifted
pub window : (w k s before y i : ℕ) → y < 2 ^ w → k + s ≡ w → i < w
    → at (before * 2 ^ w + y) (i + k) ≡ add (at (before * 2 ^ s % 2 ^ w) i) (at (y / 2 ^ k) i)
window w k s before y i small whole within =
    let c : k + i ≡ i + k = omega arith in
    let down : at (y / 2 ^ k) i ≡ at y (i + k) = at-shifted y k i ∙ ap (at y) c in
    elim (cases_lt (i + k) w) [
      | inl below ↦
          at-low before w y (i + k) below ∙ sym (ap₂ {C = Bool} add (at-up-low before s w i within (omega arith)) down)
      | inr above ↦
          let e : i + k - w ≡ i - s = omega arith in
          at-high before w y (i + k) small above
          ∙ ap (at before) e
          ∙ sym (add-false (at before (i - s)))
          ∙ sym (ap₂ {C = Bool} add (at-up-high before s w i within (omega arith)) (down ∙ at-above y w (i + k) small above))
    ]

-- the same low bits are the same list
bits-same : (n u v : ℕ) → ((i : ℕ) → i < n → at u i ≡ at v i) → bits n u ≡ bits n v
unfolding bits
bits-same zero u v h = refl
bits-same (suc n) u v h = ap₂ {C = List Bool} (λ b r. b ∷ r) (h n (omega arith)) (bits-same n u v (λ i lt. h i (omega arith)))

bits-low : (a n b : ℕ) → bits n (a * 2 ^ n + b) ≡ bits n b
bits-low a n b = bits-same n (a * 2 ^ n + b) b (λ i lt. at-low a n b i lt)

-- ---- octets and fifteen earlier bits

-- an octet with the two taps of each bit added
abbrev pub tapped : ℕ → ℕ → ℕ
tapped l x = bit_xor (bit_xor x (bit_and (l / 2 ^ 6) (2 ^ 8 - 1))) (bit_and (l / 2 ^ 7) (2 ^ 8 - 1))

at-tapped : (l x i : ℕ) → i < 8 → at (tapped l x) i ≡ add (at x i) (add (at l (6 + i)) (at l (7 + i)))
at-tapped l x i within =
    at-xor (bit_xor x (bit_and (l / 2 ^ 6) (2 ^ 8 - 1))) (bit_and (l / 2 ^ 7) (2 ^ 8 - 1)) i
    ∙ ap₂ {C = Bool} add
    (at-xor x (bit_and (l / 2 ^ 6) (2 ^ 8 - 1)) i ∙ ap (add (at x i)) (at-masked (l / 2 ^ 6) 8 i within ∙ at-shifted l 6 i))
    (at-masked (l / 2 ^ 7) 8 i within ∙ at-shifted l 7 i)
    ∙ add-assoc (at x i) (at l (6 + i)) (at l (7 + i))

masked_small : (n : ℕ) → bit_and n (2 ^ 8 - 1) < 2 ^ 8
masked_small n = omega (arith, and_le_r n (2 ^ 8 - 1))

tapped_small : (l x : ℕ) → x < 2 ^ 8 → tapped l x < 2 ^ 8
tapped_small l x small =
    xor_lt 8 (bit_xor x (bit_and (l / 2 ^ 6) (2 ^ 8 - 1))) (bit_and (l / 2 ^ 7) (2 ^ 8 - 1))
    (xor_lt 8 x (bit_and (l / 2 ^ 6) (2 ^ 8 - 1)) small (masked_small (l / 2 ^ 6))) (masked_small (l / 2 ^ 7))

-- the two taps lie among the earlier bits
octet-taps : (l y i : ℕ) → y < 2 ^ 8 → i < 8
    → add (at (l * 2 ^ 8 + y) (i + 14)) (at (l * 2 ^ 8 + y) (i + 15)) ≡ add (at l (6 + i)) (at l (7 + i))
octet-taps l y i small within =
    let e : i + 14 - 8 ≡ 6 + i = omega arith in
    let f : i + 15 - 8 ≡ 7 + i = omega arith in
    ap₂ {C = Bool} add
    (at-high l 8 y (i + 14) small (omega arith) ∙ ap (at l) e)
    (at-high l 8 y (i + 15) small (omega arith) ∙ ap (at l) f)

pub octet-scrambled : (l x : ℕ) → x < 2 ^ 8 → scrambled 14 15 (lowest 15 l) (bits 8 x) ≡ bits 8 (tapped l x)
octet-scrambled l x small =
    let y : ℕ = tapped l x in
    let less : y < 2 ^ 8 = tapped_small l x small in
    let sums : IsSum 14 15 8 (l * 2 ^ 8 + y) x = record {
      each = λ i within. at-low l 8 y i within ∙ at-tapped l x i within ∙ ap (add (at x i)) (sym (octet-taps l y i less within));
    } in
    ap (λ p. scrambled 14 15 (lowest 15 p) (bits 8 x)) (sym (shr_high l 8 y less))
    ∙ scrambled-word 14 15 8 15 (l * 2 ^ 8 + y) x (lit< tt) (lit< tt) (lit≤ tt) (lit≤ tt) sums
    ∙ bits-low l 8 y

pub octet-descrambled : (l y : ℕ) → y < 2 ^ 8 → descrambled 14 15 (lowest 15 l) (bits 8 y) ≡ bits 8 (tapped l y)
octet-descrambled l y small =
    let v : ℕ = l * 2 ^ 8 + y in
    let sums : IsSumBack 14 15 8 v (tapped l y) = record {
      each = λ i within. at-tapped l y i within ∙ ap₂ {C = Bool} add (sym (at-low l 8 y i within)) (sym (octet-taps l y i small within));
    } in
    ap₂ {C = List Bool} (λ p q. descrambled 14 15 (lowest 15 p) q) (sym (shr_high l 8 y small)) (sym (bits-low l 8 y))
    ∙ descrambled-word 14 15 8 15 v (tapped l y) (lit< tt) (lit< tt) (lit≤ tt) (lit≤ tt) sums

-- the fifteen bits after an octet
pub last-fifteen : (l y : ℕ) → y < 2 ^ 8 → lowest 15 (bit_or (l * 2 ^ 8 % 2 ^ 16) y) ≡ take 15 (lowest 8 y ++ lowest 15 l)
last-fifteen l y small =
    let v : ℕ = l * 2 ^ 8 + y in
    let masked : l * 2 ^ 8 % 2 ^ 16 ≡ l % 2 ^ 8 * 2 ^ 8 = omega arith in
    let joined : bit_or (l * 2 ^ 8 % 2 ^ 16) y ≡ l % 2 ^ 8 * 2 ^ 8 + y =
    ap (λ t. bit_or t y) masked ∙ or_shifted (l % 2 ^ 8) 8 y small in
    let same : bits 15 (l % 2 ^ 8 * 2 ^ 8 + y) ≡ bits 15 v = bits-same 15 (l % 2 ^ 8 * 2 ^ 8 + y) v (λ i within. elim (cases_lt i 8) [
      | inl low ↦ at-low (l % 2 ^ 8) 8 y i low ∙ sym (at-low l 8 y i low)
      | inr high ↦ at-high (l % 2 ^ 8) 8 y i small high ∙ at-kept l 8 (i - 8) (omega arith) ∙ sym (at-high l 8 y i small high)
    ]) in
    let parts : lowest 23 v ≡ lowest 8 y ++ lowest 15 l =
    lowest-parts 15 8 v ∙ ap₂ {C = List Bool} (λ p q. reverse p ++ lowest 15 q) (bits-low l 8 y) (shr_high l 8 y small) in
    ap (lowest 15) joined ∙ ap reverse same ∙ sym (take-lowest 8 15 v) ∙ ap (take 15) parts

-- ---- words of 64 bits and fifty-eight earlier bits

-- the taps in the word before, added
abbrev pub with_before : ℕ → ℕ → ℕ
with_before l x = bit_xor (bit_xor x (l * 2 ^ 25 % 2 ^ 64)) (l * 2 ^ 6 % 2 ^ 64)

-- the taps in a word itself, added
abbrev pub with_own : ℕ → ℕ
with_own t = bit_xor (bit_xor t (t / 2 ^ 39)) (t / 2 ^ 58)

at-with_before : (l x i : ℕ) → at (with_before l x) i ≡ add (add (at x i) (at (l * 2 ^ 25 % 2 ^ 64) i)) (at (l * 2 ^ 6 % 2 ^ 64) i)
at-with_before l x i =
    at-xor (bit_xor x (l * 2 ^ 25 % 2 ^ 64)) (l * 2 ^ 6 % 2 ^ 64) i
    ∙ ap (λ t. add t (at (l * 2 ^ 6 % 2 ^ 64) i)) (at-xor x (l * 2 ^ 25 % 2 ^ 64) i)

at-with_own : (t i : ℕ) → at (with_own t) i ≡ add (add (at t i) (at (t / 2 ^ 39) i)) (at (t / 2 ^ 58) i)
at-with_own t i =
    at-xor (bit_xor t (t / 2 ^ 39)) (t / 2 ^ 58) i ∙ ap (λ u. add u (at (t / 2 ^ 58) i)) (at-xor t (t / 2 ^ 39) i)

with_before_small : (l x : ℕ) → x < 2 ^ 64 → with_before l x < 2 ^ 64
with_before_small l x small =
    xor_lt 64 (bit_xor x (l * 2 ^ 25 % 2 ^ 64)) (l * 2 ^ 6 % 2 ^ 64)
    (xor_lt 64 x (l * 2 ^ 25 % 2 ^ 64) small (mod_below (l * 2 ^ 25) (2 ^ 64) (lit< tt))) (mod_below (l * 2 ^ 6) (2 ^ 64) (lit< tt))

with_own_small : (t : ℕ) → t < 2 ^ 64 → with_own t < 2 ^ 64
with_own_small t small =
    xor_lt 64 (bit_xor t (t / 2 ^ 39)) (t / 2 ^ 58) (xor_lt 64 t (t / 2 ^ 39) small (omega (arith, shr_le t 39))) (omega (arith, shr_le t 58))

-- no bit has two taps in a row in one word
own-tap : (t k i : ℕ) → t < 2 ^ 64 → 39 ≤ k → at (with_own t / 2 ^ k) i ≡ at (t / 2 ^ k) i
own-tap t k i small long =
    let at39 : at (t / 2 ^ 39) (k + i) ≡ false = at-shifted t 39 (k + i) ∙ at-above t 64 (39 + (k + i)) small (omega arith) in
    let at58 : at (t / 2 ^ 58) (k + i) ≡ false = at-shifted t 58 (k + i) ∙ at-above t 64 (58 + (k + i)) small (omega arith) in
    at-shifted (with_own t) k i
    ∙ at-with_own t (k + i)
    ∙ ap₂ {C = Bool} (λ p q. add (add (at t (k + i)) p) q) at39 at58
    ∙ add-false (add (at t (k + i)) false)
    ∙ add-false (at t (k + i))
    ∙ sym (at-shifted t k i)

pub word-scrambled : (l x : ℕ) → x < 2 ^ 64 → scrambled 39 58 (lowest 58 l) (bits 64 x) ≡ bits 64 (with_own (with_before l x))
word-scrambled l x small =
    let t : ℕ = with_before l x in
    let y : ℕ = with_own t in
    let less : t < 2 ^ 64 = with_before_small l x small in
    let below : y < 2 ^ 64 = with_own_small t less in
    let v : ℕ = l * 2 ^ 64 + y in
    let sums : IsSum 39 58 64 v x = record {
      each = λ i within.
          at-low l 64 y i within
          ∙ at-with_own t i
          ∙ ap (λ u. add (add u (at (t / 2 ^ 39) i)) (at (t / 2 ^ 58) i)) (at-with_before l x i)
          ∙ scrambler-order (at x i) (at (l * 2 ^ 25 % 2 ^ 64) i) (at (l * 2 ^ 6 % 2 ^ 64) i) (at (t / 2 ^ 39) i) (at (t / 2 ^ 58) i)
          ∙ ap (add (at x i)) (sym (ap₂ {C = Bool} add
          (window 64 39 25 l y i below refl within ∙ ap (add (at (l * 2 ^ 25 % 2 ^ 64) i)) (own-tap t 39 i less (lit≤ tt)))
          (window 64 58 6 l y i below refl within ∙ ap (add (at (l * 2 ^ 6 % 2 ^ 64) i)) (own-tap t 58 i less (lit≤ tt)))));
    } in
    ap (λ p. scrambled 39 58 (lowest 58 p) (bits 64 x)) (sym (shr_high l 64 y below))
    ∙ scrambled-word 39 58 64 58 v x (lit< tt) (lit< tt) (lit≤ tt) (lit≤ tt) sums
    ∙ bits-low l 64 y

-- a word with its own taps and those in the word before added
abbrev pub untapped : ℕ → ℕ → ℕ
untapped l y = bit_xor (bit_xor (with_own y) (l * 2 ^ 25 % 2 ^ 64)) (l * 2 ^ 6 % 2 ^ 64)

pub word-descrambled : (l y : ℕ) → y < 2 ^ 64 → descrambled 39 58 (lowest 58 l) (bits 64 y) ≡ bits 64 (untapped l y)
word-descrambled l y small =
    let v : ℕ = l * 2 ^ 64 + y in
    let sums : IsSumBack 39 58 64 v (untapped l y) = record {
      each = λ i within.
          at-with_before l (with_own y) i
          ∙ ap (λ u. add (add u (at (l * 2 ^ 25 % 2 ^ 64) i)) (at (l * 2 ^ 6 % 2 ^ 64) i)) (at-with_own y i)
          ∙ descrambler-order (at y i) (at (y / 2 ^ 39) i) (at (y / 2 ^ 58) i) (at (l * 2 ^ 25 % 2 ^ 64) i) (at (l * 2 ^ 6 % 2 ^ 64) i)
          ∙ sym (ap₂ {C = Bool} add (at-low l 64 y i within) (ap₂ {C = Bool} add
          (window 64 39 25 l y i small refl within) (window 64 58 6 l y i small refl within)));
    } in
    ap₂ {C = List Bool} (λ p q. descrambled 39 58 (lowest 58 p) q) (sym (shr_high l 64 y small)) (sym (bits-low l 64 y))
    ∙ descrambled-word 39 58 64 58 v (untapped l y) (lit< tt) (lit< tt) (lit≤ tt) (lit≤ tt) sums

-- the fifty-eight bits after a word
pub last-fifty-eight : (y : ℕ) (past : List Bool) → lowest 58 y ≡ take 58 (lowest 64 y ++ past)
last-fifty-eight y past =
    sym (take-append-le 58 (lowest 64 y) past (omega (arith, length-lowest 64 y)) ∙ take-lowest 6 58 y)
