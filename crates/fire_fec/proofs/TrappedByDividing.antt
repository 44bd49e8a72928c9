-- Where a remainder is trapped when it is divided by x.
use Rattle.std.proofs.Common.{◌≡◌, ◌≢◌, ℕ, zero, suc, ◌+◌, ◌-◌, ◌*◌, ◌/◌, ◌^◌, ◌<◌, ◌≤◌, nat_lt, nat_le, Bool, true, false, not, ◌&&◌, ◌||◌, ◌==◌, List, [], ◌∷◌, length, drop, Option, Some, None, refl, sym, ◌∙◌, ap, add-one, arith, inl, inr}
use Rattle.std.proofs.lemmas.Bool.{and_parts, and_from, or_cases, cases_lt, cases_Bool, ltb-true, leb-true, lt-ltb, le-leb, eqb-true, true≢false}
use Rattle.std.proofs.lemmas.Nat.{pow-add, pow_pos}
use Rattle.std.proofs.Math.Nat.{mul-le-mul_right, mul-lt-mul_of_pos_right}
use Rattle.std.proofs.Math.Pow.{pow_mono}
use Rattle.jesd_base.specs.Bits.{bits, all_zero}
use Rattle.fire_fec.specs.Burst.{Burst, fits}
use Rattle.fire_fec.specs.kept.Shifting.{times_x, times_pow, over_x, over_pow, is_mask_at, trapped_from, trapped}
use Rattle.fire_fec.proofs.Free.{all_below, all_below_at, times_pow_same, times_pow_add, bursts_differ_hold}
use Rattle.fire_fec.proofs.Carried.{carried, carried-next, carried-whole, over_pow_small, times_over_pow}
use Rattle.fire_fec.proofs.Trapping.{trapped_from-yes, trapped_from-no}

abbrev found : ℕ → ℕ → Option Burst
found s m = Some (record { start = s; mask = m })

over_pow-next : (n r : ℕ) → over_pow n (over_x r) ≡ over_x (over_pow n r)
unfolding over_pow
over_pow-next zero r = refl
over_pow-next (suc n) r = over_pow-next n (over_x r)

pub over_pow-more : (k r : ℕ) → over_pow (k + 1) r ≡ over_x (over_pow k r)
unfolding over_pow
over_pow-more k r = rw add-one (over_pow-next k r)

over_pow_add : (a b r : ℕ) → over_pow (a + b) r ≡ over_pow a (over_pow b r)
unfolding over_pow
over_pow_add a zero r = let e : a + 0 ≡ a = omega arith in rw e refl
over_pow_add a (suc b) r = let e : a + suc b ≡ suc (a + b) = omega arith in rw e (over_pow_add a b (over_x r))

-- up to place 2065 it is the remainder divided by x
carried-back : (r s : ℕ) → r < 2 ^ 26 → s ≤ 2065 → carried r s ≡ over_pow (2065 - s) r
unfolding carried
carried-back r s small le =
    let e : 2065 ≡ s + (2065 - s) = omega arith in
    ap (times_pow s) (ap (λ n. over_pow n r) e ∙ over_pow_add s (2065 - s) r) ∙ times_over_pow s (over_pow (2065 - s) r) (over_pow_small (2065 - s) r small)

-- from place 2065 on it is the remainder times x
carried-on : (r j : ℕ) → r < 2 ^ 26 → carried r (2065 + j) ≡ times_pow j r
unfolding carried
carried-on r j small =
    let e : 2065 + j ≡ j + 2065 = omega arith in
    ap (λ n. times_pow n (over_pow 2065 r)) e ∙ times_pow_add j 2065 (over_pow 2065 r) ∙ ap (times_pow j) (times_over_pow 2065 r small)

-- ---- masks at places
drop-all : (k : ℕ) (xs : List Bool) → length xs ≤ k → drop k xs ≡ []
drop-all zero [] le = refl
drop-all zero (x ∷ xs) le = absurd (omega arith)
drop-all (suc k) [] le = refl
drop-all (suc k) (x ∷ xs) le = drop-all k xs (omega arith)

fits-all : (s m : ℕ) → s ≤ 2065 → fits 2074 s m ≡ true
unfolding fits all_zero bits
fits-all s m le = ap all_zero (drop-all (2074 - s) (bits 9 m) (omega arith))

mask-range : (s m : ℕ) → is_mask_at s m ≡ true → (256 ≤ m) × (m < 512)
unfolding is_mask_at
mask-range s m h =
    let a = and_parts (nat_le 256 m && nat_lt m 512) (fits 2074 s m) h in
    let b = and_parts (nat_le 256 m) (nat_lt m 512) a.0 in
    (leb-true 256 m b.0, ltb-true m 512 b.1)

mask-here : (s m : ℕ) → s ≤ 2065 → m / 256 ≡ 1 → is_mask_at s m ≡ true
unfolding is_mask_at
mask-here s m le e = and_from _ _ (and_from _ _ (le-leb 256 m (omega arith)) (lt-ltb m 512 (omega arith))) (fits-all s m le)

-- two places of one remainder that hold masks are one
only_place : (r s t : ℕ) → r < 2 ^ 26 → s < 2074 → t < 2074 → is_mask_at s (carried r s) ≡ true → is_mask_at t (carried r t) ≡ true → s ≡ t
only_place r s t small ls lt hs ht =
    let d = bursts_differ_hold (2073 - s) (2073 - t) (carried r s) (carried r t) (omega arith) (omega arith) (mask-range s (carried r s) hs) (mask-range t (carried r t) ht)
    (carried-whole r s small ls ∙ sym (carried-whole r t small lt)) in
    omega (arith, d.0)

from-hit : (r n p q : ℕ) → p ≤ q → q < p + n → is_mask_at q (carried r q) ≡ true → ((t : ℕ) → p ≤ t → t < q → is_mask_at t (carried r t) ≡ false)
    → trapped_from n p (carried r p) ≡ Some (record { start = q; mask = carried r q })
from-hit r zero p q le lt hit miss = absurd (omega arith)
from-hit r (suc n) p q le lt hit miss = elim (cases_lt p q) [
  | inl less ↦
      trapped_from-no n p (carried r p) (miss p (omega arith) less) ∙ ap (trapped_from n (suc p)) (sym (carried-next r p))
      ∙ from-hit r n (suc p) q less (omega arith) hit (λ t a b. miss t (omega arith) b)
  | inr same ↦
      let e : p ≡ q = omega arith in
      trapped_from-yes n p (carried r p) (rw e hit) ∙ ap (λ t. found t (carried r t)) e
]

from-miss : (r n p : ℕ) → ((t : ℕ) → p ≤ t → t < p + n → is_mask_at t (carried r t) ≡ false) → trapped_from n p (carried r p) ≡ None
unfolding trapped_from
from-miss r zero p miss = refl
from-miss r (suc n) p miss =
    trapped_from-no n p (carried r p) (miss p (omega arith) (omega arith)) ∙ ap (trapped_from n (suc p)) (sym (carried-next r p))
    ∙ from-miss r n (suc p) (λ t a b. miss t (omega arith) (omega arith))

trapped_there : (r s : ℕ) → r < 2 ^ 26 → s < 2074 → is_mask_at s (carried r s) ≡ true → trapped r ≡ Some (record { start = s; mask = carried r s })
unfolding trapped carried times_pow
trapped_there r s small lt hit = from-hit r 2074 0 s (omega arith) (omega arith) hit (λ t a b. elim (cases_Bool (is_mask_at t (carried r t))) [
  | inl also ↦ let e = only_place r t s small (omega arith) lt also hit in absurd (omega arith)
  | inr not_here ↦ not_here
])

-- after k divisions a mask is left
pub trapped_after : (r k : ℕ) → r < 2 ^ 26 → k < 2066 → over_pow k r / 256 ≡ 1 → trapped r ≡ Some (record { start = 2065 - k; mask = over_pow k r })
trapped_after r k small lt e =
    let s : ℕ = 2065 - k in
    let back : carried r s ≡ over_pow k r = let f : 2065 - s ≡ k = omega arith in carried-back r s small (omega arith) ∙ ap (λ n. over_pow n r) f in
    trapped_there r s small (omega arith) (rw back (mask-here s (over_pow k r) (omega arith) e)) ∙ ap (found s) back

-- ---- bursts that reach past the end
is_end_burst : ℕ → ℕ → Bool
is_end_burst j r = (nat_lt (r * 2 ^ j) 256 || nat_le 512 (r * 2 ^ j)) || (is_mask_at (2065 + j) (r * 2 ^ j) && (times_pow j r == r * 2 ^ j))

end_bursts : all_below (λ j. all_below (is_end_burst j) 256) 9 ≡ true
unfolding is_end_burst is_mask_at fits bits all_zero times_pow times_x
end_bursts = refl

is_end_mask : ℕ → ℕ → Bool
is_end_mask j m = not (is_mask_at (2066 + j) m) || (nat_lt (m / 2 ^ suc j) 256 && (times_pow (suc j) (m / 2 ^ suc j) == m))

end_masks : all_below (λ j. all_below (is_end_mask j) 512) 8 ≡ true
unfolding is_end_mask is_mask_at fits bits all_zero times_pow times_x
end_masks = refl

-- a remainder below 256 is a burst at the end
pub trapped_at_end : (r j : ℕ) → r < 256 → j < 9 → 256 ≤ r * 2 ^ j → r * 2 ^ j < 512 → trapped r ≡ Some (record { start = 2065 + j; mask = r * 2 ^ j })
unfolding is_end_burst
trapped_at_end r j small lt low high =
    let m : ℕ = r * 2 ^ j in
    let h = all_below_at (is_end_burst j) 256 r (all_below_at (λ i. all_below (is_end_burst i) 256) 9 j end_bursts lt) small in
    elim (or_cases _ _ h) [
      | inl out ↦ elim (or_cases (nat_lt m 256) (nat_le 512 m) out) [
        | inl below ↦ let b = ltb-true m 256 below in absurd (omega arith)
        | inr above ↦ let b = leb-true 512 m above in absurd (omega arith)
      ]
      | inr here ↦
          let p = and_parts (is_mask_at (2065 + j) m) (times_pow j r == m) here in
          let e : carried r (2065 + j) ≡ m = carried-on r j (omega arith) ∙ eqb-true (times_pow j r) m p.1 in
          trapped_there r (2065 + j) (omega arith) (omega arith) (rw e p.0) ∙ ap (found (2065 + j)) e
    ]

-- a remainder that is not below 256 is no burst at the end
not_at_end : (r j : ℕ) → r < 2 ^ 26 → 256 ≤ r → j < 8 → is_mask_at (2066 + j) (carried r (2066 + j)) ≡ true → ⊥
unfolding is_end_mask
not_at_end r j small high lt hit =
    let m : ℕ = carried r (2066 + j) in
    let range = mask-range (2066 + j) m hit in
    let on : m ≡ times_pow (suc j) r = let e : 2066 + j ≡ 2065 + suc j = omega arith in ap (carried r) e ∙ carried-on r (suc j) small in
    let h = all_below_at (is_end_mask j) 512 m (all_below_at (λ i. all_below (is_end_mask i) 512) 8 j end_masks lt) range.1 in
    elim (or_cases _ _ h) [
      | inl apart ↦ true≢false (sym apart ∙ ap not hit)
      | inr here ↦
          let u : ℕ = m / 2 ^ suc j in
          let p = and_parts (nat_lt u 256) (times_pow (suc j) u == m) here in
          let below = ltb-true u 256 p.0 in
          let same : u ≡ r = times_pow_same (suc j) u r (omega arith) small (eqb-true (times_pow (suc j) u) m p.1 ∙ on) in
          omega arith
    ]

-- a remainder of at least nine bits that no division makes a mask is no burst
pub trapped_nowhere : (r : ℕ) → r < 2 ^ 26 → 256 ≤ r → ((k : ℕ) → k < 2066 → over_pow k r / 256 ≢ 1) → trapped r ≡ None
unfolding trapped carried times_pow
trapped_nowhere r small high none = from-miss r 2074 0 (λ t a b. elim (cases_Bool (is_mask_at t (carried r t))) [
  | inl hit ↦ elim (cases_lt t 2066) [
    | inl early ↦
        let range = mask-range t (carried r t) hit in
        let back = carried-back r t small (omega arith) in
        absurd (none (2065 - t) (omega arith) (omega arith))
    | inr late ↦
        let j : ℕ = t - 2066 in
        let e : t ≡ 2066 + j = omega arith in
        absurd (not_at_end r j small high (omega arith) (rw e at hit))
  ]
  | inr miss ↦ miss
])

-- a number below 256 that is not 0, with its first bit at place 8
pub first_bit : (r i : ℕ) → r < 256 → 2 ^ i ≤ r → r < 2 * 2 ^ i → (i < 8) × (256 ≤ r * 2 ^ (8 - i)) × (r * 2 ^ (8 - i) < 512)
first_bit r i small low high = elim (cases_lt i 8) [
  | inl lt ↦
      let e : 2 ^ i * 2 ^ (8 - i) ≡ 256 = let s : i + (8 - i) ≡ 8 = omega arith in sym (pow-add 2 i (8 - i)) ∙ ap (λ n. 2 ^ n) s in
      let a : 2 ^ i * 2 ^ (8 - i) ≤ r * 2 ^ (8 - i) = mul-le-mul_right (2 ^ (8 - i)) low in
      let b : r * 2 ^ (8 - i) < (2 * 2 ^ i) * 2 ^ (8 - i) = mul-lt-mul_of_pos_right high (pow_pos (8 - i)) in
      (lt, omega arith, omega arith)
  | inr ge ↦ let p : 2 ^ 8 ≤ 2 ^ i = pow_mono ge in absurd (omega arith)
]
