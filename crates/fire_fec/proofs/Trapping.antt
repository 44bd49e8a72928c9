-- The burst of a word is found from its remainder.
use Rattle.std.proofs.Common.{◌≡◌, ℕ, zero, suc, ◌+◌, ◌-◌, ◌^◌, ◌<◌, ◌≤◌, nat_lt, nat_le, Bool, true, false, ◌&&◌, ◌==◌, List, [], ◌∷◌, ◌++◌, length, take, drop, refl, sym, ◌∙◌, ap, ap₂, append_assoc, length-append, length-take, length-drop, zero-add, arith, inl, inr}
use Rattle.std.specs.Prelude.{Option, Some, None, option_map, if◌then◌else◌}
use Rattle.std.proofs.lemmas.List.{take-append-drop}
use Rattle.std.proofs.lemmas.Bool.{and_parts, and_from, and_left, and_right, cases_lt, cases_Bool, ltb-true, leb-true, lt-ltb, le-leb, eqb-true, eq-eqb, ne_eqb, true≢false}
use Rattle.jesd_base.specs.Bits.{add, bits, value, zeros, all_zero}
use Rattle.jesd_base.specs.Division.{add_bits, rem}
use Rattle.jesd_base.specs.Search.{first_from, first_found}
use Rattle.fire_fec.specs.Burst.{fire, Burst, burst_added, fits, explains, mask_at, burst}
use Rattle.fire_fec.specs.kept.Shifting.{times_x, times_pow, over_x, over_pow, is_mask_at, trapped_from, trapped}
use Rattle.fire_fec.specs.laws.BurstLaws.{OneBurstIsFound}
use Rattle.fire_fec.proofs.Dividing.{remainder_is_linear, add_length_below, value-lt, add_twice, add_comm_bits}
use Rattle.fire_fec.proofs.Free.{all_below, all_below_at, times_pow_same, bursts_differ_hold}
use Rattle.fire_fec.proofs.Carried.{carried, carried-small, carried-next, carried-whole}
use Rattle.fire_fec.proofs.Single.{zeros-length, fire-length, rem-length, value-shifts, burst-value, same_value, IsBurst}

-- ---- lists
pub zeros-add : (a b : ℕ) → zeros a ++ zeros b ≡ zeros (a + b)
unfolding zeros
zeros-add zero b = rw zero-add refl
zeros-add (suc a) b = let e : suc a + b ≡ suc (a + b) = omega arith in rw e (ap {B = List Bool} (λ r. false ∷ r) (zeros-add a b))

drop-zeros : (k n : ℕ) → drop k (zeros n) ≡ zeros (n - k)
unfolding zeros
drop-zeros zero n = let e : n - 0 ≡ n = omega arith in rw e refl
drop-zeros (suc k) zero = let e : 0 - suc k ≡ 0 = omega arith in rw e refl
drop-zeros (suc k) (suc n) = let e : suc n - suc k ≡ n - k = omega arith in rw e (drop-zeros k n)

drop-two : (k : ℕ) (xs ys : List Bool) → drop k (xs ++ ys) ≡ drop k xs ++ drop (k - length xs) ys
drop-two zero xs ys = let e : 0 - length xs ≡ 0 = omega arith in rw e refl
drop-two (suc k) [] ys = let e : suc k - 0 ≡ suc k = omega arith in rw e refl
drop-two (suc k) (x ∷ xs) ys = let e : suc k - suc (length xs) ≡ k - length xs = omega arith in rw e (drop-two k xs ys)

zeros-of : (xs : List Bool) → all_zero xs ≡ true → xs ≡ zeros (length xs)
unfolding all_zero zeros
zeros-of [] e = refl
zeros-of (true ∷ xs) e = absurd (true≢false (sym e))
zeros-of (false ∷ xs) e = ap {B = List Bool} (λ r. false ∷ r) (zeros-of xs e)

same-of : (xs ys : List Bool) → length xs ≡ length ys → all_zero (add_bits xs ys) ≡ true → xs ≡ ys
unfolding all_zero
same-of [] [] l e = refl
same-of [] (y ∷ ys) l e = absurd (omega arith)
same-of (x ∷ xs) [] l e = absurd (omega arith)
same-of (true ∷ xs) (true ∷ ys) l e = ap {B = List Bool} (λ r. true ∷ r) (same-of xs ys (omega arith) e)
same-of (false ∷ xs) (false ∷ ys) l e = ap {B = List Bool} (λ r. false ∷ r) (same-of xs ys (omega arith) e)
same-of (true ∷ xs) (false ∷ ys) l e = absurd (true≢false (sym e))
same-of (false ∷ xs) (true ∷ ys) l e = absurd (true≢false (sym e))

self-zero : (xs : List Bool) → all_zero (add_bits xs xs) ≡ true
unfolding all_zero
self-zero [] = refl
self-zero (true ∷ xs) = self-zero xs
self-zero (false ∷ xs) = self-zero xs

pub add-nil : (xs : List Bool) → add_bits xs [] ≡ xs
add-nil [] = refl
add-nil (x ∷ xs) = refl

pub add-false : (x : Bool) → add x false ≡ x
add-false true = refl
add-false false = refl

-- what is added to a word may be cut off at its end, and go on in zeros
padded : (v b : List Bool) (n : ℕ) → length v ≤ length b + n → take (length v) (add_bits v b) ≡ add_bits v (take (length v) (b ++ zeros n))
unfolding zeros
padded [] b n le = refl
padded (x ∷ xs) [] zero le = absurd (omega arith)
padded (x ∷ xs) [] (suc n) le =
    ap₂ {C = List Bool} (λ c r. c ∷ r) (sym (add-false x)) (ap (take (length xs)) (sym (add-nil xs)) ∙ padded xs [] n (omega arith))
padded (x ∷ xs) (y ∷ ys) n le = ap {B = List Bool} (λ r. add x y ∷ r) (padded xs ys n (omega arith))

-- ---- the value of a mask
number_of : ℕ → Bool
number_of m = value (bits 9 m) == m

each_number : all_below number_of 512 ≡ true
unfolding number_of bits
each_number = refl

value-mask : (m : ℕ) → m < 512 → value (bits 9 m) ≡ m
unfolding number_of
value-mask m lt = eqb-true _ _ (all_below_at number_of 512 m each_number lt)

mask-length : (m : ℕ) → length (bits 9 m) ≡ 9
unfolding bits
mask-length m = refl

-- ---- the search for the first place
pub first_from-yes : (test : ℕ → Bool) (n p : ℕ) → test p ≡ true → first_from test (suc n) p ≡ Some p
unfolding first_from
first_from-yes test n p h = ap (λ b. if b then Some p else first_from test n (suc p)) h

pub first_from-no : (test : ℕ → Bool) (n p : ℕ) → test p ≡ false → first_from test (suc n) p ≡ first_from test n (suc p)
unfolding first_from
first_from-no test n p h = ap (λ b. if b then Some p else first_from test n (suc p)) h

-- the least place that passes
pub from-hit : (test : ℕ → Bool) (n p q : ℕ) → p ≤ q → q < p + n → test q ≡ true → ((r : ℕ) → p ≤ r → r < q → test r ≡ false) → first_from test n p ≡ Some q
from-hit test zero p q le lt hit miss = absurd (omega arith)
from-hit test (suc n) p q le lt hit miss = elim (cases_lt p q) [
  | inl less ↦ first_from-no test n p (miss p (omega arith) less) ∙ from-hit test n (suc p) q less (omega arith) hit (λ r a b. miss r (omega arith) b)
  | inr same ↦ let e : p ≡ q = omega arith in first_from-yes test n p (rw e hit) ∙ ap Some e
]

pub from-miss : (test : ℕ → Bool) (n p : ℕ) → ((r : ℕ) → p ≤ r → r < p + n → test r ≡ false) → first_from test n p ≡ None
unfolding first_from
from-miss test zero p miss = refl
from-miss test (suc n) p miss = first_from-no test n p (miss p (omega arith) (omega arith)) ∙ from-miss test n (suc p) (λ r a b. miss r (omega arith) (omega arith))

same_test : (b c : Bool) → (b ≡ true → c ≡ true) → (c ≡ true → b ≡ true) → b ≡ c
same_test true true f g = refl
same_test true false f g = sym (f refl)
same_test false true f g = g refl
same_test false false f g = refl

and_same : (b c d : Bool) → (b ≡ true → c ≡ d) → (b && c) ≡ (b && d)
and_same true c d f = f refl
and_same false c d f = refl

pub first_found-some : {A : Type 0} (f : ℕ → Option A) (n p : ℕ) (x : A) → f p ≡ Some x → first_found f (suc n) p ≡ Some x
unfolding first_found
first_found-some {A} f n p x h = ap (λ o. elim o as (λ c. Option A) [ Some y ↦ Some y | None ↦ first_found f n (suc p) ]) h

pub first_found-none : {A : Type 0} (f : ℕ → Option A) (n p : ℕ) → f p ≡ None → first_found f (suc n) p ≡ first_found f n (suc p)
unfolding first_found
first_found-none {A} f n p h = ap (λ o. elim o as (λ c. Option A) [ Some y ↦ Some y | None ↦ first_found f n (suc p) ]) h

pub trapped_from-yes : (n s r : ℕ) → is_mask_at s r ≡ true → trapped_from (suc n) s r ≡ Some (record { start = s; mask = r })
unfolding trapped_from
trapped_from-yes n s r h = ap (λ b. elim b as (λ c. Option Burst) [ true ↦ Some (record { start = s; mask = r }) | false ↦ trapped_from n (suc s) (times_x r) ]) h

pub trapped_from-no : (n s r : ℕ) → is_mask_at s r ≡ false → trapped_from (suc n) s r ≡ trapped_from n (suc s) (times_x r)
unfolding trapped_from
trapped_from-no n s r h = ap (λ b. elim b as (λ c. Option Burst) [ true ↦ Some (record { start = s; mask = r }) | false ↦ trapped_from n (suc s) (times_x r) ]) h

-- ---- one place and one mask
module _ (v : List Bool) (long : length v ≡ 2074) where
  abbrev rest : ℕ
  rest = value (rem fire v)

  remainder-small : rest < 2 ^ 26
  remainder-small = rw (rem-length v (omega arith)) at (value-lt (rem fire v))

  -- the burst as a word
  placed : ℕ → ℕ → List Bool
  placed s m = take (length v) ((zeros s ++ bits 9 m) ++ zeros (2073 - s))

  whole-length : (s m : ℕ) → s < 2074 → length ((zeros s ++ bits 9 m) ++ zeros (2073 - s)) ≡ 2082
  whole-length s m lt = omega (arith, length-append (zeros s ++ bits 9 m) (zeros (2073 - s)), length-append (zeros s) (bits 9 m), zeros-length s, zeros-length (2073 - s), mask-length m)

  placed-length : (s m : ℕ) → s < 2074 → length (placed s m) ≡ 2074
  unfolding placed
  placed-length s m lt = length-take (length v) _ ∙ rw (whole-length s m lt, long) refl

  placed-is : (s m : ℕ) → s < 2074 → fits 2074 s m ≡ true → IsBurst (placed s m) s (bits 9 m)
  unfolding placed fits zeros
  placed-is s m lt fit =
      let whole : List Bool = (zeros s ++ bits 9 m) ++ zeros (2073 - s) in
      let k : ℕ = 2074 - s in
      let tail : List Bool = bits 9 m ++ zeros (2073 - s) in
      let z = zeros-length s in
      let f : drop k (bits 9 m) ≡ zeros (9 - k) = zeros-of (drop k (bits 9 m)) fit ∙ ap zeros (length-drop k (bits 9 m) ∙ ap (λ n. n - k) (mask-length m)) in
      let g : drop (k - length (bits 9 m)) (zeros (2073 - s)) ≡ zeros (2073 - s - (k - 9)) = drop-zeros (k - length (bits 9 m)) (2073 - s) ∙ ap (λ n. zeros (2073 - s - (k - n))) (mask-length m) in
      let front : drop 2074 (zeros s ++ tail) ≡ drop k tail = drop-two 2074 (zeros s) tail ∙ ap₂ (λ a b. a ++ b) (drop-zeros 2074 s ∙ ap zeros (let e : s - 2074 ≡ 0 = omega arith in e)) (ap (λ n. drop (2074 - n) tail) z) in
      let sum : (9 - k) + (2073 - s - (k - 9)) ≡ 8 = omega arith in
      let a : drop 2074 whole ≡ zeros 8 =
      ap (drop 2074) (append_assoc (zeros s) (bits 9 m) (zeros (2073 - s))) ∙ front ∙ drop-two k (bits 9 m) (zeros (2073 - s)) ∙ ap₂ (λ a b. a ++ b) f g ∙ zeros-add (9 - k) (2073 - s - (k - 9)) ∙ ap zeros sum in
      ap (λ r. take (length v) whole ++ r) (sym a) ∙ rw long (take-append-drop 2074 whole) ∙ append_assoc (zeros s) (bits 9 m) (zeros (2073 - s))

  added-is : (s m : ℕ) → s < 2074 → burst_added v s m ≡ add_bits v (placed s m)
  unfolding burst_added placed
  added-is s m lt = padded v (zeros s ++ bits 9 m) (2073 - s) (omega (arith, long, length-append (zeros s) (bits 9 m), zeros-length s, mask-length m))

  -- the pattern's remainder, eight places on
  placed-power : (s m : ℕ) → s < 2074 → m < 512 → fits 2074 s m ≡ true → times_pow 8 (value (rem fire (placed s m))) ≡ times_pow (2073 - s) m
  placed-power s m lt small fit =
      let p = placed-length s m lt in
      sym (value-shifts 8 (rem fire (placed s m)) (rem-length (placed s m) (omega arith)))
      ∙ burst-value (placed s m) s (bits 9 m) (omega arith) (mask-length m) (placed-is s m lt fit)
      ∙ ap (times_pow (2073 - s)) (value-mask m small)

  zero-is : (s m : ℕ) → s < 2074 → m < 512 → fits 2074 s m ≡ true → all_zero (rem fire (burst_added v s m)) ≡ (m == carried rest s)
  zero-is s m lt small fit =
      let p = placed-length s m lt in
      let f = fire-length in
      let A = rem fire v in
      let D = rem fire (placed s m) in
      let la = rem-length v (omega arith) in
      let ld = rem-length (placed s m) (omega arith) in
      let sum : rem fire (burst_added v s m) ≡ add_bits A D = ap (rem fire) (added-is s m lt) ∙ remainder_is_linear fire v (placed s m) (omega arith) (omega arith) in
      let power = placed-power s m lt small fit in
      let whole = carried-whole rest s remainder-small lt in
      let forth : all_zero (rem fire (burst_added v s m)) ≡ true → (m == carried rest s) ≡ true =
      λ z.
      let same : A ≡ D = same-of A D (omega arith) (ap all_zero (sym sum) ∙ z) in
      let e : times_pow (2073 - s) m ≡ times_pow (2073 - s) (carried rest s) = sym power ∙ ap (λ r. times_pow 8 (value r)) (sym same) ∙ sym whole in
      eq-eqb m (carried rest s) (times_pow_same (2073 - s) m (carried rest s) (omega arith) (carried-small rest s remainder-small) e) in
      let back : (m == carried rest s) ≡ true → all_zero (rem fire (burst_added v s m)) ≡ true =
      λ h.
      let e : m ≡ carried rest s = eqb-true m (carried rest s) h in
      let n : value D ≡ value A = times_pow_same 8 (value D) (value A) (rw ld at (value-lt D)) remainder-small (power ∙ ap (times_pow (2073 - s)) e ∙ whole) in
      let same : D ≡ A = same_value D A (omega arith) n in
      ap all_zero (sum ∙ ap (add_bits A) same) ∙ self-zero A in
      same_test _ _ forth back

  explains-is : (s m : ℕ) → s < 2074 → m < 512 → explains v s m ≡ (fits 2074 s m && (m == carried rest s))
  unfolding explains
  explains-is s m lt small = ap (λ n. fits n s m && all_zero (rem fire (burst_added v s m))) long ∙ and_same (fits 2074 s m) _ _ (λ fit. zero-is s m lt small fit)

  pub only_pair : (s t m n : ℕ) → s < 2074 → t < 2074 → 256 ≤ m → m < 512 → 256 ≤ n → n < 512 → explains v s m ≡ true → explains v t n ≡ true → (s ≡ t) × (m ≡ n)
  only_pair s t m n ls lt am bm an bn em en =
      let a = and_parts (fits 2074 s m) (m == carried rest s) (sym (explains-is s m ls bm) ∙ em) in
      let b = and_parts (fits 2074 t n) (n == carried rest t) (sym (explains-is t n lt bn) ∙ en) in
      let c : times_pow (2073 - s) m ≡ times_pow 8 (value (rem fire v)) = ap (times_pow (2073 - s)) (eqb-true m (carried rest s) a.1) ∙ carried-whole rest s remainder-small ls in
      let d : times_pow (2073 - t) n ≡ times_pow 8 (value (rem fire v)) = ap (times_pow (2073 - t)) (eqb-true n (carried rest t) b.1) ∙ carried-whole rest t remainder-small lt in
      let r = bursts_differ_hold (2073 - s) (2073 - t) m n (omega arith) (omega arith) (am, bm) (an, bn) (c ∙ sym d) in
      (omega (arith, r.0), r.1)

  mask_at-hit : (s : ℕ) → s < 2074 → is_mask_at s (carried rest s) ≡ true → mask_at v s ≡ Some (carried rest s)
  unfolding mask_at is_mask_at
  mask_at-hit s lt h =
      let u : ℕ = carried rest s in
      let a = and_parts (nat_le 256 u && nat_lt u 512) (fits 2074 s u) h in
      let b = and_parts (nat_le 256 u) (nat_lt u 512) a.0 in
      let low = leb-true 256 u b.0 in
      let high = ltb-true u 512 b.1 in
      from-hit (explains v s) 256 256 u low (omega arith) (explains-is s u lt high ∙ and_from _ _ a.1 (eq-eqb u u refl))
      (λ r x y. explains-is s r lt (omega arith) ∙ and_right (fits 2074 s r) (r == u) (ne_eqb r u (λ e. omega arith)))

  mask_at-miss : (s : ℕ) → s < 2074 → is_mask_at s (carried rest s) ≡ false → mask_at v s ≡ None
  unfolding mask_at is_mask_at
  mask_at-miss s lt h =
      let u : ℕ = carried rest s in
      from-miss (explains v s) 256 256 (λ r x y. explains-is s r lt (omega arith) ∙ elim (cases_Bool (r == u)) [
        | inl same ↦
            let e : r ≡ u = eqb-true r u same in
            let f : (nat_le 256 u && nat_lt u 512 && fits 2074 s u) ≡ fits 2074 s u = rw (le-leb 256 u (omega arith), lt-ltb u 512 (omega arith)) refl in
            and_left (fits 2074 s r) (r == u) (ap (fits 2074 s) e ∙ sym f ∙ h)
        | inr apart ↦ and_right (fits 2074 s r) (r == u) apart
      ])

  -- what each place gives
  at_place : ℕ → Option Burst
  at_place s = option_map (λ m. record { start = s; mask = m }) (mask_at v s)

  found-is : (n s : ℕ) → s + n ≤ 2074 → first_found at_place n s ≡ trapped_from n s (carried rest s)
  unfolding first_found trapped_from
  found-is zero s le = refl
  found-is (suc n) s le = elim (cases_Bool (is_mask_at s (carried rest s))) [
    | inl hit ↦ first_found-some at_place n s (record { start = s; mask = carried rest s }) (unfold at_place in ap (option_map (λ m. record { start = s; mask = m })) (mask_at-hit s (omega arith) hit)) ∙ sym (trapped_from-yes n s (carried rest s) hit)
    | inr miss ↦
        first_found-none at_place n s (unfold at_place in ap (option_map (λ m. record { start = s; mask = m })) (mask_at-miss s (omega arith) miss))
        ∙ found-is n (suc s) (omega arith)
        ∙ ap (trapped_from n (suc s)) (carried-next rest s)
        ∙ sym (trapped_from-no n s (carried rest s) miss)
  ]

  pub burst_is_trapped : burst v ≡ trapped (value (rem fire v))
  unfolding burst trapped at_place carried times_pow
  burst_is_trapped =
      ap (λ n. first_found at_place n 0) long ∙ found-is 2074 0 (omega arith)

-- ---- the burst that explains a word is the one that is found
first_found-hit : {A : Type 0} (f : ℕ → Option A) (n p q : ℕ) (x : A) → p ≤ q → q < p + n → f q ≡ Some x → ((r : ℕ) → p ≤ r → r < q → f r ≡ None) → first_found f n p ≡ Some x
first_found-hit f zero p q x le lt hit miss = absurd (omega arith)
first_found-hit f (suc n) p q x le lt hit miss = elim (cases_lt p q) [
  | inl less ↦ first_found-none f n p (miss p (omega arith) less) ∙ first_found-hit f n (suc p) q x less (omega arith) hit (λ r a b. miss r (omega arith) b)
  | inr same ↦ let e : p ≡ q = omega arith in first_found-some f n p x (rw e hit)
]

-- what explains a word is found
pub explained_is_found : (v : List Bool) (s m : ℕ) → length v ≡ 2074 → s < 2074 → 256 ≤ m → m < 512 → explains v s m ≡ true → burst v ≡ Some (record { start = s; mask = m })
unfolding burst mask_at
explained_is_found v s m long lt low high e =
    ap (λ n. first_found (λ r. option_map (λ k. record { start = r; mask = k }) (mask_at v r)) n 0) long
    ∙ first_found-hit (λ r. option_map (λ k. record { start = r; mask = k }) (mask_at v r)) 2074 0 s (record { start = s; mask = m }) (omega arith) (omega arith)
    (ap (option_map (λ k. record { start = s; mask = k })) (from-hit (explains v s) 256 256 m low (omega arith) e
    (λ k a b. not_true (explains v s k) (λ h. let p = only_pair v long s s k m lt lt a (omega arith) low high h e in omega (arith, p.1)))))
    (λ r a b. ap (option_map (λ k. record { start = r; mask = k })) (from-miss (explains v r) 256 256
    (λ k x y. not_true (explains v r k) (λ h. let p = only_pair v long r s k m (omega arith) lt x (omega arith) low high h e in omega (arith, p.0)))))
  where
    not_true : (b : Bool) → (b ≡ true → ⊥) → b ≡ false
    not_true true f = absurd (f refl)
    not_true false f = refl

pub added-length : (v : List Bool) (s m : ℕ) → length v ≡ 2074 → s < 2074 → length (burst_added v s m) ≡ 2074
added-length v s m long lt = ap length (added-is v long s m lt) ∙ add_length-same v (placed v long s m) (placed-length v long s m lt ∙ sym long) ∙ placed-length v long s m lt
  where
    add_length-same : (xs ys : List Bool) → length ys ≡ length xs → length (add_bits xs ys) ≡ length ys
    add_length-same xs ys e = add_length_below xs ys (omega arith)

placed-same : (v w : List Bool) (lv : length v ≡ 2074) (lw : length w ≡ 2074) (s m : ℕ) → placed v lv s m ≡ placed w lw s m
unfolding placed
placed-same v w lv lw s m = ap (λ n. take n ((zeros s ++ bits 9 m) ++ zeros (2073 - s))) (lv ∙ sym lw)

-- a burst added twice goes
pub added-twice : (v : List Bool) (s m : ℕ) → length v ≡ 2074 → s < 2074 → burst_added (burst_added v s m) s m ≡ v
added-twice v s m long lt =
    let w : List Bool = burst_added v s m in
    let lw = added-length v s m long lt in
    let p : List Bool = placed v long s m in
    let lp = placed-length v long s m lt in
    added-is w lw s m lt ∙ ap (add_bits w) (placed-same w v lw long s m) ∙ ap (λ x. add_bits x p) (added-is v long s m lt ∙ add_comm_bits v p) ∙ add_comm_bits (add_bits p v) p ∙ add_twice p v (omega arith)

pub value-all_zero : (xs : List Bool) → all_zero xs ≡ true → value xs ≡ 0
unfolding all_zero
value-all_zero [] e = refl
value-all_zero (true ∷ xs) e = absurd (true≢false (sym e))
value-all_zero (false ∷ xs) e = let h = value-all_zero xs e in omega arith

over_pow-zero : (n : ℕ) → over_pow n 0 ≡ 0
unfolding over_pow over_x
over_pow-zero zero = refl
over_pow-zero (suc n) = over_pow-zero n

pub times_pow-zero : (n : ℕ) → times_pow n 0 ≡ 0
unfolding times_pow times_x
times_pow-zero zero = refl
times_pow-zero (suc n) = times_pow-zero n

carried-zero : (v : List Bool) (long : length v ≡ 2074) (s : ℕ) → all_zero (rem fire v) ≡ true → carried (value (rem fire v)) s ≡ 0
unfolding carried
carried-zero v long s z = ap (λ r. times_pow s (over_pow 2065 r)) (value-all_zero (rem fire v) z) ∙ ap (times_pow s) (over_pow-zero 2065) ∙ times_pow-zero s

explains-from : (v w : List Bool) (s m : ℕ) → length w ≡ 2074 → fits 2074 s m ≡ true → burst_added w s m ≡ v → all_zero (rem fire v) ≡ true → explains w s m ≡ true
unfolding explains
explains-from v w s m lw fit back z = and_from (fits (length w) s m) _ (ap (λ n. fits n s m) lw ∙ fit) (ap (λ x. all_zero (rem fire x)) back ∙ z)

pub one_burst_is_found : OneBurstIsFound
one_burst_is_found v s m long lt low high fit z =
    let w : List Bool = burst_added v s m in
    let lw = added-length v s m long lt in
    let back = added-twice v s m long lt in
    let c = carried-zero v long s z in (
      zero-is v long s m lt high fit ∙ ne_eqb m (carried (value (rem fire v)) s) (λ e. omega arith),
      explained_is_found w s m lw lt low high (explains-from v w s m lw fit back z),
      back,
    )
