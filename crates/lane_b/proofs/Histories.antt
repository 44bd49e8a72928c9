-- The history of faults as a number, and four faults of sixteen.
use Rattle.std.proofs.Common.{◌≡◌, ℕ, zero, suc, ◌+◌, ◌*◌, ◌/◌, ◌%◌, ◌^◌, ◌<◌, ◌≤◌, nat_le, ◌||◌, ◌⊎◌, inl, inr, Bool, true, false, List, [], ◌∷◌, ◌++◌, length, reverse, take, refl, sym, ◌∙◌, ap, ap₂, arith, length-append, count_ones, cond, le-leb}
use Rattle.std.specs.List.{count_by}
use Rattle.std.specs.Int.Count.{ones_step}
use Rattle.std.specs.Int.Bits.{bit_or}
use Rattle.std.proofs.Math.Nat.{pow-suc}
use Rattle.std.proofs.lemmas.Bool.{cases_lt, cases_Bool, lt-leb}
use Rattle.std.proofs.lemmas.Nat.{pow_pos, or_shifted, ones_le_self}
use Rattle.std.proofs.lemmas.List.{take_all, take-append-le, reverse-append, length-reverse}
use Rattle.std.proofs.lemmas.List.Sums.{sum_by-cons}
use Rattle.jesd_base.specs.Bits.{bit}
use Rattle.lane_b.specs.Loss.{some_rest, has_four_faults}
use Rattle.lane_b.specs.kept.Counts.{number}

-- ---- the number

number-below : (n : ℕ) (bs : List Bool) → number (take n bs) < 2 ^ n
unfolding number
number-below zero bs = omega arith
number-below (suc n) [] = pow_pos (suc n)
number-below (suc n) (true ∷ bs) = let h = number-below n bs in let p = pow-suc 2 n in omega arith
number-below (suc n) (false ∷ bs) = let h = number-below n bs in let p = pow-suc 2 n in omega arith

-- one bit more is the highest
number-longer : (n : ℕ) (bs : List Bool) → (number (take (suc n) bs) ≡ number (take n bs)) ⊎ (number (take (suc n) bs) ≡ number (take n bs) + 2 ^ n)
unfolding number
number-longer zero [] = inl refl
number-longer zero (true ∷ bs) = inr refl
number-longer zero (false ∷ bs) = inl refl
number-longer (suc n) [] = inl refl
number-longer (suc n) (b ∷ bs) = elim (number-longer n bs) [
  | inl same ↦ inl (ap (λ m. bit b + 2 * m) same)
  | inr more ↦ let p = pow-suc 2 n in inr (ap (λ m. bit b + 2 * m) more ∙ omega arith)
]

-- one reading more
pub number-next : (fault : Bool) (rs : List Bool) → bit_or (number (take 16 rs) * 2 % 65536) (bit fault) ≡ number (take 16 (fault ∷ rs))
unfolding number
number-next fault rs =
    let low : number (take 15 rs) < 32768 = number-below 15 rs in
    let small : bit fault < 2 ^ 1 = elim (cases_Bool fault) [ inl t ↦ rw t (omega arith) | inr f ↦ rw f (omega arith) ] in
    let whole : number (take 16 rs) * 2 % 65536 ≡ number (take 15 rs) * 2 = elim (number-longer 15 rs) [ inl same ↦ omega arith | inr more ↦ omega arith ] in
    rw whole (or_shifted (number (take 15 rs)) 1 (bit fault) small ∙ omega arith)

-- ---- counts

abbrev pub count : List Bool → ℕ
count bs = count_by (λ (b : Bool). b) bs

count-cons : (b : Bool) (bs : List Bool) → count (b ∷ bs) ≡ bit b + count bs
count-cons true bs = sum_by-cons (λ (b : Bool). cond b 1 0) true bs
count-cons false bs = sum_by-cons (λ (b : Bool). cond b 1 0) false bs

count-push : (bs : List Bool) (b : Bool) → count (bs ++ b ∷ []) ≡ bit b + count bs
count-push [] b = omega arith
count-push (x ∷ bs) b =
    let h = count-push bs b in
    let long = count-cons x (bs ++ b ∷ []) in
    let short = count-cons x bs in
    omega arith

count-reverse : (bs : List Bool) → count (reverse bs) ≡ count bs
count-reverse [] = refl
count-reverse (b ∷ bs) = ap count (reverse-append (b ∷ []) bs) ∙ count-push (reverse bs) b ∙ ap (λ n. bit b + n) (count-reverse bs) ∙ sym (count-cons b bs)

pub count_ones-number : (bs : List Bool) → count_ones (number bs) ≡ count bs
unfolding number
count_ones-number [] = let h = ones_le_self 0 in omega arith
count_ones-number (b ∷ bs) =
    let n : ℕ = bit b + 2 * number bs in
    let small : bit b < 2 = elim (cases_Bool b) [ inl t ↦ rw t (omega arith) | inr f ↦ rw f (omega arith) ] in
    let low : n % 2 ≡ bit b = omega arith in
    let rest : n / 2 ≡ number bs = omega arith in
    ones_step n ∙ ap₂ (λ x y. x + count_ones y) low rest ∙ ap (λ m. bit b + m) (count_ones-number bs) ∙ sym (count-cons b bs)

-- ---- four of sixteen

any-four : (some all later : ℕ) (held : Bool) → some ≤ all → later ≤ all
    → (nat_le 4 all || (held || nat_le 4 later)) ≡ ((nat_le 4 some || held) || nat_le 4 all)
any-four some all later true l m = elim (cases_lt all 4) [
  | inl below ↦ rw (lt-leb 4 all below, lt-leb 4 some (omega arith)) refl
  | inr past ↦ rw (le-leb 4 all past) (elim (cases_Bool (nat_le 4 some)) [ inl t ↦ rw t refl | inr f ↦ rw f refl ])
]
any-four some all later false l m = elim (cases_lt all 4) [
  | inl below ↦ rw (lt-leb 4 all below, lt-leb 4 some (omega arith), lt-leb 4 later (omega arith)) refl
  | inr past ↦ rw (le-leb 4 all past) (elim (cases_Bool (nat_le 4 some)) [ inl t ↦ rw t refl | inr f ↦ rw f refl ])
]

pub or-assoc : (a b c : Bool) → (a || (b || c)) ≡ ((a || b) || c)
or-assoc true b c = refl
or-assoc false b c = refl

abbrev pub late : Bool → List Bool → Bool
late b rs = nat_le 4 (count (take 16 (b ∷ rs)))

pub four_faults-next : (xs : List Bool) (b : Bool) → has_four_faults (xs ++ b ∷ []) ≡ (has_four_faults xs || late b (reverse xs))
unfolding some_rest
four_faults-next [] true = refl
four_faults-next [] false = refl
four_faults-next (x ∷ xs) b =
    let h = four_faults-next xs b in
    let back : reverse (x ∷ xs) ≡ reverse xs ++ x ∷ [] = reverse-append (x ∷ []) xs in
    let long : length (reverse xs) ≡ length xs = length-reverse xs in
    elim (cases_lt (length xs) 15) [
      | inr past ↦
          let first : take 16 ((x ∷ xs) ++ b ∷ []) ≡ take 16 (x ∷ xs) = take-append-le 16 (x ∷ xs) (b ∷ []) (omega arith) in
          let last : take 16 (b ∷ reverse (x ∷ xs)) ≡ take 16 (b ∷ reverse xs) = ap (λ rs. take 16 (b ∷ rs)) back ∙ take-append-le 16 (b ∷ reverse xs) (x ∷ []) (omega arith) in
          ap₂ (λ u v. nat_le 4 (count u) || v) first h
          ∙ or-assoc (nat_le 4 (count (take 16 (x ∷ xs)))) (has_four_faults xs) (late b (reverse xs))
          ∙ ap (λ u. (nat_le 4 (count (take 16 (x ∷ xs))) || has_four_faults xs) || nat_le 4 (count u)) (sym last)
      | inl short ↦
          let all : take 16 ((x ∷ xs) ++ b ∷ []) ≡ (x ∷ xs) ++ b ∷ [] = take_all 16 ((x ∷ xs) ++ b ∷ []) (omega (arith, length-append (x ∷ xs) (b ∷ []))) in
          let some : take 16 (x ∷ xs) ≡ x ∷ xs = take_all 16 (x ∷ xs) (omega arith) in
          let later : take 16 (b ∷ reverse xs) ≡ b ∷ reverse xs = take_all 16 (b ∷ reverse xs) (omega arith) in
          let last : take 16 (b ∷ reverse (x ∷ xs)) ≡ b ∷ reverse (x ∷ xs) = take_all 16 (b ∷ reverse (x ∷ xs)) (omega (arith, length-reverse (x ∷ xs))) in
          let n : ℕ = count ((x ∷ xs) ++ b ∷ []) in
          let e = count-push (x ∷ xs) b in
          let of_last : count (b ∷ reverse (x ∷ xs)) ≡ n = count-cons b (reverse (x ∷ xs)) ∙ ap (λ m. bit b + m) (count-reverse (x ∷ xs)) ∙ sym e in
          let of_later : count (b ∷ reverse xs) ≡ bit b + count xs = count-cons b (reverse xs) ∙ ap (λ m. bit b + m) (count-reverse xs) in
          let more = count-cons x xs in
          ap₂ (λ u v. nat_le 4 (count u) || v) all (h ∙ ap (λ u. has_four_faults xs || nat_le 4 (count u)) later)
          ∙ any-four (count (x ∷ xs)) n (count (b ∷ reverse xs)) (has_four_faults xs) (omega arith) (omega arith)
          ∙ ap₂ (λ u v. (nat_le 4 (count u) || has_four_faults xs) || nat_le 4 v) (sym some) (sym of_last ∙ ap count (sym last))
    ]
