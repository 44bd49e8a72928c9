-- A stable sort by tick puts events in the order of ticks.
use Rattle.std.proofs.Common.{◌≡◌, ◌≤◌, ◌<◌, ◌+◌, ◌==◌, ◌∙◌, ℕ, zero, suc, true, false, List, [], ◌∷◌, ◌++◌, length, get_or, is_lt, nat_cmp, refl, sym, ap, ap₂, arith, inl, inr, suc-le-suc, zero-le}
use Rattle.std.proofs.lemmas.Bool.{cases_lt, cond-true, cond-false, eq-eqb, ne_eqb}
use Rattle.std.proofs.lemmas.Bool.Decides.{nat_tests}
use Rattle.std.proofs.lemmas.List.Elements.{All-head, All-tail, filter_agree}
use Rattle.std.specs.List.{All, flat_map}
use Rattle.std.specs.List.Sorted.{ties, IsNonDecreasingBy, IsStableByKey}
use Rattle.link_params.specs.declared.alarms.Device.TheVariants.{Tx}
use Rattle.scenario.specs.declared.plan.Event.{Event}
use Rattle.scenario.specs.declared.plan.What.TheVariants.{Reset}
use Rattle.scenario.specs.Plans.{events_in, in_order, numbers_from}

ties-same : (m n : ℕ) → m ≡ n → ties (λ x y. is_lt (nat_cmp x y)) m n ≡ true
ties-same m n e = grind (arith, nat_tests)

ties-other : (m n : ℕ) → (m ≡ n → ⊥) → ties (λ x y. is_lt (nat_cmp x y)) m n ≡ false
ties-other m n e = grind (arith, nat_tests)

ties-tick : (t : ℕ) (e : Event) → ties (λ x y. is_lt (nat_cmp x y)) t e.tick ≡ (e.tick == t)
ties-tick t e = elim (cases_lt t e.tick) [
  | inl below ↦ ties-other t e.tick (λ s. absurd (omega arith))
      ∙ sym (ne_eqb e.tick t (λ s. absurd (omega arith)))
  | inr up ↦ elim (cases_lt e.tick t) [
    | inl above ↦ ties-other t e.tick (λ s. absurd (omega arith))
        ∙ sym (ne_eqb e.tick t (λ s. absurd (omega arith)))
    | inr down ↦ let same : t ≡ e.tick = omega arith in ties-same t e.tick same
        ∙ sym (eq-eqb e.tick t (sym same))
  ]
]

-- the events of each tick keep their order
same_in : (xs ys : List Event) → IsStableByKey (λ (e : Event). e.tick) nat_cmp xs ys → (t : ℕ)
    → events_in t xs ≡ events_in t ys
same_in xs ys stable t =
    let x : Event = record { tick = t; what = Reset Tx } in
    sym (filter_agree _ (λ (e : Event). e.tick == t) (ties-tick t) xs) ∙ sym (stable x)
    ∙ filter_agree _ (λ (e : Event). e.tick == t) (ties-tick t) ys

flat_map-agree : (ts : List ℕ) (f g : ℕ → List Event) → ((t : ℕ) → f t ≡ g t)
    → flat_map f ts ≡ flat_map g ts
flat_map-agree [] f g same = refl
flat_map-agree (t ∷ ts) f g same = ap₂ (λ us vs. us ++ vs) (same t) (flat_map-agree ts f g same)

kept : (t : ℕ) (y : Event) (ys : List Event) → y.tick ≡ t
    → events_in t (y ∷ ys) ≡ y ∷ events_in t ys
kept t y ys e = cond-true _ _ _ (eq-eqb y.tick t e)

dropped : (t : ℕ) (y : Event) (ys : List Event) → (y.tick ≡ t → ⊥)
    → events_in t (y ∷ ys) ≡ events_in t ys
dropped t y ys e = cond-false _ _ _ (ne_eqb y.tick t e)

abbrev AreFrom : ℕ → List Event → Type 0
AreFrom t [] = Unit {0}
AreFrom t (y ∷ ys) = (t ≤ y.tick) × AreFrom t ys

abbrev Rise : List Event → Type 0
Rise [] = Unit {0}
Rise (y ∷ ys) = AreFrom y.tick ys × Rise ys

from-at : (ys : List Event) (t : ℕ) (d : Event)
    → ((j : ℕ) → j < length ys → t ≤ (get_or ys j d).tick) → AreFrom t ys
from-at [] t d h = tt
from-at (y ∷ ys) t d h =
    (h zero (suc-le-suc zero-le), from-at ys t d (λ j lt. h (suc j) (suc-le-suc lt)))

rise-sorted : (ys : List Event) → IsNonDecreasingBy (λ (e : Event). e.tick) ys → Rise ys
rise-sorted [] h = tt
rise-sorted (y ∷ ys) h = (
  from-at ys y.tick y (λ j lt. h zero (suc j) y zero-le (suc-le-suc lt)),
  rise-sorted ys (λ i j d le lt. h (suc i) (suc j) d (suc-le-suc le) (suc-le-suc lt)),
)

none_in : (ys : List Event) (t u : ℕ) → t < u → AreFrom u ys → events_in t ys ≡ []
none_in [] t u less h = refl
none_in (y ∷ ys) t u less h =
    let low : u ≤ y.tick = h.0 in dropped t y ys (λ e. absurd (omega arith))
    ∙ none_in ys t u less h.1

-- past its tick an event plays no part
past : (n a : ℕ) (y : Event) (ys : List Event) → y.tick < a
    → flat_map (λ t. events_in t (y ∷ ys)) (numbers_from a n) ≡ flat_map (λ t. events_in t ys)
    (numbers_from a n)
unfolding numbers_from
past zero a y ys less = refl
past (suc n) a y ys less =
    ap₂ (λ us vs. us ++ vs) (dropped a y ys (λ e. absurd (omega arith)))
    (past n (suc a) y ys (omega arith))

-- the first event of them all comes first
first_of : (n a : ℕ) (y : Event) (ys : List Event) → a ≤ y.tick → y.tick < a + n → AreFrom y.tick ys
    → flat_map (λ t. events_in t (y ∷ ys)) (numbers_from a n) ≡ y
    ∷ flat_map (λ t. events_in t ys) (numbers_from a n)
unfolding numbers_from
first_of zero a y ys low high up = absurd (omega arith)
first_of (suc n) a y ys low high up = elim (cases_lt a y.tick) [
  | inl below ↦
      ap₂ (λ us vs. us ++ vs) (dropped a y ys (λ e. absurd (omega arith))
      ∙ none_in ys a y.tick below up) (first_of n (suc a) y ys (omega arith) (omega arith) up)
      ∙ ap (λ us. y ∷ (us ++ flat_map (λ t. events_in t ys) (numbers_from (suc a) n)))
      (sym (none_in ys a y.tick below up))
  | inr here ↦ ap₂ (λ us vs. us ++ vs) (kept a y ys (omega arith))
      (past n (suc a) y ys (omega arith))
]

no_events : (n a : ℕ) → flat_map (λ t. events_in t []) (numbers_from a n) ≡ []
unfolding numbers_from
no_events zero a = refl
no_events (suc n) a = no_events n (suc a)

ordered : (ys : List Event) (ticks : ℕ) → Rise ys → All (λ (e : Event). e.tick < ticks) ys
    → flat_map (λ t. events_in t ys) (numbers_from 0 ticks) ≡ ys
ordered [] ticks up below = no_events ticks 0
ordered (y ∷ ys) ticks up below =
    let less : y.tick < ticks = All-head (λ (e : Event). e.tick < ticks) y ys below in
    first_of ticks 0 y ys zero-le (omega arith) up.0
    ∙ ap (λ es. y ∷ es)
    (ordered ys ticks up.1 (All-tail (λ (e : Event). e.tick < ticks) y ys below))

-- what a stable sort by tick leaves
pub in_order-sorted : (ticks : ℕ) (xs ys : List Event) → All (λ (e : Event). e.tick < ticks) ys
    → IsNonDecreasingBy (λ (e : Event). e.tick) ys
    → IsStableByKey (λ (e : Event). e.tick) nat_cmp xs ys → in_order ticks xs ≡ ys
unfolding in_order
in_order-sorted ticks xs ys below up stable =
    flat_map-agree (numbers_from 0 ticks) (λ t. events_in t xs) (λ t. events_in t ys)
    (same_in xs ys stable) ∙ ordered ys ticks (rise-sorted ys up) below
