-- The place that a lane holds where no place is ever lost: the least one; and the start by it.
use Rattle.std.proofs.Common.{◌≡◌, ℕ, zero, suc, ◌+◌, ◌<◌, ◌≤◌, Bool, List, length, drop, Option, Some, None, option_and_then, inl, inr, refl, ap, ◌∙◌, arith}
use Rattle.std.proofs.lemmas.Bool.{cases_lt}
use Rattle.link_params.specs.declared.fields.Params.{Params}
use Rattle.link_params.specs.declared.fields.Timing.{Timing}
use Rattle.link_params.specs.Lanes.{Taken}
use Rattle.multiblock.specs.Places.{Place, least_place, pattern, span}
use Rattle.multiblock.proofs.PlaceLemmas.{finds_least_place, finds_none as finds_no_place}
use Rattle.lane_c.specs.Loss.{first_loss}
use Rattle.lane_c.specs.Locking.{bits_taken, dropped_at, place, place_from}
use Rattle.lane_c.specs.Received.{report_c, report_of}

dropped-never : (e : ℕ) (taken : List Taken) (p : Place) → first_loss e (bits_taken taken) p ≡ None
    → dropped_at e taken p ≡ None
unfolding dropped_at
dropped-never e taken p never = rw never refl

held-from : (n e : ℕ) (taken : List Taken) (p : Place) → 0 < n
    → least_place e 0 (bits_taken taken) ≡ Some p → first_loss e (bits_taken taken) p ≡ None
    → place_from n e taken 0 ≡ Some p
unfolding place_from
held-from zero e taken p some found never = absurd (omega arith)
held-from (suc n) e taken p some found never =
    let Keep : Option ℕ → Option Place =
    λ d. elim d as (λ o. Option Place) [ None ↦ Some p | Some y ↦ place_from n e taken y ] in
    ap (option_and_then
    (λ (q : Place). elim (dropped_at e taken q) as (λ o. Option Place)
    [ None ↦ Some q | Some y ↦ place_from n e taken y ])) found
    ∙ ap Keep (dropped-never e taken p never)

-- a least place that is never lost is held
pub place-held : (e : ℕ) (taken : List Taken) (p : Place) → 0 < length taken
    → least_place e 0 (bits_taken taken) ≡ Some p → first_loss e (bits_taken taken) p ≡ None
    → place e taken ≡ Some p
unfolding place
place-held e taken p some found never = held-from (length taken) e taken p some found never

none-from : (n e : ℕ) (taken : List Taken) → least_place e 0 (bits_taken taken) ≡ None
    → place_from n e taken 0 ≡ None
unfolding place_from
none-from zero e taken none = refl
none-from (suc n) e taken none = rw none refl

-- without a place none is held
pub place-none : (e : ℕ) (taken : List Taken) → least_place e 0 (bits_taken taken) ≡ None
    → place e taken ≡ None
unfolding place
place-none e taken none = none-from (length taken) e taken none

-- what the lane reports then
pub report-held : (p : Params) (t : Timing) (lane : ℕ) (taken : List Taken) (x : Place)
    → place p.e taken ≡ Some x → report_c p t lane taken ≡ report_of p taken (Some x)
unfolding report_c
report-held p t lane taken x is = ap (report_of p taken) is

pub report-none : (p : Params) (t : Timing) (lane : ℕ) (taken : List Taken) → place p.e taken ≡ None
    → report_c p t lane taken ≡ report_of p taken None
unfolding report_c
report-none p t lane taken is = ap (report_of p taken) is

-- a place where the pattern stands is at or after the least one
pub some-place : (e f r : ℕ) (bs : List Bool) → f + span e ≤ length bs
    → pattern e (drop f bs) ≡ Some r
    → (p : Place) × (least_place e 0 bs ≡ Some p) × (p.first ≤ f)
some-place e f r bs whole stands = at_least (least_place e 0 bs) refl
  where
    at_least : (o : Option Place) → least_place e 0 bs ≡ o
        → (p : Place) × (least_place e 0 bs ≡ Some p) × (p.first ≤ f)
    at_least None is = let none = (finds_no_place e 0 bs).0 is f (omega arith) whole in absurd (cc)
    at_least (Some p) is = elim (cases_lt f p.first) [
      | inr low ↦ (p, is, low)
      | inl early ↦ let none = ((finds_least_place e 0 bs p).0 is).least f (omega arith) early in
          absurd (cc)
    ]
