-- An element of what a session delivered is one of what a tick of it delivered.
use Rattle.std.proofs.Common.{◌≡◌, ℕ, zero, suc, ◌+◌, ◌-◌, ◌<◌, ◌≤◌, List, [], ◌∷◌, ◌++◌, length, drop, get_or, slice_get, Some, None, inl, inr, refl, sym, ap, ◌∙◌, length-drop, arith}
use Rattle.std.specs.List.{flat_map}
use Rattle.std.proofs.lemmas.Bool.{cases_lt}
use Rattle.std.proofs.lemmas.List.{get_or-drop}
use Rattle.std.proofs.lemmas.List.Concat.{flat_map-append}
use Rattle.std.proofs.lemmas.Option.{slice_get_past, slice_get_within}
use Rattle.link_params.specs.Lanes.{LaneKind}
use Rattle.scenario.specs.Plans.{Plan}
use Rattle.link_model.specs.Moments.{Delivered, Moment}
use Rattle.link_model.specs.Run.{run}
use Rattle.link_model.specs.Sessions.{at, delivered_by, entered_by, first_tick}
use Rattle.link_model.proofs.RunTicks.{length-run, run-longer}
use Rattle.link_laws.proofs.OrdersGo.{run-at}

get-left : {A : Type 0} (xs ys : List A) (k : ℕ) → k < length xs
    → slice_get (xs ++ ys) k ≡ slice_get xs k
get-left [] ys k below = absurd (omega arith)
get-left (x ∷ xs) ys zero below = refl
get-left (x ∷ xs) ys (suc k) below = get-left xs ys k (omega arith)

get-right : {A : Type 0} (xs ys : List A) (k : ℕ) → length xs ≤ k
    → slice_get (xs ++ ys) k ≡ slice_get ys (k - length xs)
get-right [] ys k long = let z : k ≡ k - 0 = omega arith in ap (slice_get ys) z
get-right (x ∷ xs) ys zero long = absurd (omega arith)
get-right (x ∷ xs) ys (suc k) long =
    let e : k - length xs ≡ suc k - suc (length xs) = omega arith in
    get-right xs ys k (omega arith) ∙ ap (slice_get ys) e

-- element k of lists in a row is an element of one of them
record IsIn {A : Type 0} (f : Moment → List A) (ms : List Moment) (m : Moment)
    (x : A) : Type 0 where
  place : ℕ
  inside : place < length ms
  number : ℕ
  is : slice_get (f (get_or ms place m)) number ≡ Some x

in-flat : {A : Type 0} (f : Moment → List A) (ms : List Moment) (m : Moment) (k : ℕ) (x : A)
    → slice_get (flat_map f ms) k ≡ Some x → IsIn f ms m x
in-flat f [] m k x is = let past = slice_get_past (flat_map f []) k (omega arith) in
    let bad : None ≡ Some x = sym past ∙ is in absurd (cc)
in-flat f (a ∷ ms) m k x is = elim (cases_lt k (length (f a))) [
  | inl here ↦
      record {
        place = 0;
        inside = omega arith;
        number = k;
        is =
            sym (get-left (f a) (flat_map f ms) k here) ∙ is;
      }
  | inr later ↦
      let i = in-flat f ms m (k - length (f a)) x (sym (get-right (f a) (flat_map f ms) k later)
      ∙ is) in
      let inside = i.inside in
      record { place = suc i.place; inside = omega arith; number = i.number; is = i.is }
]

-- a frame that a session delivered, in its tick
pub record DeliveredIn (kind : LaneKind) (s : Plan) (h t : ℕ) (d : Delivered) : Type 0 where
  pub tick : ℕ
  pub since : first_tick kind s h ≤ tick
  pub by : tick ≤ t
  pub number : ℕ
  pub is : slice_get (at kind s tick).delivered number ≡ Some d

pub delivered-in : (kind : LaneKind) (s : Plan) (h t k : ℕ) (d : Delivered)
    → slice_get (delivered_by kind s h t) k ≡ Some d → DeliveredIn kind s h t d
delivered-in kind s h t k d is =
    let first : ℕ = first_tick kind s h in
    let m : Moment = at kind s 0 in
    let i = in-flat (λ (m : Moment). m.delivered) (drop first (run kind s (t + 1))) m k d is in
    let inside = i.inside in
    let long = length-run kind s (t + 1) in
    let rest = length-drop first (run kind s (t + 1)) in
    let tick : get_or (drop first (run kind s (t + 1))) i.place m ≡ at kind s (first + i.place) =
    get_or-drop first (run kind s (t + 1)) i.place m ∙ run-at kind s (t + 1) (first + i.place) m
    (omega arith) in
    record {
      tick = first + i.place;
      since = omega arith;
      by = omega arith;
      number = i.number;
      is =
          sym (ap (λ (x : Moment). slice_get x.delivered i.number) tick) ∙ i.is;
    }

-- a frame that entered by a tick has entered by a later one
pub entered-later : (kind : LaneKind) (s : Plan) (t u n o : ℕ) → t ≤ u
    → slice_get (entered_by kind s t) n ≡ Some o → slice_get (entered_by kind s u) n ≡ Some o
entered-later kind s t u n o low is =
    let of : Moment → List ℕ = λ m. m.entered in
    let m = run-longer (u - t) kind s (t + 1) in
    let end : t + 1 + (u - t) ≡ u + 1 = omega arith in
    let all : entered_by kind s u ≡ entered_by kind s t ++ flat_map of m.0 =
    ap (λ (k : ℕ). flat_map of (run kind s k)) (sym end) ∙ ap (flat_map of) m.1
    ∙ flat_map-append of (run kind s (t + 1)) m.0 in
    let inside = slice_get_within (entered_by kind s t) n o is in
    ap (λ (l : List ℕ). slice_get l n) all
    ∙ get-left (entered_by kind s t) (flat_map of m.0) n inside ∙ is
