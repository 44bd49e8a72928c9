-- Receiver lanes, transmitter lanes, and lanes of the frame.
use Rattle.std.proofs.Common.{◌≡◌, ℕ, zero, suc, ◌+◌, ◌<◌, ◌≤◌, ◌==◌, nat_lt, Bool, true, false, ◌&&◌, ◌||◌, List, [], ◌∷◌, map, length, get_or, Option, Some, None, inl, inr, refl, sym, ap, ◌∙◌, slice_index, unwrap_or, arith}
use Rattle.std.specs.List.{list_all, list_any}
use Rattle.std.proofs.lemmas.Bool.{and_parts, cases_Bool, cases_lt, eqb-true, ltb-true, true≢false}
use Rattle.std.proofs.lemmas.List.{get_or-map, get_or_past}
use Rattle.jesd_base.specs.Search.{first_from}
use Rattle.jesd_base.proofs.BitLemmas.{finds_least, finds_none}
use Rattle.scenario.specs.Plans.{Plan, numbers_from}
use Rattle.scenario.specs.Limits.{is_order}
use Rattle.link_model.proofs.NextMoment.{lanes_of}
use Rattle.link_model.proofs.NumberLists.{get_or-numbers, length-numbers, map-numbers}
use Rattle.link_model.specs.Wiring.{by_frame, lane_for, route_of}

-- ---- a lane for each lane of the frame

first-below : (test : ℕ → Bool) (n a m : ℕ) → a + n ≤ m → 0 < m
    → unwrap_or (first_from test n a) 0 < m
unfolding first_from
first-below test zero a m within some = some
first-below test (suc n) a m within some = elim (cases_Bool (test a)) [
  | inl e ↦ rw e (omega arith)
  | inr e ↦ rw e (first-below test n (suc a) m (omega arith) some)
]

pub lane-for-below : (s : Plan) (place : ℕ) → 0 < s.link.params.l
    → lane_for s place < s.link.params.l
unfolding lane_for
lane-for-below s place some =
    first-below (λ lane. route_of s lane == place) s.link.params.l 0 s.link.params.l (omega arith) some

-- what lanes have, in the order of the lanes of the frame
pub by-frame-map : {X : Type 0} (f : ℕ → X) → (s : Plan) (none : X) → 0 < s.link.params.l
    → by_frame s none (map f (lanes_of s)) ≡ map (λ place. f (lane_for s place)) (lanes_of s)
by-frame-map {X} f s none some =
    let l : ℕ = s.link.params.l in
    let long = length-numbers l 0 in
    map-numbers (λ place. get_or (map f (lanes_of s)) (lane_for s place) none)
    (λ place. f (lane_for s place)) l 0 (λ place below.
    let lane : ℕ = lane_for s place in
    let inside = lane-for-below s place some in
    let same : 0 + lane ≡ lane = omega arith in
    get_or-map f (lanes_of s) lane 0 none (omega arith)
    ∙ ap f (get_or-numbers l lane 0 0 inside ∙ same))

-- ---- orders of the lanes

record IsOrder (l : ℕ) (lanes : List ℕ) : Type 0 where
  many : length lanes ≡ l
  small : list_all (λ x. nat_lt x l) lanes ≡ true
  all : list_all (λ lane. list_any (λ x. x == lane) lanes) (numbers_from 0 l) ≡ true

order-parts : (l : ℕ) (lanes : List ℕ) → is_order l lanes ≡ true → IsOrder l lanes
unfolding is_order
order-parts l lanes e =
    let many : Bool = length lanes == l in
    let small : Bool = list_all (λ x. nat_lt x l) lanes in
    let all : Bool = list_all (λ lane. list_any (λ x. x == lane) lanes) (numbers_from 0 l) in
    let a = and_parts (many && small) all e in
    let b = and_parts many small a.0 in
    record { many = eqb-true (length lanes) l b.0; small = b.1; all = a.1 }

all-at : (test : ℕ → Bool) (xs : List ℕ) (i : ℕ) → list_all test xs ≡ true → i < length xs
    → test (get_or xs i 0) ≡ true
all-at test [] i all inside = absurd (omega arith)
all-at test (x ∷ xs) zero all inside = (and_parts (test x) (list_all test xs) all).0
all-at test (x ∷ xs) (suc i) all inside =
    all-at test xs i (and_parts (test x) (list_all test xs) all).1 (omega arith)

-- each lane is one of the lanes below l, and past the end it is lane 0
pub order-below : (l : ℕ) (lanes : List ℕ) (lane : ℕ) → 0 < l → is_order l lanes ≡ true
    → slice_index lanes lane < l
order-below l lanes lane some e =
    let o = order-parts l lanes e in
    elim (cases_lt lane (length lanes)) [
      | inl inside ↦
          ltb-true (get_or lanes lane 0) l (all-at (λ x. nat_lt x l) lanes lane o.small inside)
      | inr past ↦ let none = get_or_past lanes lane 0 past in rw none some
    ]

any-at : (test : ℕ → Bool) (xs : List ℕ) → list_any test xs ≡ true
    → (i : ℕ) × (i < length xs) × (test (get_or xs i 0) ≡ true)
any-at test [] e = let bad : false ≡ true = e in absurd (cc)
any-at test (x ∷ xs) e = elim (cases_Bool (test x)) [
  | inl good ↦ (0, omega arith, good)
  | inr bad ↦
      let later : list_any test xs ≡ true = sym (ap (λ (b : Bool). b || list_any test xs) bad) ∙ e in
      let k = any-at test xs later in
      let inside = k.1 in
      (suc k.0, omega arith, k.2)
]

all-numbers : (test : ℕ → Bool) (n a x : ℕ) → list_all test (numbers_from a n) ≡ true → a ≤ x
    → x < a + n → test x ≡ true
unfolding numbers_from
all-numbers test zero a x all from to = absurd (omega arith)
all-numbers test (suc n) a x all from to =
    let parts = and_parts (test a) (list_all test (numbers_from (suc a) n)) all in
    elim (cases_lt a x) [
      | inl behind ↦ all-numbers test n (suc a) x parts.1 (omega arith) (omega arith)
      | inr here ↦ let same : x ≡ a = omega arith in ap test same ∙ parts.0
    ]

found-at : (test : ℕ → Bool) (n : ℕ) (o : Option ℕ) → first_from test n 0 ≡ o
    → (x : ℕ) → x < n → test x ≡ true → test (unwrap_or o 0) ≡ true
found-at test n (Some y) is x below good = ((finds_least test n 0 y).0 is).0.passes
found-at test n None is x below good =
    let never = (finds_none test n 0).0 is x (omega arith) (omega arith) in
    absurd (true≢false (sym good ∙ never))

-- the lane that is found for a lane of the frame is set to be it
pub order-found : (s : Plan) (place : ℕ) → is_order s.link.params.l s.route ≡ true
    → place < s.link.params.l
    → route_of s (lane_for s place) ≡ place
unfolding lane_for
order-found s place e below =
    let l : ℕ = s.link.params.l in
    let o = order-parts l s.route e in
    let test : ℕ → Bool = λ lane. route_of s lane == place in
    let many = o.many in
    let k = any-at (λ x. x == place) s.route
    (all-numbers (λ lane. list_any (λ x. x == lane) s.route) l 0 place o.all (omega arith)
    (omega arith)) in
    let inside = k.1 in
    eqb-true (route_of s (lane_for s place)) place
    (found-at test l (first_from test l 0) refl k.0 (omega arith) k.2)
