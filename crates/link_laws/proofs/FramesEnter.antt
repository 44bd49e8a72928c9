-- The frames that enter from a tick on in which data begins, and the octets that the lanes are
-- handed of them.
use Rattle.std.proofs.Common.{◌≡◌, ℕ, zero, suc, ◌+◌, ◌-◌, ◌*◌, ◌/◌, ◌<◌, ◌≤◌, ◌%◌, ◌==◌, ◌||◌, if◌then◌else◌, Bool, true, false, List, [], ◌∷◌, length, map, filter, Option, Some, None, inl, inr, refl, sym, ap, ap₂, ◌∙◌, append-nil, length-append, arith}
use Rattle.std.proofs.Math.Nat.{add-mul-mod_self_left, add_comm, mul_assoc}
use Rattle.std.specs.List.{flat_map}
use Rattle.std.proofs.lemmas.Bool.{cases_Bool, cases_lt, eqb-true, eq-eqb, ne_eqb}
use Rattle.std.proofs.lemmas.List.{length-map}
use Rattle.std.proofs.lemmas.List.Concat.{flat_map-append}
use Rattle.std.proofs.lemmas.Nat.{div-mul-add}
use Rattle.link_params.specs.declared.fields.Params.{Params}
use Rattle.link_params.specs.Laws.{broken_law, is_b, laws}
use Rattle.link_params.specs.Lanes.{LaneKind}
use Rattle.link_params.specs.Numbers.{octets_per_tick, period}
use Rattle.scenario.specs.Plans.{Plan, numbers_from}
use Rattle.link_model.specs.Moments.{Moment}
use Rattle.link_model.specs.Sends.{beginnings, begins_frame, data_place, frames_before}
use Rattle.link_model.specs.Run.{run}
use Rattle.link_model.specs.Sessions.{at}
use Rattle.link_model.specs.Run.{moment}
use Rattle.link_laws.proofs.PlanRead.{all-hold}
use Rattle.link_model.proofs.RunTicks.{length-run, run-suc}

-- frames begun in x octets of data: those at multiples of f below x
abbrev pub begun_in : ℕ → ℕ → ℕ
begun_in f x = (x + (f - 1)) / f

-- one octet more begins a frame exactly where its place is a multiple of f
pub begun-more : (f x : ℕ) → 0 < f
    → begun_in f (x + 1) ≡ begun_in f x + (if x % f == 0 then 1 else 0)
begun-more f x some =
    let q : ℕ = x / f in
    let parts : f * q + x % f ≡ x = omega arith in
    let small : x % f < f = omega arith in
    elim (cases_lt 0 (x % f)) [
      | inr none ↦
          let zero_left : x % f ≡ 0 = omega arith in
          let before : x + (f - 1) ≡ q * f + (f - 1) = omega arith in
          let after : x + 1 + (f - 1) ≡ (q + 1) * f + 0 = omega arith in
          let a : begun_in f x ≡ q = ap (λ (n : ℕ). n / f) before
          ∙ div-mul-add q f (f - 1) (omega arith) in
          let b : begun_in f (x + 1) ≡ q + 1 = ap (λ (n : ℕ). n / f) after
          ∙ div-mul-add (q + 1) f 0 some in
          b
          ∙ sym (ap (λ (n : ℕ). n + (if x % f == 0 then 1 else 0)) a
          ∙ ap (λ (c : Bool). q + (if c then 1 else 0)) (eq-eqb (x % f) 0 zero_left))
      | inl left ↦
          let before : x + (f - 1) ≡ (q + 1) * f + (x % f - 1) = omega arith in
          let after : x + 1 + (f - 1) ≡ (q + 1) * f + x % f = omega arith in
          let a : begun_in f x ≡ q + 1 = ap (λ (n : ℕ). n / f) before
          ∙ div-mul-add (q + 1) f (x % f - 1) (omega arith) in
          let b : begun_in f (x + 1) ≡ q + 1 = ap (λ (n : ℕ). n / f) after
          ∙ div-mul-add (q + 1) f (x % f) small in
          let none_more : (if x % f == 0 then 1 else 0) ≡ zero =
          ap (λ (c : Bool). let n : ℕ = if c then 1 else 0 in n)
          (ne_eqb (x % f) 0 (λ z. omega arith)) in
          omega arith
    ]

-- the octets of a tick that begin a frame, counted; y: the octets of data before the tick
pub count-from : (n : ℕ) (p : Params) (x y j : ℕ) → 0 < p.f
    → ((i : ℕ) → (octets_per_tick p * x + i) % p.f ≡ (y + i) % p.f)
    → begun_in p.f (y + j) + length (filter (begins_frame p x) (numbers_from j n)) ≡ begun_in p.f
    (y + j + n)
unfolding numbers_from
count-from zero p x y j some same = let e : y + j + 0 ≡ y + j = omega arith in
    ap (λ (k : ℕ). k + 0) refl
    ∙ (let z : begun_in p.f (y + j) + 0 ≡ begun_in p.f (y + j) = omega arith in z)
    ∙ sym (ap (begun_in p.f) e)
count-from (suc n) p x y j some same =
    let more = begun-more p.f (y + j) some in
    let next : y + suc j ≡ y + j + 1 = omega arith in
    let end : y + suc j + n ≡ y + j + suc n = omega arith in
    let test : begins_frame p x j ≡ ((y + j) % p.f == 0) = ap (λ (k : ℕ). k == 0) (same j) in
    let rest = count-from n p x y (suc j) some same in
    elim (cases_Bool ((y + j) % p.f == 0)) [
      | inl here ↦
          let one : length (filter (begins_frame p x) (numbers_from j (suc n)))
          ≡ suc (length (filter (begins_frame p x) (numbers_from (suc j) n))) =
          rw (test ∙ here) refl in
          let step : begun_in p.f (y + j + 1) ≡ begun_in p.f (y + j) + 1 = more
          ∙ ap (λ (c : Bool). begun_in p.f (y + j) + (if c then 1 else 0)) here in
          let at_next = ap (begun_in p.f) next in
          let at_end = ap (begun_in p.f) end in
          omega arith
      | inr apart ↦
          let none : length (filter (begins_frame p x) (numbers_from j (suc n)))
          ≡ length (filter (begins_frame p x) (numbers_from (suc j) n)) =
          rw (test ∙ apart) refl in
          let step : begun_in p.f (y + j + 1) ≡ begun_in p.f (y + j) + 0 = more
          ∙ ap (λ (c : Bool). begun_in p.f (y + j) + (if c then 1 else 0)) apart in
          let at_next = ap (begun_in p.f) next in
          let at_end = ap (begun_in p.f) end in
          omega arith
    ]

-- ---- in a run

or_second : (a b : Bool) → a ≡ false → (a || b) ≡ true → b ≡ true
or_second a b no_first either = sym (ap (λ (c : Bool). c || b) no_first) ∙ either

mul-add-left : (c x y : ℕ) → c * (x + y) ≡ c * x + c * y
mul-add-left c x y = omega arith

-- a multiframe or extended multiblock holds whole frames
pub whole-frames : (p : Params) → broken_law p ≡ None
    → (k : ℕ) × (octets_per_tick p * period p ≡ p.f * k)
whole-frames p legal = elim (cases_Bool (is_b p.mode)) [
  | inl b ↦
      let one : octets_per_tick p ≡ 1 = rw b refl in
      let all : period p ≡ p.f * p.k = rw b refl in
      let times : 1 * (p.f * p.k) ≡ p.f * p.k = omega arith in
      (p.k, ap₂ (λ (x y : ℕ). x * y) one all ∙ times)
  | inr c ↦
      let eight : octets_per_tick p ≡ 8 = rw c refl in
      let all : period p ≡ 32 * p.e = rw c refl in
      let a = all-hold (laws p) legal in
      let law : (256 * p.e % p.f == 0) ≡ true =
      or_second (is_b p.mode) (256 * p.e % p.f == 0) c a.1.1.1.1.1.1.1.1.1.1.1.0 in
      let none = eqb-true (256 * p.e % p.f) 0 law in
      let parts : p.f * (256 * p.e / p.f) + 256 * p.e % p.f ≡ 256 * p.e = omega arith in
      let times : 8 * (32 * p.e) ≡ 256 * p.e = omega arith in
      (256 * p.e / p.f, ap₂ (λ (x y : ℕ). x * y) eight all ∙ times ∙ omega arith)
]

-- so a place in the data and its place in the multiframe begin frames alike
pub same-places : (p : Params) (j i : ℕ) → broken_law p ≡ None
    → (octets_per_tick p * (j % period p) + i) % p.f ≡ (octets_per_tick p * j + i) % p.f
same-places p j i legal =
    let n : ℕ = period p in
    let w = whole-frames p legal in
    let parts : n * (j / n) + j % n ≡ j = omega arith in
    let c : ℕ = octets_per_tick p in
    let split : c * j ≡ c * (j % n) + p.f * (w.0 * (j / n)) =
    ap (λ (x : ℕ). c * x) (sym parts) ∙ mul-add-left c (n * (j / n)) (j % n)
    ∙ ap (λ (x : ℕ). x + c * (j % n)) (sym (mul_assoc c n (j / n))
    ∙ ap (λ (x : ℕ). x * (j / n)) w.1 ∙ mul_assoc p.f w.0 (j / n))
    ∙ add_comm (p.f * (w.0 * (j / n))) (c * (j % n)) in
    let turn : c * (j % n) + p.f * (w.0 * (j / n)) + i ≡ c * (j % n) + i + p.f * (w.0 * (j / n)) =
    omega arith in
    sym (ap (λ (x : ℕ). (x + i) % p.f) split ∙ ap (λ (x : ℕ). x % p.f) turn
    ∙ add-mul-mod_self_left (c * (j % n) + i) p.f (w.0 * (j / n)))

frames-more : (kind : LaneKind) (s : Plan) (t : ℕ)
    → frames_before (run kind s (suc t)) ≡ frames_before (run kind s t) + length
    (at kind s t).entered
frames-more kind s t =
    let of : Moment → List ℕ = λ m. m.entered in
    ap frames_before (run-suc kind s t)
    ∙ ap length (flat_map-append of (run kind s t) (at kind s t ∷ []))
    ∙ length-append (flat_map of (run kind s t)) (flat_map of (at kind s t ∷ []))
    ∙ ap (λ (l : List ℕ). frames_before (run kind s t) + length l)
    (append-nil (at kind s t).entered)

pub entered-at : (kind : LaneKind) (s : Plan) (t : ℕ)
    → (at kind s t).entered ≡ map (λ j. octets_per_tick s.link.params * t + j)
    (beginnings s.link.params (data_place (at kind s t).order))
unfolding moment
entered-at kind s t =
    ap (λ (n : ℕ). map (λ j. octets_per_tick s.link.params * n + j)
    (beginnings s.link.params (data_place (at kind s t).order))) (length-run kind s t)

-- data from tick d on: the places of the ticks from d to t
module _ (kind : LaneKind) (s : Plan) (d t : ℕ) (legal : broken_law s.link.params ≡ None)
    (some : 0 < s.link.params.f)
    (places : (j : ℕ) → d + j ≤ t
    → data_place (at kind s (d + j)).order ≡ Some (j % period s.link.params)) where
  -- the number of the first frame of the data
  pub first_frame : ℕ
  first_frame = frames_before (run kind s d)

  -- the frames that began before tick j of the data
  pub begun-before : (j : ℕ) → d + j ≤ t + 1
      → frames_before (run kind s (d + j)) ≡ first_frame + begun_in s.link.params.f
      (octets_per_tick s.link.params * j)
  unfolding first_frame
  begun-before zero up =
      let p = s.link.params in
      let here : d + 0 ≡ d = omega arith in
      let none : octets_per_tick p * 0 + (p.f - 1) ≡ 0 * p.f + (p.f - 1) = omega arith in
      let zero_begun : begun_in p.f (octets_per_tick p * 0) ≡ 0 = ap (λ (n : ℕ). n / p.f) none
      ∙ div-mul-add 0 p.f (p.f - 1) (omega arith) in
      ap (λ (n : ℕ). frames_before (run kind s n)) here ∙ omega arith
  begun-before (suc j) up =
      let p = s.link.params in
      let c : ℕ = octets_per_tick p in
      let u : ℕ = d + j in
      let here : d + suc j ≡ suc u = omega arith in
      let place = places j (omega arith) in
      let n = begun-before j (omega arith) in
      let count = count-from c p (j % period p) (c * j) 0 some (λ i. same-places p j i legal) in
      let of : ℕ → ℕ = λ k. c * u + k in
      let more : length (at kind s u).entered
      ≡ length (filter (begins_frame p (j % period p)) (numbers_from 0 c)) =
      ap length (entered-at kind s u) ∙ ap (λ (o : Option ℕ). length (map of (beginnings p o)))
      place ∙ length-map (filter (begins_frame p (j % period p)) (numbers_from 0 c)) of in
      let start : c * j + 0 ≡ c * j = omega arith in
      let start_begun = ap (begun_in p.f) start in
      let end : c * j + 0 + c ≡ c * suc j = omega arith in
      let end_begun = ap (begun_in p.f) end in
      let next = frames-more kind s u in
      ap (λ (n : ℕ). frames_before (run kind s n)) here ∙ omega arith
