-- The events of a tick among the events in order of ticks.
use Rattle.std.proofs.Common.{◌≡◌, ◌≤◌, ◌<◌, ◌&&◌, ◌||◌, ◌==◌, ℕ, zero, suc, ◌+◌, ◌-◌, Bool, true, false, if◌then◌else◌, nat_le, nat_lt, List, [], ◌∷◌, length, take, drop, get_or, set, Option, Some, None, is_some, inl, inr, refl, sym, ap, ap₂, ◌∙◌, subst, arith}
use Rattle.std.specs.Prelude.{count_by, fold, All, IsTrue}
use Rattle.std.specs.List.{list_any, slice_range}
use Rattle.std.specs.List.Sorted.{IsNonDecreasingBy}
use Rattle.std.proofs.Math.Seq.{take-add}
use Rattle.std.proofs.lemmas.Bool.{and_parts, cases_Bool, cases_lt, cond-false, cond-true, eqb-true, eqb-false, lt-ltb, le-ltb, lt-leb, le-leb, ne_eqb, eq-eqb}
use Rattle.std.proofs.lemmas.List.{get_or-set_other, get_or-set_same, get_or-take, length-set, get_or-drop, length-take, length-drop}
use Rattle.std.proofs.lemmas.List.Sums.{fold-append, fold_more, sum_by-cons}
use Rattle.link_params.specs.declared.fields.Params.{Params}
use Rattle.link_params.specs.declared.alarms.Device.{Device}
use Rattle.scenario.specs.declared.plan.What.{What}
use Rattle.scenario.specs.declared.plan.What.TheVariants.{Reset, Delay, Dead}
use Rattle.scenario.specs.declared.plan.Event.{Event}
use Rattle.link_params.specs.Links.{Link}
use Rattle.scenario.specs.declared.scenario_type.Scenario.{Scenario}
use Rattle.scenario.specs.Limits.{event_fits, what_fits}
use Rattle.scenario.specs.Plans.{Plan, plan_of, plan_with, source_in}
use Rattle.link_model.specs.kept.Before.{dead_before, delay_before}
use Rattle.link_model.specs.Carried.{dead_after, delay_after, delay_at, first_delay, is_dead}
use Rattle.link_model.specs.Edges.{is_reset, resets}
use Rattle.link_model.specs.kept.LaneRuns.{LaneRun}
use Rattle.link_run.proofs.PlanFacts.{plan-facts}
use Rattle.link_run.specs.kept.Happened.{AreAsBefore, as_of}
use Rattle.lane_threads.specs.declared.lane_pair.LanePair.{LanePair}
use Rattle.lane_threads.specs.kept.LaneRuns.{HasRunLane}
use Rattle.link_run.specs.kept.LaneRuns.{AreAt, HaveRunLanes, KeepRings, with_lane}
use Rattle.link_run.proofs.SameLanes.{keep-again, keep-none}

-- the ticks do not fall, and are at least a
abbrev pub Ascends : List Event → ℕ → Type 0
Ascends [] a = Unit {0}
Ascends (x ∷ xs) a = (a ≤ x.tick) × Ascends xs x.tick

ascends-from : (xs : List Event) (a : ℕ)
    → ((k : ℕ) (d : Event) → k < length xs → a ≤ (get_or xs k d).tick)
    → IsNonDecreasingBy (λ (e : Event). e.tick) xs → Ascends xs a
ascends-from [] a least up = tt
ascends-from (x ∷ xs) a least up = (
  least 0 x (omega arith),
  ascends-from xs x.tick (λ k d below. up 0 (suc k) d (omega arith) (omega arith))
      (λ i j d le below. up (suc i) (suc j) d (omega arith) (omega arith)),
)

pub ascending : (xs : List Event) → IsNonDecreasingBy (λ (e : Event). e.tick) xs → Ascends xs 0
ascending xs up = ascends-from xs 0 (λ k d below. omega arith) up

at-least : (xs : List Event) (a k : ℕ) (d : Event) → Ascends xs a → k < length xs
    → a ≤ (get_or xs k d).tick
at-least [] a k d h below = absurd (omega arith)
at-least (x ∷ xs) a zero d h below = h.0
at-least (x ∷ xs) a (suc k) d h below = let from = h.0 in
    let g = at-least xs x.tick k d h.1 (omega arith) in omega arith

-- ---- how many are of earlier ticks

abbrev pub passed : ℕ → List Event → ℕ
passed t xs = count_by (λ (e : Event). nat_lt e.tick t) xs

pub passed-yes : (x : Event) (xs : List Event) (t : ℕ) → x.tick < t
    → passed t (x ∷ xs) ≡ suc (passed t xs)
passed-yes x xs t low =
    sum_by-cons (λ (e : Event). if nat_lt e.tick t then 1 else 0) x xs
    ∙ ap (λ b. (if b then 1 else 0) + passed t xs) (lt-ltb x.tick t low) ∙ (omega arith)

pub passed-none : (xs : List Event) (a t : ℕ) → Ascends xs a → t ≤ a → passed t xs ≡ 0
passed-none [] a t h le = refl
passed-none (x ∷ xs) a t h le =
    let from = h.0 in
    let far : t ≤ x.tick = omega arith in
    let first = ap {B = ℕ} (λ b. if b then 1 else 0) (le-ltb x.tick t far) in
    let rest = passed-none xs x.tick t h.1 far in
    sum_by-cons (λ (e : Event). if nat_lt e.tick t then 1 else 0) x xs
    ∙ ap₂ {C = ℕ} (λ n m. n + m) first rest

pub before-passed : (xs : List Event) (a t k : ℕ) (d : Event) → Ascends xs a → k < passed t xs
    → (get_or xs k d).tick < t
before-passed [] a t k d h low = absurd (omega arith)
before-passed (x ∷ xs) a t zero d h low = elim (cases_lt x.tick t) [
  | inl early ↦ early
  | inr late ↦ let none = passed-none (x ∷ xs) x.tick t ((omega arith), h.1) late in
      absurd (omega arith)
]
before-passed (x ∷ xs) a t (suc k) d h low = elim (cases_lt x.tick t) [
  | inl early ↦ let more = passed-yes x xs t early in
      before-passed xs x.tick t k d h.1 (omega arith)
  | inr late ↦ let none = passed-none (x ∷ xs) x.tick t ((omega arith), h.1) late in
      absurd (omega arith)
]

pub from-passed : (xs : List Event) (a t k : ℕ) (d : Event) → Ascends xs a → passed t xs ≤ k
    → k < length xs → t ≤ (get_or xs k d).tick
from-passed [] a t k d h le below = absurd (omega arith)
from-passed (x ∷ xs) a t zero d h le below = elim (cases_lt x.tick t) [
  | inl early ↦ let more = passed-yes x xs t early in absurd (omega arith)
  | inr late ↦ late
]
from-passed (x ∷ xs) a t (suc k) d h le below = elim (cases_lt x.tick t) [
  | inl early ↦ let more = passed-yes x xs t early in from-passed xs x.tick t k d h.1 (omega arith)
      (omega arith)
  | inr late ↦ let far = at-least xs x.tick k d h.1 (omega arith) in omega arith
]

pub passed-le : (xs : List Event) (a t : ℕ) → Ascends xs a → passed t xs ≤ length xs
passed-le [] a t h = omega arith
passed-le (x ∷ xs) a t h = elim (cases_lt x.tick t) [
  | inl early ↦ let more = passed-yes x xs t early in
      let le = passed-le xs x.tick t h.1 in omega arith
  | inr late ↦ let none = passed-none (x ∷ xs) x.tick t ((omega arith), h.1) late in omega arith
]

pub passed-more : (xs : List Event) (a t : ℕ) → Ascends xs a → passed t xs ≤ passed (t + 1) xs
passed-more [] a t h = omega arith
passed-more (x ∷ xs) a t h = elim (cases_lt x.tick t) [
  | inl early ↦
      let more = passed-yes x xs t early in
      let next = passed-yes x xs (t + 1) (omega arith) in
      let le = passed-more xs x.tick t h.1 in
      omega arith
  | inr late ↦ let none = passed-none (x ∷ xs) x.tick t ((omega arith), h.1) late in omega arith
]

-- ---- the events of a tick

abbrev pub happens : ℕ → List Event → List Event
happens t xs = slice_range xs (passed t xs) (passed (t + 1) xs)

any-later : (xs : List Event) (a t : ℕ) (p : Event → Bool) → Ascends xs a → t < a
    → list_any (λ (e : Event). (e.tick == t) && p e) xs ≡ false
any-later [] a t p h late = refl
any-later (x ∷ xs) a t p h late =
    let from = h.0 in
    ap (λ b. (b && p x) || list_any (λ (e : Event). (e.tick == t) && p e) xs)
    (ne_eqb x.tick t (λ same. omega arith)) ∙ any-later xs x.tick t p h.1 (omega arith)

pub any-happens : (xs : List Event) (a t : ℕ) (p : Event → Bool) → Ascends xs a
    → list_any (λ (e : Event). (e.tick == t) && p e) xs ≡ list_any p (happens t xs)
any-happens [] a t p h = refl
any-happens (x ∷ xs) a t p h =
    let q : Event → Bool = λ (e : Event). (e.tick == t) && p e in
    let here : ℕ → ℕ → Bool = λ n m. list_any p (take (m - n) (drop n (x ∷ xs))) in
    let n = passed t xs in
    let m = passed (t + 1) xs in
    elim (cases_lt x.tick t) [
      | inl early ↦
          ap (λ b. (b && p x) || list_any q xs) (ne_eqb x.tick t (λ same. omega arith))
          ∙ any-happens xs x.tick t p h.1
          ∙ ap (λ k. list_any p (take k (drop n xs))) (let e : m - n ≡ suc m - suc n =
          omega arith in e)
          ∙ sym (ap₂ here (passed-yes x xs t early) (passed-yes x xs (t + 1) (omega arith)))
      | inr late ↦ elim (cases_lt t x.tick) [
        | inl later ↦
            any-later (x ∷ xs) x.tick t p ((omega arith), h.1) later
            ∙ sym (ap₂ here (passed-none (x ∷ xs) x.tick t ((omega arith), h.1) late)
            (passed-none (x ∷ xs) x.tick (t + 1) ((omega arith), h.1) (omega arith)))
        | inr upto ↦
            let same : x.tick ≡ t = omega arith in
            let rest : passed t xs ≡ 0 = passed-none xs x.tick t h.1 late in
            ap (λ b. (b && p x) || list_any q xs) (eq-eqb x.tick t same)
            ∙ ap (λ b. p x || b) (any-happens xs x.tick t p h.1
            ∙ ap (λ k. list_any p (take (m - k) (drop k xs))) rest
            ∙ ap (λ k. list_any p (take k xs)) (let e : m - 0 ≡ m = omega arith in e))
            ∙ ap (λ k. list_any p (take k (x ∷ xs))) (let e : suc m ≡ suc m - 0 = omega arith in e)
            ∙ sym (ap₂ here (passed-none (x ∷ xs) x.tick t ((omega arith), h.1) late)
            (passed-yes x xs (t + 1) (omega arith)))
      ]
    ]

-- ---- what events up to a tick did

fold-later : {A : Type 0} (xs : List Event) (a t : ℕ) (g : A → Event → A) (d : A) → Ascends xs a
    → t < a
    → fold (λ d (e : Event). if nat_le e.tick t then g d e else d) d xs ≡ d
fold-later [] a t g d h late = refl
fold-later {A} (x ∷ xs) a t g d h late =
    let from = h.0 in
    let f : A → Event → A = λ d (e : Event). if nat_le e.tick t then g d e else d in
    let far : t < x.tick = omega arith in
    ap (λ b. fold f (if b then g d x else d) xs) (lt-leb x.tick t far)
    ∙ fold-later xs x.tick t g d h.1 far

fold-passed : {A : Type 0} (xs : List Event) (a t : ℕ) (g : A → Event → A) (d : A) → Ascends xs a
    → fold (λ d (e : Event). if nat_le e.tick t then g d e else d) d xs
    ≡ fold g d (take (passed (t + 1) xs) xs)
fold-passed [] a t g d h = refl
fold-passed {A} (x ∷ xs) a t g d h =
    let f : A → Event → A = λ d (e : Event). if nat_le e.tick t then g d e else d in
    elim (cases_lt t x.tick) [
      | inl later ↦
          fold-later (x ∷ xs) x.tick t g d ((omega arith), h.1) later
          ∙ sym (ap (λ n. fold g d (take n (x ∷ xs)))
          (passed-none (x ∷ xs) x.tick (t + 1) ((omega arith), h.1) (omega arith)))
      | inr upto ↦
          ap (λ b. fold f (if b then g d x else d) xs) (le-leb x.tick t upto)
          ∙ fold-passed xs x.tick t g (g d x) h.1
          ∙ sym (ap (λ n. fold g d (take n (x ∷ xs))) (passed-yes x xs (t + 1) (omega arith)))
    ]

fold-happens : {A : Type 0} (xs : List Event) (a t : ℕ) (g : A → Event → A) (d : A) → Ascends xs a
    → fold g (fold g d (take (passed t xs) xs)) (happens t xs)
    ≡ fold (λ d (e : Event). if nat_le e.tick t then g d e else d) d xs
fold-happens xs a t g d h =
    let le = passed-more xs a t h in
    let n = passed t xs in
    let m = passed (t + 1) xs in
    let e : n + (m - n) ≡ m = omega arith in
    sym (fold-append g d (take n xs) (take (m - n) (drop n xs)))
    ∙ sym (ap (fold g d) (take-add n (m - n) xs))
    ∙ ap (λ k. fold g d (take k xs)) e ∙ sym (fold-passed xs a t g d h)

delay-before : (t : ℕ) (s : Plan) (lane : ℕ) → Ascends s.events 0
    → delay_before s lane t ≡ fold (λ d (e : Event). delay_after lane d e.what) (first_delay s)
    (take (passed t s.events) s.events)
unfolding delay_at
delay-before zero s lane h =
    sym (ap (λ n. fold (λ d (e : Event). delay_after lane d e.what) (first_delay s)
    (take n s.events)) (passed-none s.events 0 0 h (omega arith)))
delay-before (suc t) s lane h =
    let e : t + 1 ≡ suc t = omega arith in
    fold-passed s.events 0 t (λ d (e : Event). delay_after lane d e.what) (first_delay s) h
    ∙ ap (λ n. fold (λ d (e : Event). delay_after lane d e.what) (first_delay s)
    (take (passed n s.events) s.events)) e

dead-before : (t : ℕ) (s : Plan) (lane : ℕ) → Ascends s.events 0
    → dead_before s lane t ≡ fold (λ d (e : Event). dead_after lane d e.what) false
    (take (passed t s.events) s.events)
unfolding is_dead
dead-before zero s lane h =
    sym (ap (λ n. fold (λ d (e : Event). dead_after lane d e.what) false (take n s.events))
    (passed-none s.events 0 0 h (omega arith)))
dead-before (suc t) s lane h =
    let e : t + 1 ≡ suc t = omega arith in
    fold-passed s.events 0 t (λ d (e : Event). dead_after lane d e.what) false h
    ∙ ap (λ n. fold (λ d (e : Event). dead_after lane d e.what) false
    (take (passed n s.events) s.events)) e

pub delay-now : (s : Plan) (lane t d : ℕ) → Ascends s.events 0 → d ≡ delay_before s lane t
    → fold (λ d (e : Event). delay_after lane d e.what) d (happens t s.events) ≡ delay_at s lane t
unfolding delay_at
delay-now s lane t d h is =
    ap (λ x. fold (λ d (e : Event). delay_after lane d e.what) x (happens t s.events))
    (is ∙ delay-before t s lane h)
    ∙ fold-happens s.events 0 t (λ d (e : Event). delay_after lane d e.what) (first_delay s) h

pub dead-now : (s : Plan) (lane t : ℕ) (d : Bool) → Ascends s.events 0 → d ≡ dead_before s lane t
    → fold (λ d (e : Event). dead_after lane d e.what) d (happens t s.events) ≡ is_dead s lane t
unfolding is_dead
dead-now s lane t d h is =
    ap (λ x. fold (λ d (e : Event). dead_after lane d e.what) x (happens t s.events))
    (is ∙ dead-before t s lane h)
    ∙ fold-happens s.events 0 t (λ d (e : Event). dead_after lane d e.what) false h

-- ---- what events do to the lanes

abbrev pub after : List Event → ℕ → LaneRun → LaneRun
after es lane x = record x {
  delay = fold (λ d (e : Event). delay_after lane d e.what) x.delay es;
  dead = fold (λ d (e : Event). dead_after lane d e.what) x.dead es;
}

pub have-each : (lanes : List LanePair) (s : Plan) (f g : ℕ → LaneRun) → ((lane : ℕ) → f lane ≡ g lane)
    → HaveRunLanes lanes s f → HaveRunLanes lanes s g
have-each lanes s f g same run = (
  run.0,
  λ lane d below. subst (HasRunLane (get_or lanes lane d).lane s lane) (same lane)
      (run.1 lane d below),
)

pub after-happens : (lanes : List LanePair) (s : Plan) (t : ℕ) (runs : ℕ → LaneRun) → Ascends s.events 0
    → AreAsBefore s t runs
    → HaveRunLanes lanes s (λ lane. after (happens t s.events) lane (runs lane))
    → HaveRunLanes lanes s (λ lane. as_of s t lane (runs lane))
after-happens lanes s t runs h before run =
    have-each lanes s (λ lane. after (happens t s.events) lane (runs lane))
    (λ lane. as_of s t lane (runs lane))
    (λ lane. ap₂ {C = LaneRun} (λ d b. record (runs lane) { delay = d; dead = b })
    (delay-now s lane t (runs lane).delay h (before lane).0)
    (dead-now s lane t (runs lane).dead h (before lane).1)) run

-- ---- one lane

-- one of the lanes went on, the others stand as they were
pub have-one : (lanes : List LanePair) (s : Plan) (runs : ℕ → LaneRun) (lane : ℕ) (y : LanePair)
    (x : LaneRun) → lane < length lanes → HasRunLane y.lane s lane x → HaveRunLanes lanes s runs
    → HaveRunLanes (set lanes lane y) s (with_lane runs lane x)
have-one lanes s runs lane y x inside one run = (
  length-set lanes lane y ∙ run.0,
  λ k d below. elim (cases_Bool (k == lane)) [
    | inl here ↦
        let is = eqb-true k lane here in
        subst (HasRunLane (get_or (set lanes lane y) k d).lane s k)
        (sym (cond-true (k == lane) x (runs k) here))
        (subst (λ j. HasRunLane (get_or (set lanes lane y) j d).lane s j x) (sym is)
        (subst (λ (z : LanePair). HasRunLane z.lane s lane x)
        (sym (get_or-set_same lanes lane y d inside)) one))
    | inr other ↦
        subst (HasRunLane (get_or (set lanes lane y) k d).lane s k)
        (sym (cond-false (k == lane) x (runs k) other))
        (subst (λ (z : LanePair). HasRunLane z.lane s k (runs k))
        (sym (get_or-set_other lanes lane k y d (λ e. eqb-false k lane other e)))
        (run.1 k d below))
  ],
)

-- ---- one event

abbrev pub one : What → ℕ → LaneRun → LaneRun
one what lane x =
    record x { delay = delay_after lane x.delay what; dead = dead_after lane x.dead what }

pub reset-passes : (lanes : List LanePair) (s : Plan) (runs : ℕ → LaneRun) (device : Device)
    (what : What) → what ≡ Reset device → HaveRunLanes lanes s runs
    → HaveRunLanes lanes s (λ lane. one what lane (runs lane))
reset-passes lanes s runs device what is run =
    subst (λ w. HaveRunLanes lanes s (λ lane. one w lane (runs lane))) (sym is) run

pick : (b : Bool) (x y z : LaneRun) → (b ≡ true → x ≡ y)
    → (if b then x else z) ≡ (if b then y else z)
pick true x y z same = same refl
pick false x y z same = refl

turned : (a b : ℕ) → (a == b) ≡ (b == a)
turned a b = elim (cases_Bool (a == b)) [
  | inl t ↦ t ∙ sym (eq-eqb b a (sym (eqb-true a b t)))
  | inr f ↦ f ∙ sym (ne_eqb b a (λ same. eqb-false a b f (sym same)))
]

delayed-one : (here : Bool) (x : LaneRun) (bits : ℕ)
    → (if here then record x { delay = bits } else x)
    ≡ record x { delay = if here then bits else x.delay }
delayed-one true x bits = refl
delayed-one false x bits = refl

dead-one : (here on : Bool) (x : LaneRun)
    → (if here then record x { dead = on } else x) ≡ record x { dead = if here then on else x.dead }
dead-one true on x = refl
dead-one false on x = refl

pub delayed : (lanes : List LanePair) (s : Plan) (runs : ℕ → LaneRun) (lane bits : ℕ) (what : What)
    → what ≡ Delay lane bits
    → HaveRunLanes lanes s (with_lane runs lane (record (runs lane) { delay = bits }))
    → HaveRunLanes lanes s (λ k. one what k (runs k))
delayed lanes s runs lane bits what is run =
    subst (λ w. HaveRunLanes lanes s (λ k. one w k (runs k))) (sym is)
    (have-each lanes s (with_lane runs lane (record (runs lane) { delay = bits }))
    (λ k. one (Delay lane bits) k (runs k))
    (λ k. pick (k == lane) (record (runs lane) { delay = bits }) (record (runs k) { delay = bits })
    (runs k)
    (λ t. ap (λ l. record (runs l) { delay = bits }) (sym (eqb-true k lane t)))
    ∙ delayed-one (k == lane) (runs k) bits
    ∙ ap (λ b. record (runs k) { delay = if b then bits else (runs k).delay }) (turned k lane)) run)

pub died : (lanes : List LanePair) (s : Plan) (runs : ℕ → LaneRun) (lane : ℕ) (on : Bool) (what : What)
    → what ≡ Dead lane on
    → HaveRunLanes lanes s (with_lane runs lane (record (runs lane) { dead = on }))
    → HaveRunLanes lanes s (λ k. one what k (runs k))
died lanes s runs lane on what is run =
    subst (λ w. HaveRunLanes lanes s (λ k. one w k (runs k))) (sym is)
    (have-each lanes s (with_lane runs lane (record (runs lane) { dead = on }))
    (λ k. one (Dead lane on) k (runs k))
    (λ k. pick (k == lane) (record (runs lane) { dead = on }) (record (runs k) { dead = on })
    (runs k)
    (λ t. ap (λ l. record (runs l) { dead = on }) (sym (eqb-true k lane t)))
    ∙ dead-one (k == lane) on (runs k)
    ∙ ap (λ b. record (runs k) { dead = if b then on else (runs k).dead }) (turned k lane)) run)

-- ---- several

-- these events were done to the lanes
pub record HasApplied (old new : List LanePair) (es : List Event) : Type 0 where
  pub goes_on : (s : Plan) (runs : ℕ → LaneRun) → HaveRunLanes old s runs
      → HaveRunLanes new s (λ lane. after es lane (runs lane))
  pub at : (p : Params) (next : Option ℕ) → AreAt old p next → AreAt new p next
  pub rings : KeepRings old new
  pub count : length new ≡ length old

pub applied-none : (lanes : List LanePair) → HasApplied lanes lanes []
applied-none lanes = record {
  goes_on = λ s runs run. run;
  at = λ p next are. are;
  rings = keep-none lanes;
  count = refl;
}

pub applied-more : (old mid new : List LanePair) (xs : List Event) (i : ℕ) (d : Event) → i < length xs
    → ((s : Plan) (runs : ℕ → LaneRun) → HaveRunLanes mid s runs
    → HaveRunLanes new s (λ lane. one (get_or xs i d).what lane (runs lane)))
    → ((p : Params) (next : Option ℕ) → AreAt mid p next → AreAt new p next)
    → KeepRings mid new → length new ≡ length mid
    → HasApplied old mid (take i xs) → HasApplied old new (take (i + 1) xs)
applied-more old mid new xs i d below step at rings count h = record {
  goes_on = λ s runs run.
      have-each new s (λ lane. one (get_or xs i d).what lane (after (take i xs) lane (runs lane)))
      (λ lane. after (take (i + 1) xs) lane (runs lane))
      (λ lane. ap₂ {C = LaneRun} (λ x b. record (runs lane) { delay = x; dead = b })
      (sym (fold_more (λ x (e : Event). delay_after lane x e.what) (runs lane).delay xs i d below))
      (sym (fold_more (λ x (e : Event). dead_after lane x e.what) (runs lane).dead xs i d below)))
      (step s (λ lane. after (take i xs) lane (runs lane)) (h.goes_on s runs run));
  at = λ p next are. at p next (h.at p next are);
  rings = keep-again old mid new h.rings rings;
  count = count ∙ h.count;
}

-- ---- a run has a plan

pub have-plan : (link : Option Link) (s : Scenario) → is_some link ≡ true
    → (plan : Plan) × (plan_with link s ≡ Some plan)
have-plan None s some = absurd (cc)
have-plan (Some k) s some = (
  record {
    version = s.version;
    link = k;
    ticks = s.ticks;
    print = s.print;
    source = source_in s.input;
    events = s.events.items;
    jitters = s.jitters.items;
    flips = s.flips.items;
    wire = s.wire.items;
    route = s.route.items;
    inverted = s.inverted.items;
  },
  refl,
)

-- events that fit a scenario fit its plan
pub fit-plan : (xs : List Event) (p q : Params) (ticks n m : ℕ) → q ≡ p
    → All (λ e. IsTrue (event_fits p ticks e)) xs
    → All (λ (e : Event). IsTrue (what_fits q e.what)) (take m (drop n xs))
fit-plan xs p q ticks n m same fit k d below =
    let short = length-take m (drop n xs) in
    let rest = length-drop n xs in
    let at : get_or (take m (drop n xs)) k d ≡ get_or xs (n + k) d =
    get_or-take m (drop n xs) k d (omega arith) ∙ get_or-drop n xs k d in
    let e = get_or xs (n + k) d in
    let parts = and_parts (nat_lt e.tick ticks) (what_fits p e.what)
    (fit (n + k) d (omega arith)) in
    ap₂ (λ r (y : Event). what_fits r y.what) same at ∙ parts.1

-- ---- the events of a tick in a scenario

pub part-is : (now events : List Event) (t n m : ℕ) → now ≡ events → n ≡ passed t events
    → m ≡ passed (t + 1) now → take (m - n) (drop n now) ≡ happens t events
part-is now events t n m same from end =
    ap₂ (λ k (xs : List Event). take (m - k) (drop k xs)) from same
    ∙ ap (λ k. take (k - passed t events) (drop (passed t events) events))
    (end ∙ ap (passed (t + 1)) same)

pub plan-ascends : (s : Scenario) (plan : Plan) → plan_of s ≡ Some plan → Ascends plan.events 0
plan-ascends s plan is =
    let f = plan-facts s plan is in
    ascending plan.events (rw f.events s.events_ordered)

pub reset-is : (s : Plan) (device : Device) (t : ℕ) → Ascends s.events 0
    → list_any (λ (e : Event). resets device e.what) (happens t s.events) ≡ is_reset s device t
unfolding is_reset
reset-is s device t up = sym (any-happens s.events 0 t (λ (e : Event). resets device e.what) up)
