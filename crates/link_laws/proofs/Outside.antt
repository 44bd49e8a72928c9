-- A lane outside its window raises an alarm at the first decision that finds a start, and nothing
-- is released.
use Rattle.std.proofs.Common.{◌≡◌, ℕ, zero, suc, ◌+◌, ◌-◌, ◌<◌, ◌≤◌, ◌⊎◌, ◌&&◌, not, if◌then◌else◌, Bool, true, false, List, [], ◌∷◌, ◌++◌, All, length, get_or, drop, Option, Some, None, is_some, inl, inr, refl, sym, subst, ap, ap₂, ◌∙◌, append-nil, add-one, add-zero, arith}
use Rattle.std.specs.List.{flat_map}
use Rattle.std.proofs.lemmas.Bool.{cases_Bool, cond-true, cond-false, le-leb, or_parts}
use Rattle.std.proofs.lemmas.List.{drop-append-le, drop_all}
use Rattle.std.proofs.lemmas.List.Elements.{All-append, All-cons, All-nil}
use Rattle.std.proofs.lemmas.List.Concat.{flat_map-append}
use Rattle.link_params.specs.declared.alarms.Alarm.{Alarm}
use Rattle.link_params.specs.declared.alarms.Alarm.TheVariants.{LaneWindow, LaneMissing}
use Rattle.link_params.specs.declared.alarms.Device.TheVariants.{Rx}
use Rattle.link_params.specs.declared.fields.Timing.{Timing}
use Rattle.link_params.specs.declared.lane_report.LaneReport.{LaneReport}
use Rattle.link_params.specs.Laws.{is_b}
use Rattle.link_params.specs.Lanes.{LaneKind, is_inside}
use Rattle.bring_up.specs.declared.stage.Stage.{Stage}
use Rattle.bring_up.specs.declared.stage.Stage.TheVariants as stage
use Rattle.bring_up.specs.declared.stage.Decision.TheVariants as decision
use Rattle.bring_up.specs.Decisions.{Decided, alarms_from, calm_in_wait, decide, first_class, hunt_on, is_hunting, is_running, lane_missing, lane_window, missing, outside_or_missing, some_started, window_alarm}
use Rattle.scenario.specs.Plans.{Plan}
use Rattle.link_model.specs.Moments.{Delivered, History, Moment}
use Rattle.link_model.specs.Hunts.{is_hunt}
use Rattle.link_model.specs.Run.{moment, run}
use Rattle.link_model.proofs.DecisionCases.{no_report}
use Rattle.link_model.specs.Sessions.{InSession, at, first_tick, is_armed, report_at}
use Rattle.link_laws.specs.Premises.{IsWithin, Lone, Met, Pattern, Undamaged, arrival}
use Rattle.link_laws.specs.LaneLaws.{ComesAfter, LaneLaws, due_after}
use Rattle.link_laws.specs.Laws.{IsFirstStarted, IsOutsideAlarm, IsPlanRead, RaisesOutside, OutsideFromLanes}
use Rattle.link_laws.proofs.RunTicks.{armed-at, stands}
use Rattle.link_model.proofs.RunTicks.{length-run, run-suc}
use Rattle.link_laws.proofs.PlanRead.{HasNumbers, arrival-same, has-edges, numbers}
use Rattle.link_laws.proofs.Phases.{phases-apart}
use Rattle.link_laws.proofs.Stages.{before, before-suc, decided-whole, decision_at, hunts-stage, phase-decides, released-in}
use Rattle.link_laws.proofs.SessionStages.{Goes, first-high, first-low, runs-on, runs-since}
use Rattle.link_laws.proofs.ReleaseTick.{arming, goes, inside-parts, length-reports, offset-shown, releases-late, starts-by, starts-lane, untouched}
use Rattle.link_laws.proofs.NoHunt.{IsCalm, calm-class}

cases-stage : (k : Stage) → (k ≡ stage.Hunt) ⊎ ((k ≡ stage.Wait) ⊎ (k ≡ stage.Run))
cases-stage stage.Hunt = inl refl
cases-stage stage.Wait = inr (inl refl)
cases-stage stage.Run = inr (inr refl)

-- ---- lists of reports and alarms

cases-some : (o : Option ℕ) → ((x : ℕ) × (o ≡ Some x)) ⊎ (o ≡ None)
cases-some (Some x) = inl (x, refl)
cases-some None = inr refl

cases-alarms : (xs : List Alarm) → ((a : Alarm) × (rest : List Alarm) × (xs ≡ a ∷ rest)) ⊎ (xs ≡ [])
cases-alarms [] = inr refl
cases-alarms (a ∷ rest) = inl (a, rest, refl)

is-inside-of : (t : Timing) (o : ℕ) → t.w_lo ≤ o → o ≤ t.w_hi → is_inside t o ≡ true
is-inside-of t o low high = ap₂ (λ (a b : Bool). a && b) (le-leb t.w_lo o low)
    (le-leb o t.w_hi high)

-- a lane that started
record Started (rs : List LaneReport) : Type 0 where
  lane : ℕ
  below : lane < length rs
  offset : ℕ
  is : (get_or rs lane no_report).started ≡ Some offset

some-started : (rs : List LaneReport) → some_started rs ≡ true → Started rs
some-started [] e = let bad : false ≡ true = e in absurd (cc)
some-started (r ∷ rs) e = elim (cases-some r.started) [
  | inl k ↦ record { lane = 0; below = omega arith; offset = k.0; is = k.1 }
  | inr none ↦
      let rest : some_started (r ∷ rs) ≡ some_started rs = rw none refl in
      let k = some-started rs (sym rest ∙ e) in
      let low = k.below in
      record { lane = suc k.lane; below = omega arith; offset = k.offset; is = k.is }
]

is-none : (o : Option ℕ) → is_some o ≡ false → o ≡ None
is-none None e = refl
is-none (Some x) e = let bad : true ≡ false = e in absurd (cc)

none-started : (rs : List LaneReport) (i : ℕ) → some_started rs ≡ false → i < length rs
    → (get_or rs i no_report).started ≡ None
none-started [] i e below = absurd (omega arith)
none-started (r ∷ rs) zero e below =
    is-none r.started (or_parts (is_some r.started) (some_started rs) e).0
none-started (r ∷ rs) (suc i) e below =
    none-started rs i (or_parts (is_some r.started) (some_started rs) e).1 (omega arith)

-- each alarm of a class has what each lane's have
all-alarms : (rs : List LaneReport) (lane : ℕ) (alarm : ℕ → LaneReport → List Alarm) (P : Alarm
    → Type 0)
    → ((i : ℕ) → i < length rs → All P (alarm (lane + i) (get_or rs i no_report)))
    → All P (alarms_from lane alarm rs)
unfolding alarms_from
all-alarms [] lane alarm P each = All-nil P
all-alarms (r ∷ rs) lane alarm P each =
    All-append P (alarm lane r) (alarms_from (suc lane) alarm rs)
    (subst (λ (k : ℕ). All P (alarm k r)) (add-zero lane) (each 0 (omega arith)))
    (all-alarms rs (suc lane) alarm P (λ i below. let e : lane + suc i ≡ suc lane + i =
    omega arith in subst (λ (k : ℕ). All P (alarm k (get_or rs i no_report))) e
    (each (suc i) (omega arith))))

both-empty : (xs ys : List Alarm) → xs ++ ys ≡ [] → (xs ≡ []) × (ys ≡ [])
both-empty [] ys e = (refl, e)
both-empty (a ∷ xs) ys e = let bad : a ∷ (xs ++ ys) ≡ [] = e in absurd (cc)

alarms-at : (rs : List LaneReport) (lane i : ℕ) (alarm : ℕ → LaneReport → List Alarm)
    → alarms_from lane alarm rs ≡ [] → i < length rs
    → alarm (lane + i) (get_or rs i no_report) ≡ []
unfolding alarms_from
alarms-at [] lane i alarm e below = absurd (omega arith)
alarms-at (r ∷ rs) lane zero alarm e below = ap (λ k. alarm k r) (add-zero lane)
    ∙ (both-empty (alarm lane r) (alarms_from (suc lane) alarm rs) e).0
alarms-at (r ∷ rs) lane (suc i) alarm e below =
    let same : lane + suc i ≡ suc lane + i = omega arith in
    ap (λ k. alarm k (get_or rs i no_report)) same
    ∙ alarms-at rs (suc lane) i alarm
    (both-empty (alarm lane r) (alarms_from (suc lane) alarm rs) e).1 (omega arith)

-- the same, from lane 0 on
all-lanes : (rs : List LaneReport) (alarm : ℕ → LaneReport → List Alarm) (P : Alarm → Type 0)
    → ((i : ℕ) → i < length rs → All P (alarm i (get_or rs i no_report)))
    → All P (alarms_from 0 alarm rs)
all-lanes rs alarm P each = all-alarms rs 0 alarm P (λ i below. let e : i ≡ 0 + i = omega arith in
    subst (λ (k : ℕ). All P (alarm k (get_or rs i no_report))) e (each i below))

lane-at : (rs : List LaneReport) (i : ℕ) (alarm : ℕ → LaneReport → List Alarm)
    → alarms_from 0 alarm rs ≡ [] → i < length rs → alarm i (get_or rs i no_report) ≡ []
lane-at rs i alarm e below = let same : i ≡ 0 + i = omega arith in
    ap (λ (k : ℕ). alarm k (get_or rs i no_report)) same ∙ alarms-at rs 0 i alarm e below

module _ (kind : LaneKind) (pattern : Pattern) (s : Plan) (read : IsPlanRead s)
    (laws : LaneLaws kind pattern s) (h D : ℕ)
    (session : InSession kind s h D) (begun : IsFirstStarted kind s h D) (met : Met s D)
    (lone : Lone kind pattern s h D) (whole : Undamaged s h D) where
  g : Goes kind s h D
  g = goes kind s h D session whole

  n : HasNumbers s.link.params s.link.timing
  n = numbers s read

  low : first_tick kind s h ≤ D
  low = let f = first-high kind s h D g in let a = session.above in omega arith

  at_end : D ≤ D
  at_end = omega arith

  long : (u : ℕ) → length (at kind s u).reports ≡ s.link.params.l
  long u = length-reports kind s u

  one : Started (at kind s D).reports
  one = some-started (at kind s D).reports begun.started

  one-below : one.lane < s.link.params.l
  one-below = let b = one.below in let l = long D in omega arith

  -- the receiver waits
  waiting : before kind s D ≡ stage.Wait
  waiting = elim (cases-stage (before kind s D)) [
    | inl k ↦
        let unarmed : is_armed kind s D ≡ false = armed-at kind s D
        ∙ ap (λ (q : Stage). not (is_hunting q)) k in
        let none = (laws.start h one.lane D one-below session lone whole).unarmed unarmed in
        let is = one.is in
        absurd (cc)
    | inr more ↦ elim more [
      | inl k ↦ k
      | inr k ↦
          let r = runs-since kind s h D g D low (omega arith) k in
          let released = released-in kind s r.tick r.releases in
          let no = begun.first r.tick r.from r.below released.decides in
          let l = long r.tick in
          let below = one-below in
          let own = released.lanes one.lane (omega arith) in
          let none = none-started (at kind s r.tick).reports one.lane no (omega arith) in
          let is = own.is in
          absurd (cc)
    ]
  ]

  idle : (u lane : ℕ) → first_tick kind s h ≤ u → u < D → before kind s u ≡ stage.Wait
      → before kind s (suc u) ≡ stage.Wait → (at kind s u).decides ≡ true
      → lane < s.link.params.l → (report_at kind s lane u).started ≡ None
  idle u lane from below waits later decides inside =
      let l = long u in
      none-started (at kind s u).reports lane (begun.first u from below decides) (omega arith)

  same-arrival : (lane : ℕ) → arrival s lane D ≡ arrival s lane h
  same-arrival lane = let a = session.above in arrival-same s lane h D (omega arith)
      (λ x up down. (untouched s h D whole).no_event x up down)

  -- the offset that a report shows is the arrival
  shown : (lane o : ℕ) → lane < s.link.params.l → (report_at kind s lane D).started ≡ Some o
      → o ≡ arrival s lane D
  shown lane o below is =
      let x = starts-lane kind pattern s read laws.start h D D session met lone whole low at_end
      waiting begun.decides idle lane o below is in
      offset-shown kind pattern s read laws.start h D D session met lone whole low at_end waiting
      begun.decides idle lane o x is ∙ sym (same-arrival lane)

  -- where a lane started inside, each lane that is inside has started
  all-inside : (first_lane lane o : ℕ) → first_lane < s.link.params.l → lane < s.link.params.l
      → (report_at kind s first_lane D).started ≡ Some o → IsWithin s first_lane D
      → IsWithin s lane D → (x : ℕ) × ((report_at kind s lane D).started ≡ Some x)
  all-inside first_lane lane o below_first below is within_first within =
      let p = s.link.params in
      let armed = arming kind pattern s read laws.start h D D session met lone whole low at_end
      waiting begun.decides idle in
      let armed_below = armed.below in
      let x = starts-lane kind pattern s read laws.start h D D session met lone whole low at_end
      waiting begun.decides idle first_lane o below_first is in
      let same_first = same-arrival first_lane in
      let same = same-arrival lane in
      let low_first = within_first.0 in
      let high_first = within_first.1 in
      let late = releases-late kind pattern s read laws.start h D D session met lone whole low
      at_end waiting begun.decides idle first_lane below_first (omega arith) (omega arith) x in
      let low_lane = within.0 in
      let high_lane = within.1 in
      let far = n.late in
      let near = n.near in
      let f = first-low kind s h D g in
      let armed_from = armed.from in
      let apart = phases-apart s Rx armed.tick D s.link.timing.rbd (has-edges s read) armed_below
      (λ i a b. g.quiet i (omega arith) b) (phase-decides kind s armed.tick armed.decides)
      (phase-decides kind s D begun.decides) in
      let comes : ComesAfter s lane h armed.tick x.sent = elim (cases_Bool (is_b p.mode)) [
        | inl b ↦
            let own = x.is.comes in
            let none_first : (if is_b p.mode then 0 else due_after s first_lane h) ≡ 0 =
            cond-true (is_b p.mode) 0 (due_after s first_lane h) b in
            let none : (if is_b p.mode then 0 else due_after s lane h) ≡ 0 =
            cond-true (is_b p.mode) 0 (due_after s lane h) b in
            omega arith
        | inr c ↦
            let all : (if is_b p.mode then 0 else due_after s lane h) ≡ due_after s lane h =
            cond-false (is_b p.mode) 0 (due_after s lane h) c in
            omega arith
      ] in
      starts-by kind pattern s read laws.start h D D session met lone whole low at_end waiting
      begun.decides idle lane x.sent below comes x.is.sent (omega arith)

  -- ---- the alarms

  calm : (lane : ℕ) → lane < s.link.params.l → IsCalm (report_at kind s lane D)
  calm lane below =
      let armed : is_armed kind s D ≡ true = armed-at kind s D
      ∙ ap (λ (q : Stage). not (is_hunting q)) waiting in
      let law = laws.carried h lane D below session lone whole armed in
      record { kept = law.kept; no_fault = law.no_fault }

  abbrev windows : List Alarm
  windows = alarms_from 0 (lane_window s.link.timing) (at kind s D).reports

  abbrev lost_ones : List Alarm
  lost_ones = alarms_from 0 lane_missing (at kind s D).reports

  decided-is : (at kind s D).decided
      ≡ hunt_on (outside_or_missing s.link.timing (at kind s D).reports)
      (calm_in_wait (stands kind s D).since (at kind s D).reports)
  unfolding decide
  decided-is =
      let l = long D in
      let quiet = calm-class s.link.params (at kind s D).reports
      (λ lane below. calm lane (omega arith)) in
      decided-whole kind s D stage.Wait begun.decides waiting
      ∙ ap (λ (xs : List Alarm). hunt_on
      (first_class xs (outside_or_missing s.link.timing (at kind s D).reports))
      (calm_in_wait (stands kind s D).since (at kind s D).reports)) quiet

  -- a window alarm is that of a lane outside
  window-outside : (lane : ℕ) (o : Option ℕ) → lane < s.link.params.l
      → (report_at kind s lane D).started ≡ o
      → All (IsOutsideAlarm s D) (window_alarm s.link.timing lane o)
  window-outside lane None below is = All-nil (IsOutsideAlarm s D)
  window-outside lane (Some o) below is = elim (cases_Bool (is_inside s.link.timing o)) [
    | inl inside ↦ let none : window_alarm s.link.timing lane (Some o) ≡ [] = rw inside refl in
        subst (All (IsOutsideAlarm s D)) (sym none) (All-nil (IsOutsideAlarm s D))
    | inr apart ↦
        let one_alarm : window_alarm s.link.timing lane (Some o) ≡ LaneWindow lane o ∷ [] =
        rw apart refl in
        let same = shown lane o below is in
        let far : IsOutsideAlarm s D (LaneWindow lane o) = (
          below,
          λ within.
              let inside : is_inside s.link.timing o ≡ true =
              is-inside-of s.link.timing o (rw same within.0) (rw same within.1) in absurd (cc),
        ) in
        subst (All (IsOutsideAlarm s D)) (sym one_alarm)
        (All-cons (IsOutsideAlarm s D) (LaneWindow lane o) [] far
        (All-nil (IsOutsideAlarm s D)))
  ]

  windows-outside : All (IsOutsideAlarm s D) windows
  windows-outside = all-lanes (at kind s D).reports (lane_window s.link.timing) (IsOutsideAlarm s D)
      (λ lane below.
      let l = long D in window-outside lane (report_at kind s lane D).started (omega arith) refl)

  -- where no lane started outside, a started lane is within its window
  started-within : windows ≡ [] → (lane o : ℕ) → lane < s.link.params.l
      → (report_at kind s lane D).started ≡ Some o → IsWithin s lane D
  started-within none lane o below is =
      let l = long D in
      let own : window_alarm s.link.timing lane (Some o) ≡ [] = ap (window_alarm s.link.timing lane)
      (sym is) ∙ lane-at (at kind s D).reports lane (lane_window s.link.timing) none
      (omega arith) in
      let same = shown lane o below is in
      elim (cases_Bool (is_inside s.link.timing o)) [
        | inl inside ↦ let parts = inside-parts s.link.timing o inside in rw (← same) parts
        | inr apart ↦ let bad : LaneWindow lane o ∷ [] ≡ [] = sym (rw apart refl) ∙ own in
            absurd (cc)
      ]

  missing-outside : windows ≡ [] → All (IsOutsideAlarm s D) lost_ones
  missing-outside none = all-lanes (at kind s D).reports lane_missing (IsOutsideAlarm s D)
      (λ lane below.
      let l = long D in
      let inside : lane < s.link.params.l = omega arith in
      elim (cases-some (report_at kind s lane D).started) [
        | inl k ↦ let nothing : lane_missing lane (report_at kind s lane D) ≡ [] = rw (k.1) refl in
            subst (All (IsOutsideAlarm s D)) (sym nothing) (All-nil (IsOutsideAlarm s D))
        | inr unstarted ↦
            let one_alarm : lane_missing lane (report_at kind s lane D) ≡ LaneMissing lane ∷ [] =
            rw unstarted refl in
            let far : IsOutsideAlarm s D (LaneMissing lane) = (
              inside,
              λ within.
                  let k = all-inside one.lane lane one.offset one-below inside one.is
                  (started-within none one.lane one.offset one-below one.is) within in
                  let is = k.1 in absurd (cc),
            ) in
            subst (All (IsOutsideAlarm s D)) (sym one_alarm)
            (All-cons (IsOutsideAlarm s D) (LaneMissing lane) [] far
            (All-nil (IsOutsideAlarm s D)))
      ])

  -- no tick of the session has run
  still : (u : ℕ) → first_tick kind s h ≤ u → u < D → is_running (at kind s u).stage ≡ false
  still u from below = elim (cases-stage (at kind s u).stage) [
    | inl k ↦ ap is_running k
    | inr more ↦ elim more [
      | inl k ↦ ap is_running k
      | inr k ↦
          let l = first-low kind s h D g in
          let on : before kind s (suc u) ≡ stage.Run =
          before-suc kind s u (g.quiet (suc u) (omega arith) (omega arith)) ∙ k in
          let r = runs-since kind s h D g (suc u) (omega arith) below on in
          let now : before kind s D ≡ stage.Run =
          (let b = r.below in runs-on kind s h D g r.tick D r.from r.releases
          (omega arith) at_end) in
          let waits = waiting in
          absurd (cc)
    ]
  ]

  delivers-none : (u : ℕ) → is_running (at kind s u).stage ≡ false → (at kind s u).delivered ≡ []
  unfolding moment
  delivers-none u off = rw off refl

  none-before : (k : ℕ) → first_tick kind s h + k ≤ D
      → flat_map (λ (m : Moment). m.delivered)
      (drop (first_tick kind s h) (run kind s (first_tick kind s h + k))) ≡ []
  none-before zero end =
      let f : ℕ = first_tick kind s h in
      let same : f + 0 ≡ f = omega arith in
      let l = length-run kind s f in
      ap (λ (n : ℕ). flat_map (λ (m : Moment). m.delivered) (drop f (run kind s n))) same
      ∙ ap (flat_map (λ (m : Moment). m.delivered)) (drop_all f (run kind s f) (omega arith))
  none-before (suc k) end =
      let f : ℕ = first_tick kind s h in
      let u : ℕ = f + k in
      let of : Moment → List Delivered = λ m. m.delivered in
      let same : f + suc k ≡ suc u = omega arith in
      let l = length-run kind s u in
      ap (λ (n : ℕ). flat_map of (drop f (run kind s n))) same
      ∙ ap (λ (x : History). flat_map of (drop f x)) (run-suc kind s u)
      ∙ ap (flat_map of) (drop-append-le f (run kind s u) (at kind s u ∷ []) (omega arith))
      ∙ flat_map-append of (drop f (run kind s u)) (at kind s u ∷ [])
      ∙ ap₂ (λ (a b : List Delivered). a ++ b) (none-before k (omega arith))
      (append-nil (at kind s u).delivered ∙ delivers-none u (still u (omega arith) (omega arith)))

  -- with an alarm a hunt begins, and nothing was delivered
  refuses : (a : Alarm) (rest : List Alarm) → outside_or_missing s.link.timing (at kind s D).reports
      ≡ a ∷ rest
      → All (IsOutsideAlarm s D) (outside_or_missing s.link.timing (at kind s D).reports)
      → RaisesOutside kind s h D
  refuses a rest is each =
      let f : ℕ = first_tick kind s h in
      let of : Moment → List Delivered = λ m. m.delivered in
      let all : (at kind s D).decided ≡ hunt_on (a ∷ rest)
      (calm_in_wait (stands kind s D).since (at kind s D).reports) =
      decided-is
      ∙ ap (λ (xs : List Alarm). hunt_on xs
      (calm_in_wait (stands kind s D).since (at kind s D).reports)) is in
      let alarms : (at kind s D).decided.alarms ≡ a ∷ rest = ap (λ (d : Decided). d.alarms) all in
      let hunts : decision_at kind s D ≡ decision.Hunt = ap (λ (d : Decided). d.decision) all in
      let off : is_running (at kind s D).stage ≡ false =
      ap is_running (hunts-stage kind s D hunts) in
      let same : f + (D - f) ≡ D = (let l = low in omega arith) in
      let l = length-run kind s D in
      record {
        raises = λ none. let bad : a ∷ rest ≡ [] = sym alarms ∙ none in absurd (cc);
        outside = subst (All (IsOutsideAlarm s D)) (is ∙ sym alarms) each;
        hunts = ap is_hunt hunts;
        nothing =
            ap (λ (n : ℕ). flat_map of (drop f (run kind s n))) (add-one D)
            ∙ ap (λ (x : History). flat_map of (drop f x)) (run-suc kind s D)
            ∙ ap (flat_map of)
            (drop-append-le f (run kind s D) (at kind s D ∷ []) (let e = low in omega arith))
            ∙ flat_map-append of (drop f (run kind s D)) (at kind s D ∷ [])
            ∙ ap₂ (λ (x y : List Delivered). x ++ y)
            (sym (ap (λ (n : ℕ). flat_map of (drop f (run kind s n))) same)
            ∙ none-before (D - f) (omega arith))
            (append-nil (at kind s D).delivered ∙ delivers-none D off);
      }

  pub refused : (lane : ℕ) → lane < s.link.params.l → (IsWithin s lane D → ⊥)
      → RaisesOutside kind s h D
  refused lane below apart = elim (cases-alarms windows) [
    | inl w ↦
        let is : outside_or_missing s.link.timing (at kind s D).reports ≡ w.0 ∷ w.1 =
        ap (λ (xs : List Alarm). first_class xs (missing (at kind s D).reports)) w.2 in
        refuses w.0 w.1 is (subst (All (IsOutsideAlarm s D)) (w.2 ∙ sym is) windows-outside)
    | inr none ↦
        let all : outside_or_missing s.link.timing (at kind s D).reports ≡ lost_ones =
        ap (λ (xs : List Alarm). first_class xs (missing (at kind s D).reports)) none
        ∙ cond-true (some_started (at kind s D).reports) lost_ones [] begun.started in
        elim (cases-alarms lost_ones) [
          | inl w ↦
              refuses w.0 w.1 (all ∙ w.2)
              (subst (All (IsOutsideAlarm s D)) (sym all) (missing-outside none))
          | inr nobody ↦
              let l = long D in
              let own = lane-at (at kind s D).reports lane lane_missing nobody (omega arith) in
              elim (cases-some (report_at kind s lane D).started) [
                | inl k ↦ absurd (apart (started-within none lane k.0 below k.1))
                | inr unstarted ↦ let bad : LaneMissing lane ∷ [] ≡ [] = sym (rw unstarted refl)
                    ∙ own in absurd (cc)
              ]
        ]
  ]

-- Outside, for any kind of lane whose lane laws hold
pub outside-from-lanes : OutsideFromLanes
outside-from-lanes kind pattern s read laws h D lane session begun met lone whole below apart =
    refused kind pattern s read laws h D session begun met lone whole lane below apart
