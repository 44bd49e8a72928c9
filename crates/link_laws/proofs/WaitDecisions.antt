-- A decision of a receiver that waits, where all lanes are inside their windows and nothing is
-- damaged: a release where some lane has started, and else it stays, or begins a hunt for a
-- timeout.
use Rattle.std.proofs.Common.{◌≡◌, ℕ, zero, suc, ◌+◌, ◌<◌, ◌≤◌, ◌==◌, ◌⊎◌, ◌&&◌, not, if◌then◌else◌, Bool, true, false, List, [], ◌∷◌, length, get_or, Option, Some, None, is_some, inl, inr, refl, sym, ap, ap₂, ◌∙◌, arith}
use Rattle.std.proofs.lemmas.Bool.{cases_Bool, cases_lt, cond-true, cond-false, eqb-true, le-leb}
use Rattle.link_params.specs.declared.alarms.Alarm.{Alarm}
use Rattle.link_params.specs.declared.alarms.Device.TheVariants.{Rx}
use Rattle.link_params.specs.declared.fields.Params.{Params}
use Rattle.link_params.specs.declared.fields.Timing.{Timing}
use Rattle.link_params.specs.declared.lane_report.LaneReport.{LaneReport}
use Rattle.link_params.specs.Laws.{is_b}
use Rattle.link_params.specs.Lanes.{LaneKind, is_inside}
use Rattle.link_params.specs.Numbers.{lat_ticks}
use Rattle.bring_up.specs.declared.stage.Stage.{Stage}
use Rattle.bring_up.specs.declared.stage.Stage.TheVariants as stage
use Rattle.bring_up.specs.declared.stage.Decision.TheVariants as decision
use Rattle.bring_up.specs.Decisions.{alarms_from, all_started, calm_in_wait, decide, first_class, hunt_on, idle, is_hunting, lane_missing, lane_window, lost_or_faulty, missing, outside_or_missing, some_started, window_alarm}
use Rattle.scenario.specs.Plans.{Plan}
use Rattle.link_model.proofs.DecisionCases.{no_report}
use Rattle.link_model.specs.Sessions.{InSession, at, first_tick, is_armed, report_at}
use Rattle.link_laws.specs.Premises.{Inside, Lone, Met, Pattern, Undamaged}
use Rattle.link_laws.specs.LaneLaws.{ComesAfter, LaneLaws, due_after, is_first_place}
use Rattle.link_laws.specs.Laws.{IsPlanRead}
use Rattle.link_laws.proofs.RunTicks.{armed-at, stands}
use Rattle.link_laws.proofs.PlanRead.{HasNumbers, has-edges, numbers}
use Rattle.link_laws.proofs.Phases.{phases-apart}
use Rattle.link_laws.proofs.Stages.{before, decides-as, decision_at, phase-decides}
use Rattle.link_laws.proofs.SessionStages.{ArmedSince, Goes, first-high, first-low, idle-between}
use Rattle.link_laws.proofs.ReleaseTick.{arming, goes, length-reports, offset-shown, releases-late, starts-by, starts-lane}
use Rattle.link_laws.proofs.NoHunt.{IsCalm, alarms-nothing, calm-class}

-- ---- lists of reports

cases-some : (o : Option ℕ) → ((x : ℕ) × (o ≡ Some x)) ⊎ (o ≡ None)
cases-some (Some x) = inl (x, refl)
cases-some None = inr refl

record Started (rs : List LaneReport) : Type 0 where
  lane : ℕ
  below : lane < length rs
  offset : ℕ
  is : (get_or rs lane no_report).started ≡ Some offset

find-started : (rs : List LaneReport) → some_started rs ≡ true → Started rs
find-started [] e = let bad : false ≡ true = e in absurd (cc)
find-started (r ∷ rs) e = elim (cases-some r.started) [
  | inl k ↦ record { lane = 0; below = omega arith; offset = k.0; is = k.1 }
  | inr none ↦
      let rest : some_started (r ∷ rs) ≡ some_started rs = rw none refl in
      let k = find-started rs (sym rest ∙ e) in
      let low = k.below in
      record { lane = suc k.lane; below = omega arith; offset = k.offset; is = k.is }
]

is-none : (o : Option ℕ) → is_some o ≡ false → o ≡ None
is-none None e = refl
is-none (Some x) e = let bad : true ≡ false = e in absurd (cc)

some-from : (rs : List LaneReport) (i : ℕ) (o : ℕ) → i < length rs
    → (get_or rs i no_report).started ≡ Some o → some_started rs ≡ true
some-from [] i o below is = absurd (omega arith)
some-from (r ∷ rs) zero o below is = rw is refl
some-from (r ∷ rs) (suc i) o below is =
    let later = some-from rs i o (omega arith) is in
    elim (cases_Bool (is_some r.started)) [ inl e ↦ rw e refl | inr e ↦ rw e later ]

every-started : (rs : List LaneReport)
    → ((i : ℕ) → i < length rs → (o : ℕ) × ((get_or rs i no_report).started ≡ Some o))
    → all_started rs ≡ true
every-started [] each = refl
every-started (r ∷ rs) each =
    let first = each 0 (omega arith) in
    ap₂ (λ (a b : Bool). a && b) (ap is_some first.1)
    (every-started rs (λ i below. each (suc i) (omega arith)))

inside-of : (t : Timing) (o : ℕ) → t.w_lo ≤ o → o ≤ t.w_hi → is_inside t o ≡ true
inside-of t o low high = ap₂ (λ (a b : Bool). a && b) (le-leb t.w_lo o low) (le-leb o t.w_hi high)

window-none : (t : Timing) (lane : ℕ) (o : Option ℕ) → ((x : ℕ) → o ≡ Some x → is_inside t x ≡ true)
    → window_alarm t lane o ≡ []
window-none t lane None each = refl
window-none t lane (Some x) each = rw (each x refl) refl

missing-none : (lane : ℕ) (r : LaneReport) (o : ℕ) → r.started ≡ Some o → lane_missing lane r ≡ []
missing-none lane r o is = rw is refl

no-classes : (p : Params) (t : Timing) (since : List (List LaneReport)) (rs : List LaneReport)
    → lost_or_faulty p rs ≡ [] → outside_or_missing t rs ≡ []
    → (decide p t stage.Wait since rs).decision ≡ (calm_in_wait since rs).decision
unfolding decide
no-classes p t since rs calm inside =
    let none : first_class (lost_or_faulty p rs) (outside_or_missing t rs) ≡ [] =
    ap (λ (xs : List Alarm). first_class xs (outside_or_missing t rs)) calm ∙ inside in
    ap (λ (xs : List Alarm). (hunt_on xs (calm_in_wait since rs)).decision) none

no-outside : (t : Timing) (rs : List LaneReport) → alarms_from 0 (lane_window t) rs ≡ []
    → missing rs ≡ [] → outside_or_missing t rs ≡ []
no-outside t rs windows gone = ap (λ (xs : List Alarm). first_class xs (missing rs)) windows ∙ gone

calm-waits : (since : List (List LaneReport)) (rs : List LaneReport) → all_started rs ≡ false
    → ((calm_in_wait since rs).decision ≡ decision.Stay)
    ⊎ (((calm_in_wait since rs).decision ≡ decision.Hunt) × (idle since ≡ 8))
calm-waits since rs some = elim (cases_Bool (idle since == 8)) [
  | inl eight ↦ inr (rw (some, eight) refl, eqb-true (idle since) 8 eight)
  | inr few ↦ inl (rw (some, few) refl)
]

calm-releases : (since : List (List LaneReport)) (rs : List LaneReport) → all_started rs ≡ true
    → (calm_in_wait since rs).decision ≡ decision.Release
calm-releases since rs all = rw all refl

not-all : (rs : List LaneReport) → 0 < length rs → some_started rs ≡ false → all_started rs ≡ false
not-all [] some none = absurd (omega arith)
not-all (r ∷ rs) some none = elim (cases_Bool (is_some r.started)) [
  | inr e ↦ rw e refl
  | inl e ↦ let bad : true ≡ false = sym (rw e refl) ∙ none in absurd (cc)
]

-- one decision armed the lanes
pub one-arming : (kind : LaneKind) (s : Plan) (first u : ℕ) (a b : ArmedSince kind s first u)
    → a.tick ≡ b.tick
one-arming kind s first u a b =
    let below_a = a.below in
    let below_b = b.below in
    let hunts_a = a.hunts in
    let hunts_b = b.hunts in
    elim (cases_lt a.tick b.tick) [
      | inl before ↦ let bad = a.waits b.tick before (omega arith) in absurd (cc)
      | inr up ↦ elim (cases_lt b.tick a.tick) [
        | inl after ↦ let bad = b.waits a.tick after (omega arith) in absurd (cc)
        | inr down ↦ omega arith
      ]
    ]

module _ (kind : LaneKind) (pattern : Pattern) (s : Plan) (read : IsPlanRead s)
    (laws : LaneLaws kind pattern s) (h u : ℕ)
    (session : InSession kind s h u) (met : Met s u) (lone : Lone kind pattern s h u)
    (whole : Undamaged s h u) (within : Inside s h)
    (waiting : before kind s u ≡ stage.Wait) (deciding : (at kind s u).decides ≡ true) where
  g : Goes kind s h u
  g = goes kind s h u session whole

  n : HasNumbers s.link.params s.link.timing
  n = numbers s read

  low : first_tick kind s h ≤ u
  low = let f = first-high kind s h u g in let a = session.above in omega arith

  at_end : u ≤ u
  at_end = omega arith

  long : length (at kind s u).reports ≡ s.link.params.l
  long = length-reports kind s u

  nobody : (i lane : ℕ) → first_tick kind s h ≤ i → i < u → before kind s i ≡ stage.Wait
      → before kind s (suc i) ≡ stage.Wait → (at kind s i).decides ≡ true
      → lane < s.link.params.l → (report_at kind s lane i).started ≡ None
  nobody i lane from below waits later decides inside =
      let l = length-reports kind s i in
      idle-between kind s h u g i from below waits later decides lane (omega arith)

  -- the decision that armed the lanes
  armed : ArmedSince kind s (first_tick kind s h) u
  armed = arming kind pattern s read laws.start h u u session met lone whole low at_end waiting
      deciding nobody

  calm : (lane : ℕ) → lane < s.link.params.l → IsCalm (report_at kind s lane u)
  calm lane below =
      let is : is_armed kind s u ≡ true = armed-at kind s u
      ∙ ap (λ (q : Stage). not (is_hunting q)) waiting in
      let law = laws.carried h lane u below session lone whole is in
      record { kept = law.kept; no_fault = law.no_fault }

  inside : (lane o : ℕ) → lane < s.link.params.l → (report_at kind s lane u).started ≡ Some o
      → is_inside s.link.timing o ≡ true
  inside lane o below is =
      let x = starts-lane kind pattern s read laws.start h u u session met lone whole low at_end
      waiting deciding nobody lane o below is in
      let same = offset-shown kind pattern s read laws.start h u u session met lone whole low at_end
      waiting deciding nobody lane o x is in
      let w = within lane below in
      let least = w.0 in
      let most = w.1 in
      inside-of s.link.timing o (omega arith) (omega arith)

  -- each lane has started where what starts it was sent early enough
  pub started-by : (a : ArmedSince kind s (first_tick kind s h) u) (q : ℕ) → a.tick < q
      → is_first_place (at kind s q).order ≡ true
      → q + lat_ticks s.link.params s.link.timing ≤ u → (lane : ℕ) → lane < s.link.params.l
      → (o : ℕ) × ((report_at kind s lane u).started ≡ Some o)
  unfolding armed
  started-by a q late first by lane below =
      let after : armed.tick < q = (let same = one-arming kind s (first_tick kind s h) u a armed in
      omega arith) in
      let w = within lane below in
      let most = w.1 in
      let far = n.late in
      let comes : ComesAfter s lane h armed.tick q = elim (cases_Bool (is_b s.link.params.mode)) [
        | inl b ↦ let none : (if is_b s.link.params.mode then 0 else due_after s lane h) ≡ 0 =
            cond-true (is_b s.link.params.mode) 0 (due_after s lane h) b in omega arith
        | inr c ↦ let all : (if is_b s.link.params.mode then 0 else due_after s lane h)
            ≡ due_after s lane h = cond-false (is_b s.link.params.mode) 0 (due_after s lane h) c in
            omega arith
      ] in
      starts-by kind pattern s read laws.start h u u session met lone whole low at_end waiting
      deciding nobody lane q below comes first (omega arith)

  -- where one lane has started, each has
  each-started : (one o lane : ℕ) → one < s.link.params.l
      → (report_at kind s one u).started ≡ Some o → lane < s.link.params.l
      → (x : ℕ) × ((report_at kind s lane u).started ≡ Some x)
  unfolding armed
  each-started one o lane below_one is below =
      let p = s.link.params in
      let x = starts-lane kind pattern s read laws.start h u u session met lone whole low at_end
      waiting deciding nobody one o below_one is in
      let w_one = within one below_one in
      let low_one = w_one.0 in
      let high_one = w_one.1 in
      let late = releases-late kind pattern s read laws.start h u u session met lone whole low
      at_end waiting deciding nobody one below_one low_one high_one x in
      let w = within lane below in
      let low_lane = w.0 in
      let high_lane = w.1 in
      let far = n.late in
      let near = n.near in
      let armed_below = armed.below in
      let armed_from = armed.from in
      let f = first-low kind s h u g in
      let apart = phases-apart s Rx armed.tick u s.link.timing.rbd (has-edges s read) armed_below
      (λ i a b. g.quiet i (omega arith) b) (phase-decides kind s armed.tick armed.decides)
      (phase-decides kind s u deciding) in
      let comes : ComesAfter s lane h armed.tick x.sent = elim (cases_Bool (is_b p.mode)) [
        | inl b ↦
            let own = x.is.comes in
            let none_first : (if is_b p.mode then 0 else due_after s one h) ≡ 0 =
            cond-true (is_b p.mode) 0 (due_after s one h) b in
            let none : (if is_b p.mode then 0 else due_after s lane h) ≡ 0 =
            cond-true (is_b p.mode) 0 (due_after s lane h) b in
            omega arith
        | inr c ↦
            let all : (if is_b p.mode then 0 else due_after s lane h) ≡ due_after s lane h =
            cond-false (is_b p.mode) 0 (due_after s lane h) c in
            omega arith
      ] in
      starts-by kind pattern s read laws.start h u u session met lone whole low at_end waiting
      deciding nobody lane x.sent below comes x.is.sent (omega arith)

  all-from-some : some_started (at kind s u).reports ≡ true → (lane : ℕ) → lane < s.link.params.l
      → (x : ℕ) × ((report_at kind s lane u).started ≡ Some x)
  all-from-some some lane below =
      let l = long in
      let k = find-started (at kind s u).reports some in
      let inside_list = k.below in
      each-started k.lane k.offset lane (omega arith) k.is below

  windows-none : alarms_from 0 (lane_window s.link.timing) (at kind s u).reports ≡ []
  windows-none = alarms-nothing (at kind s u).reports 0 (lane_window s.link.timing) (λ i below.
      let l = long in
      window-none s.link.timing (0 + i) (report_at kind s i u).started
      (λ o is. inside i o (omega arith) is))

  none-missing : missing (at kind s u).reports ≡ []
  none-missing = elim (cases_Bool (some_started (at kind s u).reports)) [
    | inr nothing ↦ cond-false (some_started (at kind s u).reports)
        (alarms_from 0 lane_missing (at kind s u).reports) [] nothing
    | inl some ↦
        cond-true (some_started (at kind s u).reports)
        (alarms_from 0 lane_missing (at kind s u).reports) [] some
        ∙ alarms-nothing (at kind s u).reports 0 lane_missing (λ i below.
        let l = long in
        let k = all-from-some some i (omega arith) in
        missing-none (0 + i) (report_at kind s i u) k.0 k.1)
  ]

  -- no class of alarms has one
  pub decides-calm : decision_at kind s u
      ≡ (calm_in_wait (stands kind s u).since (at kind s u).reports).decision
  decides-calm =
      let l = long in
      decides-as kind s u stage.Wait deciding waiting
      ∙ no-classes s.link.params s.link.timing (stands kind s u).since (at kind s u).reports
      (calm-class s.link.params (at kind s u).reports (λ lane below. calm lane (omega arith)))
      (no-outside s.link.timing (at kind s u).reports windows-none none-missing)

  -- where some lane has started the receiver releases
  pub releases-started : (lane o : ℕ) → lane < s.link.params.l
      → (report_at kind s lane u).started ≡ Some o → decision_at kind s u ≡ decision.Release
  releases-started lane o below is =
      let l = long in
      let some = some-from (at kind s u).reports lane o (omega arith) is in
      decides-calm ∙ calm-releases (stands kind s u).since (at kind s u).reports
      (every-started (at kind s u).reports
      (λ i inside_list. all-from-some some i (omega arith)))

  -- it begins a hunt for a timeout alone
  pub hunts-eighth : decision_at kind s u ≡ decision.Hunt → idle (stands kind s u).since ≡ 8
  hunts-eighth hunts = elim (cases_Bool (all_started (at kind s u).reports)) [
    | inl all ↦ let bad : decision.Hunt ≡ decision.Release = sym hunts ∙ decides-calm
        ∙ calm-releases (stands kind s u).since (at kind s u).reports all in absurd (cc)
    | inr some ↦ elim (calm-waits (stands kind s u).since (at kind s u).reports some) [
      | inl stays ↦ let bad : decision.Hunt ≡ decision.Stay = sym hunts ∙ decides-calm ∙ stays in
          absurd (cc)
      | inr k ↦ k.1
    ]
  ]
