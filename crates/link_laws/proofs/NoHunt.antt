-- From the release on an undisturbed session goes on: no decision finds a lost lane or a fault.
use Rattle.std.proofs.Common.{◌≡◌, ℕ, suc, ◌+◌, ◌<◌, ◌≤◌, not, true, false, List, [], ◌∷◌, ◌++◌, length, get_or, Some, inl, inr, refl, sym, ap, ap₂, ◌∙◌, add-zero, arith}
use Rattle.std.proofs.lemmas.Bool.{cases_Bool, cases_lt}
use Rattle.link_params.specs.declared.alarms.Alarm.{Alarm}
use Rattle.link_params.specs.declared.alarms.Device.TheVariants.{Tx}
use Rattle.link_params.specs.declared.fields.Params.{Params}
use Rattle.link_params.specs.declared.fields.Timing.{Timing}
use Rattle.link_params.specs.declared.ilas_state.IlasState.{IlasState}
use Rattle.link_params.specs.declared.ilas_state.IlasState.TheVariants.{Idle, Going, Done, Fault}
use Rattle.link_params.specs.declared.lane_report.LaneReport.{LaneReport}
use Rattle.link_params.specs.Laws.{is_b}
use Rattle.link_params.specs.Lanes.{LaneKind}
use Rattle.link_params.specs.Numbers.{period}
use Rattle.bring_up.specs.declared.stage.Stage.{Stage}
use Rattle.bring_up.specs.declared.stage.Stage.TheVariants as stage
use Rattle.bring_up.specs.declared.stage.Decision.TheVariants as decision
use Rattle.bring_up.specs.Decisions.{alarms_from, decide, ilas_fault, is_hunting, lane_lost, lost_or_faulty, state_alarm}
use Rattle.scenario.specs.Plans.{Plan}
use Rattle.link_model.specs.Edges.{phase}
use Rattle.link_model.specs.Hunts.{is_hunt}
use Rattle.link_model.proofs.DecisionCases.{no_report}
use Rattle.link_model.specs.Sessions.{InSession, at, decides_hunt, first_tick, is_armed, report_at}
use Rattle.link_laws.specs.Premises.{Lone, Pattern, Undamaged}
use Rattle.link_laws.specs.LaneLaws.{HasNoFault, LaneData}
use Rattle.link_laws.proofs.RunTicks.{armed-at, stands}
use Rattle.link_laws.proofs.Phases.{HasEdges, phase-stays}
use Rattle.link_laws.proofs.PlanRead.{reset-none}
use Rattle.link_laws.proofs.Stages.{before, decision_at, decides-as, undecided}
use Rattle.link_laws.proofs.SessionStages.{runs-on}
use Rattle.link_laws.proofs.ReleaseTick.{goes, length-reports, untouched}
use Rattle.link_laws.proofs.Earlier.{lone-earlier, session-earlier, undamaged-earlier}

-- no lane raises an alarm of a class
pub alarms-nothing : (rs : List LaneReport) (lane : ℕ) (alarm : ℕ → LaneReport → List Alarm)
    → ((i : ℕ) → i < length rs → alarm (lane + i) (get_or rs i no_report) ≡ [])
    → alarms_from lane alarm rs ≡ []
unfolding alarms_from
alarms-nothing [] lane alarm none = refl
alarms-nothing (r ∷ rs) lane alarm none =
    ap₂ (λ (a b : List Alarm). a ++ b) (sym (ap (λ (k : ℕ). alarm k r) (add-zero lane))
    ∙ none 0 (omega arith))
    (alarms-nothing rs (suc lane) alarm (λ i below. let e : suc lane + i ≡ lane + suc i =
    omega arith in ap (λ (k : ℕ). alarm k (get_or rs i no_report)) e ∙ none (suc i) (omega arith)))

-- a lane that is neither lost nor faulty
pub record IsCalm (r : LaneReport) : Type 0 where
  pub kept : r.lost ≡ false
  pub no_fault : HasNoFault r.ilas

calm-lost : (lane : ℕ) (r : LaneReport) → r.lost ≡ false → lane_lost lane r ≡ []
calm-lost lane r e = rw e refl

calm-state : (first lane : ℕ) (x : IlasState) → HasNoFault x → state_alarm first lane x ≡ []
calm-state first lane (Fault x cause) none = absurd none
calm-state first lane Idle none = refl
calm-state first lane Going none = refl
calm-state first lane Done none = refl

pub calm-class : (p : Params) (rs : List LaneReport)
    → ((i : ℕ) → i < length rs → IsCalm (get_or rs i no_report)) → lost_or_faulty p rs ≡ []
calm-class p rs calm =
    let lost : alarms_from 0 lane_lost rs ≡ [] =
    alarms-nothing rs 0 lane_lost
    (λ i below. calm-lost (0 + i) (get_or rs i no_report) (calm i below).kept) in
    let faulty : alarms_from 0 (ilas_fault p) rs ≡ [] =
    alarms-nothing rs 0 (ilas_fault p)
    (λ i below. calm-state (period p + 2) (0 + i) (get_or rs i no_report).ilas
    (calm i below).no_fault) in
    rw (lost, faulty) refl

stays-running : (p : Params) (t : Timing) (since : List (List LaneReport)) (rs : List LaneReport)
    → lost_or_faulty p rs ≡ [] → (decide p t stage.Run since rs).decision ≡ decision.Stay
unfolding decide
stays-running p t since rs none = rw none refl

module _ (kind : LaneKind) (pattern : Pattern) (s : Plan) (e : HasEdges s)
    (laws : LaneData kind pattern s) (h r t : ℕ)
    (session : InSession kind s h t) (lone : Lone kind pattern s h t) (whole : Undamaged s h t)
    (low : first_tick kind s h ≤ r) (releases : decision_at kind s r ≡ decision.Release)
    (sent : is_b s.link.params.mode ≡ false → (y : ℕ) × (phase s Tx r ≡ Some y))
    (above : h < r) where
  -- each lane is calm while the link runs
  calm-lane : (i lane : ℕ) → r < i → i ≤ t → before kind s i ≡ stage.Run → lane < s.link.params.l
      → IsCalm (report_at kind s lane i)
  calm-lane i lane up down runs below =
      let clear = untouched s h t whole in
      let armed : is_armed kind s i ≡ true = armed-at kind s i
      ∙ ap (λ (k : Stage). not (is_hunting k)) runs in
      let early = lone-earlier kind pattern s h t i e session whole (omega arith) down
      (λ c. let y = sent c in phase-stays s Tx r i y.0 e (omega arith)
      (λ x a b. reset-none s Tx x (clear.no_event x (omega arith) (omega arith))) y.1) lone in
      let law = laws h lane i below (session-earlier kind s h t i (omega arith) down session) early
      (undamaged-earlier s h t i down whole) armed in
      record { kept = law.kept; no_fault = law.no_fault }

  -- no decision from the release on begins a hunt
  pub no-hunt : (i : ℕ) → r ≤ i → i ≤ t → decides_hunt kind s i ≡ false
  no-hunt i up down = elim (cases_lt r i) [
    | inr here ↦
        let same : i ≡ r = omega arith in
        ap is_hunt (ap (decision_at kind s) same ∙ releases)
    | inl later ↦
        let g = goes kind s h t session whole in
        let runs = runs-on kind s h t g r i low releases later down in
        let long = length-reports kind s i in
        let stay : decision_at kind s i ≡ decision.Stay = elim (cases_Bool (at kind s i).decides) [
          | inr off ↦ undecided kind s i off
          | inl on ↦
              decides-as kind s i stage.Run on runs
              ∙ stays-running s.link.params s.link.timing (stands kind s i).since
              (at kind s i).reports
              (calm-class s.link.params (at kind s i).reports
              (λ lane below. calm-lane i lane later down runs (omega arith)))
        ] in
        ap is_hunt stay
  ]
