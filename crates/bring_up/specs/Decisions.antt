-- The receiver's decisions, by cases on the stage, the reports, and how many decisions there were
-- since the stage began (JESD204B.01 clauses 5.3.3 link operation and 6 deterministic latency; the
-- counts, classes and alarms are this project's own). A decision falls at each release point, once
-- a period.
-- Code: counters, and a row that is filled.
use Rattle.std.specs.Prelude.{ℕ, suc, ◌+◌, ◌-◌, ◌%◌, ◌==◌, nat_le, Bool, true, false, not, ◌&&◌, if◌then◌else◌, List, [], ◌∷◌, ◌++◌, count_by, length, Option, Some, None, is_some}
use Rattle.std.specs.List.{list_any, list_all}
use Rattle.link_params.specs.declared.fields.Params.{Params}
use Rattle.link_params.specs.declared.fields.Timing.{Timing}
use Rattle.link_params.specs.Numbers.{period}
use Rattle.link_params.specs.declared.ilas_state.IlasCause.{IlasCause}
use Rattle.link_params.specs.declared.ilas_state.IlasCause.TheVariants as reason
use Rattle.link_params.specs.declared.ilas_state.IlasState.{IlasState}
use Rattle.link_params.specs.declared.ilas_state.IlasState.TheVariants.{Idle, Going, Done, Fault}
use Rattle.link_params.specs.declared.lane_report.LaneReport.{LaneReport}
use Rattle.link_params.specs.declared.alarms.Alarm.{Alarm}
use Rattle.link_params.specs.declared.alarms.Alarm.TheVariants.{LaneWindow, LaneMissing, LaneLost, NoLock, IlasFault, ConfigMismatch, LaneId, StartTimeout}
use Rattle.link_params.specs.Lanes.{is_inside}
use Rattle.bring_up.specs.declared.stage.Stage.{Stage}
use Rattle.bring_up.specs.declared.stage.Stage.TheVariants as stage
use Rattle.bring_up.specs.declared.stage.Decision.{Decision}
use Rattle.bring_up.specs.declared.stage.Decision.TheVariants.{Stay, Arm, Release, Hunt}

-- what is decided: the decision and the alarms that are raised, in ascending lanes
pub record Decided : Type 0 where
  pub decision : Decision
  pub alarms : List Alarm

abbrev pub decided : Decision → List Alarm → Decided
decided d alarms = record { decision = d; alarms = alarms }

-- ---- alarms

-- the alarms of lanes, where the first report is that of this lane
unfoldable pub alarms_from : ℕ → (ℕ → LaneReport → List Alarm) → List LaneReport → List Alarm
alarms_from lane alarm [] = []
alarms_from lane alarm (r ∷ rs) = alarm lane r ++ alarms_from (suc lane) alarm rs

abbrev pub if_so : Bool → Alarm → List Alarm
if_so b a = if b then a ∷ [] else []

abbrev pub no_lock : ℕ → LaneReport → List Alarm
no_lock lane r = if_so (not r.locked) (NoLock lane)

abbrev pub lane_lost : ℕ → LaneReport → List Alarm
lane_lost lane r = if_so r.lost (LaneLost lane)

-- a fault of the alignment sequence; first: the place of configuration octet 0
abbrev pub fault_alarm : ℕ → ℕ → ℕ → IlasCause → Alarm
fault_alarm first lane x (reason.LaneId lid) = LaneId lane lid
fault_alarm first lane x reason.Config = ConfigMismatch lane (x - first)
fault_alarm first lane x reason.Code = IlasFault lane x
fault_alarm first lane x reason.Wrong = IlasFault lane x
fault_alarm first lane x reason.Fchk = IlasFault lane x

abbrev pub state_alarm : ℕ → ℕ → IlasState → List Alarm
state_alarm first lane (Fault x cause) = fault_alarm first lane x cause ∷ []
state_alarm first lane Idle = []
state_alarm first lane Going = []
state_alarm first lane Done = []

abbrev pub ilas_fault : Params → ℕ → LaneReport → List Alarm
ilas_fault p lane r = state_alarm (period p + 2) lane r.ilas

abbrev pub window_alarm : Timing → ℕ → Option ℕ → List Alarm
window_alarm t lane None = []
window_alarm t lane (Some offset) = if_so (not (is_inside t offset)) (LaneWindow lane offset)

-- a lane that started outside its window
abbrev pub lane_window : Timing → ℕ → LaneReport → List Alarm
lane_window t lane r = window_alarm t lane r.started

-- a lane that did not start
abbrev pub lane_missing : ℕ → LaneReport → List Alarm
lane_missing lane r = if_so (not (is_some r.started)) (LaneMissing lane)

-- the first class that is not empty
abbrev pub first_class : List Alarm → List Alarm → List Alarm
first_class [] later = later
first_class (a ∷ alarms) later = a ∷ alarms

-- lost lanes, else faults of the alignment sequence
abbrev pub lost_or_faulty : Params → List LaneReport → List Alarm
lost_or_faulty p reports = first_class (alarms_from 0 lane_lost reports) (alarms_from 0 (ilas_fault p) reports)

abbrev pub some_started : List LaneReport → Bool
some_started reports = list_any (λ r. is_some r.started) reports

abbrev pub all_started : List LaneReport → Bool
all_started reports = list_all (λ r. is_some r.started) reports

-- where some lane started, those that did not
abbrev pub missing : List LaneReport → List Alarm
missing reports = if some_started reports then alarms_from 0 lane_missing reports else []

-- lanes outside their windows, else missing ones
abbrev pub outside_or_missing : Timing → List LaneReport → List Alarm
outside_or_missing t reports = first_class (alarms_from 0 (lane_window t) reports) (missing reports)

-- ---- the decision at a release point; before: the reports at the decisions since the stage began

-- the fourth decision of a hunt or a later one arms the lanes where all are locked; at every sixteenth the others raise NoLock
abbrev pub in_hunt : ℕ → List LaneReport → Decided
in_hunt n reports =
    if nat_le 4 n && list_all (λ r. r.locked) reports then decided Arm []
    else decided Stay (if n % 16 == 0 then alarms_from 0 no_lock reports else [])

-- how many decisions are idle, which find no lane started, where this one is
abbrev pub idle : List (List LaneReport) → ℕ
idle before = count_by (λ reports. not (some_started reports)) before + 1

-- without an alarm: a release where all lanes started; where none did, the eighth idle decision raises StartTimeout
abbrev pub calm_in_wait : List (List LaneReport) → List LaneReport → Decided
calm_in_wait before reports = if all_started reports then decided Release []
    else (if idle before == 8 then decided Hunt (StartTimeout ∷ []) else decided Stay [])

-- after an alarm a hunt begins
abbrev pub hunt_on : List Alarm → Decided → Decided
hunt_on [] d = d
hunt_on (a ∷ alarms) d = decided Hunt (a ∷ alarms)

unfoldable pub decide : Params → Timing → Stage → List (List LaneReport) → List LaneReport → Decided
decide p t stage.Hunt before reports = in_hunt (length before + 1) reports
decide p t stage.Wait before reports = hunt_on (first_class (lost_or_faulty p reports) (outside_or_missing t reports)) (calm_in_wait before reports)
decide p t stage.Run before reports = hunt_on (lost_or_faulty p reports) (decided Stay [])

-- ---- the stage, as a fold over the decisions since the receiver's reset

-- the stage, and the reports at the decisions since it began, oldest first
pub record Standing : Type 0 where
  pub stage : Stage
  pub since : List (List LaneReport)

-- a receiver begins to hunt
abbrev pub begin : Standing
begin = record { stage = stage.Hunt; since = [] }

abbrev pub after_decision : Standing → List LaneReport → Decision → Standing
after_decision s reports Stay = record { stage = s.stage; since = s.since ++ reports ∷ [] }
after_decision s reports Arm = record { stage = stage.Wait; since = [] }
after_decision s reports Release = record { stage = stage.Run; since = [] }
after_decision s reports Hunt = record { stage = stage.Hunt; since = [] }

-- what is decided where a receiver stands so
abbrev pub decide_at : Params → Timing → Standing → List LaneReport → Decided
decide_at p t s reports = decide p t s.stage s.since reports

-- where it stands afterwards
abbrev pub after_reports : Params → Timing → Standing → List LaneReport → Standing
after_reports p t s reports = after_decision s reports (decide_at p t s reports).decision

-- where it stands after the decisions with these reports
unfoldable pub standing_from : Params → Timing → Standing → List (List LaneReport) → Standing
standing_from p t s [] = s
standing_from p t s (reports ∷ later) = standing_from p t (after_reports p t s reports) later

-- SYNC~ is low exactly while a receiver hunts
abbrev pub is_hunting : Stage → Bool
is_hunting stage.Hunt = true
is_hunting stage.Wait = false
is_hunting stage.Run = false

abbrev pub is_running : Stage → Bool
is_running stage.Hunt = false
is_running stage.Wait = false
is_running stage.Run = true
