-- What a receiver's control keeps of its decisions: a count in their place.
-- Code: the fields themselves.
use Rattle.std.specs.Prelude.{◌≡◌, ◌≤◌, ◌<◌, ℕ, ◌+◌, ◌-◌, ◌%◌, ◌==◌, nat_lt, not, if◌then◌else◌, List, [], ◌∷◌, length, count_by}
use Rattle.link_params.specs.declared.fields.Params.{Params}
use Rattle.link_params.specs.declared.fields.Timing.{Timing}
use Rattle.link_params.specs.Numbers.{period}
use Rattle.link_params.specs.declared.ilas_state.IlasCause.TheVariants.{Config}
use Rattle.link_params.specs.declared.ilas_state.IlasState.TheVariants.{Fault}
use Rattle.link_params.specs.declared.lane_report.LaneReport.{LaneReport}
use Rattle.link_params.specs.declared.alarms.Alarm.TheVariants.{StartTimeout}
use Rattle.bring_up.specs.declared.stage.Stage.{Stage}
use Rattle.bring_up.specs.declared.stage.Stage.TheVariants as stage
use Rattle.bring_up.specs.declared.stage.Decision.{Decision}
use Rattle.bring_up.specs.declared.stage.Decision.TheVariants.{Stay, Arm, Release, Hunt}
use Rattle.bring_up.specs.Decisions.{Decided, decided, all_started, begin, first_class, hunt_on, in_hunt, lost_or_faulty, outside_or_missing, some_started, standing_from}

-- a control is seen as its link, its stage, and a count of the decisions since the stage began
pub record Controller : Type 0 where
  pub params : Params
  pub timing : Timing
  pub stage : Stage
  pub count : ℕ

-- a fault of the configuration is one of the octets 0 to 12
abbrev pub NamesOctet : Params → LaneReport → Type 0
NamesOctet p r = (x : ℕ) → r.ilas ≡ Fault x Config → (period p + 2 ≤ x) × (x < period p + 15)

-- ---- the count

-- the decisions of a hunt, from 20 on modulo 16: what tells is whether they are three, and the remainder
abbrev pub hunt_count : ℕ → ℕ
hunt_count n = if nat_lt n 20 then n else 4 + (n - 4) % 16

-- what the count says of the reports since the stage began: armed lanes are counted in idle decisions
abbrev pub counted : Stage → List (List LaneReport) → ℕ
counted stage.Hunt since = hunt_count (length since)
counted stage.Wait since = count_by (λ reports. not (some_started reports)) since
counted stage.Run since = 0

-- no count is as large
abbrev pub limit : Stage → ℕ
limit stage.Hunt = 20
limit stage.Wait = 8
limit stage.Run = 1

-- the count after a decision that leaves the stage as it is
abbrev pub count_after : Stage → ℕ → ℕ
count_after stage.Hunt n = if n == 19 then 4 else n + 1
count_after stage.Wait n = n + 1
count_after stage.Run n = n

-- ---- the decision by the count

-- armed lanes without an alarm
abbrev pub calm_by : ℕ → List LaneReport → Decided
calm_by n reports = if all_started reports then decided Release []
    else (if n + 1 == 8 then decided Hunt (StartTimeout ∷ []) else decided Stay [])

abbrev pub decided_by : Params → Timing → Stage → ℕ → List LaneReport → Decided
decided_by p t stage.Hunt n reports = in_hunt (n + 1) reports
decided_by p t stage.Wait n reports = hunt_on (first_class (lost_or_faulty p reports) (outside_or_missing t reports)) (calm_by n reports)
decided_by p t stage.Run n reports = hunt_on (lost_or_faulty p reports) (decided Stay [])

-- what is kept after a decision
abbrev pub controller_after : Controller → Decision → Controller
controller_after now Stay = record now { count = count_after now.stage now.count }
controller_after now Arm = record now { stage = stage.Wait; count = 0 }
controller_after now Release = record now { stage = stage.Run; count = 0 }
controller_after now Hunt = record now { stage = stage.Hunt; count = 0 }

-- ---- a control of this link has taken the decisions with these reports since its reset
pub record HasDecided (now : Controller) (p : Params) (t : Timing) (before : List (List LaneReport)) : Type 0 where
  pub params : now.params ≡ p
  pub timing : now.timing ≡ t
  pub stage : now.stage ≡ (standing_from p t begin before).stage
  pub count : now.count ≡ counted now.stage (standing_from p t begin before).since
