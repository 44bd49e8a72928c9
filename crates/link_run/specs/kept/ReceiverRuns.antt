-- What the receiver of a run keeps of its history.
-- Code: a clock, a control, and the reports and alarms of the last decision.
use Rattle.std.specs.Prelude.{◌≡◌, ◌+◌, Bool, if◌then◌else◌, List, [], ◌∷◌, ◌++◌, length}
use Rattle.link_params.specs.declared.alarms.Alarm.{Alarm}
use Rattle.link_params.specs.declared.alarms.Device.TheVariants.{Rx}
use Rattle.link_params.specs.declared.lane_report.LaneReport.{LaneReport}
use Rattle.bring_up.specs.kept.Controls.{Controller, HasDecided}
use Rattle.bring_up.specs.Decisions.{decide_at}
use Rattle.bring_up.specs.declared.stage.Decision.{Decision}
use Rattle.scenario.specs.Plans.{Plan}
use Rattle.link_run.specs.declared.rx_tick.RxTick.{RxTick}
use Rattle.link_model.specs.kept.Before.{decisions_before}
use Rattle.link_model.specs.Edges.{is_reset, off}
use Rattle.link_model.specs.Hunts.{ends_in_hunt, standing}
use Rattle.link_model.specs.Kinds.{moment_of}
use Rattle.link_model.specs.Moments.{History}
use Rattle.link_model.specs.Receives.{told_of}
use Rattle.link_run.specs.kept.Clocked.{Clocking, HasClocked}

-- its clock, its control, whether a hunt begins with the next tick, the reports of the last
-- decision, and its alarms
pub record RxEnd : Type 0 where
  pub clock : Clocking
  pub control : Controller
  pub hunts : Bool
  pub reports : List LaneReport
  pub alarms : List Alarm

-- the ticks of this history are over
pub record HasReceivedRun (now : RxEnd) (s : Plan) (h : History) : Type 0 where
  pub clock : HasClocked now.clock s (length h)
  pub device : now.clock.device ≡ Rx
  pub control : HasDecided now.control s.link.params s.link.timing (decisions_before s h)
  pub hunts : now.hunts ≡ ends_in_hunt h
  pub lanes : length now.reports ≡ s.link.params.l

-- the receiver's decisions before the tick that comes, once its reset was done
abbrev pub decisions_left : Plan → History → List (List LaneReport)
decisions_left s h = if is_reset s Rx (length h) then [] else decisions_before s h

-- the orders of the tick after this history were given, and nothing was decided in it yet
pub record HasToldTick (now : RxEnd) (s : Plan) (h : History) : Type 0 where
  pub clock : HasClocked now.clock s (length h + 1)
  pub device : now.clock.device ≡ Rx
  pub control : HasDecided now.control s.link.params s.link.timing (decisions_left s h)
  pub lanes : length now.reports ≡ s.link.params.l

-- what a receiver says of that tick
pub record IsToldTick (tick : RxTick) (now : RxEnd) (s : Plan) (h : History) : Type 0 where
  pub off : tick.off ≡ off s Rx (length h)
  pub told : tick.told ≡ told_of s h
  pub decides : tick.decides ≡ (moment_of s h).decides
  pub after : HasToldTick now s h

-- a receiver that was told the tick after this history has decided
pub record Decides (decision : Decision) (old now : RxEnd) (s : Plan) (h : History) : Type 0 where
  pub decision_due : decision
      ≡ (decide_at s.link.params s.link.timing (standing s h) (moment_of s h).reports).decision
  pub alarms : now.alarms
      ≡ (decide_at s.link.params s.link.timing (standing s h) (moment_of s h).reports).alarms
  pub control : HasDecided now.control s.link.params s.link.timing
      (decisions_left s h ++ (moment_of s h).reports ∷ [])
  pub same_clock : now.clock ≡ old.clock
  pub lanes : length now.reports ≡ s.link.params.l

-- the tick after this history is over for the receiver
pub record IsEnded (decision : Decision) (now : RxEnd) (s : Plan) (h : History) : Type 0 where
  pub decision_is : decision ≡ (moment_of s h).decided.decision
  pub alarms : now.alarms ≡ (moment_of s h).decided.alarms
  pub stands : HasReceivedRun now s (h ++ moment_of s h ∷ [])
