-- Hunts, sessions and where the receiver stands (JESD204B.01 clause 5.3.3, link operation; sessions
-- are this project's own).
-- Code: the receiver keeps its stage and a count of decisions.
use Rattle.std.specs.Prelude.{Bool, true, false, ◌||◌, if◌then◌else◌, List, [], ◌∷◌, map, filter, length, drop, Option, Some, None, unwrap_or}
use Rattle.link_params.specs.declared.alarms.Device.TheVariants.{Rx}
use Rattle.link_params.specs.declared.lane_report.LaneReport.{LaneReport}
use Rattle.bring_up.specs.declared.stage.Decision.{Decision}
use Rattle.bring_up.specs.declared.stage.Decision.TheVariants as decision
use Rattle.bring_up.specs.Decisions.{Standing, begin, standing_from}
use Rattle.scenario.specs.Plans.{Plan}
use Rattle.link_model.specs.Edges.{is_reset, last_reset}
use Rattle.link_model.specs.Moments.{History}

-- ---- the receiver's hunt and standing

abbrev pub is_hunt : Decision → Bool
is_hunt decision.Stay = false
is_hunt decision.Arm = false
is_hunt decision.Release = false
is_hunt decision.Hunt = true

-- no tick has come yet, or the decision of the last one was to hunt
unfoldable pub ends_in_hunt : History → Bool
ends_in_hunt [] = true
ends_in_hunt (m ∷ []) = is_hunt m.decided.decision
ends_in_hunt (m ∷ n ∷ h) = ends_in_hunt (n ∷ h)

-- a hunt begins with the tick that comes
abbrev pub begins_hunt : Plan → History → Bool
begins_hunt s h = is_reset s Rx (length h) || ends_in_hunt h

abbrev pub or_else : Option History → Option History → Option History
or_else (Some x) o = Some x
or_else None o = o

-- the ticks from the last one on with which a hunt began
unfoldable pub from_hunt : History → Option History
from_hunt [] = None
from_hunt (m ∷ h) = let here = if m.told.hunt then Some (m ∷ h) else None in
    or_else (from_hunt h) here

-- the ticks of the session to which the tick that comes belongs
unfoldable pub session : Plan → History → History
session s h = if begins_hunt s h then [] else unwrap_or (from_hunt h) []

-- the reports at the release points of these ticks
abbrev pub points : History → List (List LaneReport)
points h = map (λ m. m.reports) (filter (λ m. m.decides) h)

-- where the receiver stands before the tick that comes: by its decisions since its reset
unfoldable pub standing : Plan → History → Standing
standing s h = standing_from s.link.params s.link.timing begin
    (points (drop (last_reset s Rx (length h)) h))
