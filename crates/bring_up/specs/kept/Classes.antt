-- The classes of alarms of lanes, by name.
-- Code: an enum, and one lane at a time.
use Rattle.std.specs.Prelude.{ℕ, List, [], ◌∷◌, Option, Some, None}
use Rattle.link_params.specs.declared.fields.Params.{Params}
use Rattle.link_params.specs.declared.fields.Timing.{Timing}
use Rattle.link_params.specs.declared.lane_report.LaneReport.{LaneReport}
use Rattle.link_params.specs.declared.alarms.Alarm.{Alarm}
use Rattle.bring_up.specs.declared.class.Class.{Class}
use Rattle.bring_up.specs.declared.class.Class.TheVariants.{NotLocked, Lost, Faulty, Outside, Missing}
use Rattle.bring_up.specs.Decisions.{no_lock, lane_lost, ilas_fault, lane_window, lane_missing}

-- what a class raises for a lane
abbrev pub class_alarm : Params → Timing → Class → ℕ → LaneReport → List Alarm
class_alarm p t NotLocked lane r = no_lock lane r
class_alarm p t Lost lane r = lane_lost lane r
class_alarm p t Faulty lane r = ilas_fault p lane r
class_alarm p t Outside lane r = lane_window t lane r
class_alarm p t Missing lane r = lane_missing lane r

-- none or one
abbrev pub listed : Option Alarm → List Alarm
listed None = []
listed (Some alarm) = alarm ∷ []
