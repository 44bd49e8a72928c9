use Rattle.std.proofs.Common.{◌≡◌, ◌≤◌, ◌+◌, ◌++◌, length, take}
use Rattle.bring_up.specs.kept.Classes.{class_alarm}
use Rattle.bring_up.specs.Decisions.{alarms_from}
use Rattle.bring_up.proofs.class.Class.raise.Given as goal

abbrev pub invariant-loop-lane : goal.invariant-loop-lane
invariant-loop-lane l = record {
  raised : l.alarms ≡ l.initial.alarms ++ alarms_from 0 (class_alarm l.link.params l.link.timing l.fn.self) (take l.lane l.reports);
  room : length l.alarms ≤ length l.initial.alarms + l.lane;
}
