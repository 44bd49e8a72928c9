use Rattle.std.proofs.Common.{◌≡◌}
use Rattle.scenario.specs.Plans.{numbers_from}
use Rattle.scenario.proofs.wiring.all_lanes.Given as goal

abbrev pub invariant-loop-lane : goal.invariant-loop-lane
invariant-loop-lane l = l.lanes.items ≡ numbers_from 0 l.lane
