use Rattle.std.proofs.Common.{◌≡◌}
use Rattle.scenario.specs.Plans.{inverted_lanes}
use Rattle.scenario.proofs.finish.inverted_lanes.Given as goal

abbrev pub invariant-loop-lane : goal.invariant-loop-lane
invariant-loop-lane l = l.lanes.items ≡ inverted_lanes l.lane l.polarities
