use Rattle.std.proofs.Common.{◌≡◌, ◌+◌, [], drop, take}
use Rattle.scenario.specs.Check.{lowest}
use Rattle.scenario.specs.Reads.{are_lanes}
use Rattle.scenario.proofs.wiring.first_repeated.Given as goal

abbrev pub invariant-loop-at : goal.invariant-loop-at
invariant-loop-at l =
    lowest (l.at + 1) (are_lanes l.limit (take l.at l.lanes) (drop l.at l.lanes))
    ≡ lowest 1 (are_lanes l.limit [] l.lanes)
