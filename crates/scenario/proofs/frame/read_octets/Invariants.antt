use Rattle.std.proofs.Common.{◌≡◌, ◌++◌, map, drop}
use Rattle.scenario.specs.Check.{lowest}
use Rattle.scenario.specs.Reads.{texts_of, is_octets, all_octets}
use Rattle.scenario.proofs.frame.read_octets.Given as goal

abbrev pub invariant-loop-at : goal.invariant-loop-at
invariant-loop-at l =
    (lowest l.at (map (is_octets l.shape.f) (drop l.at (texts_of l.row)))
    ≡ lowest 1 (map (is_octets l.shape.f) (drop 1 (texts_of l.row))))
    × (l.octets.items ++ all_octets (drop l.at (texts_of l.row)) ≡ l.fn.octets.items
    ++ all_octets (drop 1 (texts_of l.row)))
