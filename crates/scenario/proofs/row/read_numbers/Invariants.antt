use Rattle.std.proofs.Common.{◌≡◌, ◌+◌, ◌-◌, length, take}
use Rattle.scenario.specs.Check.{lowest}
use Rattle.scenario.specs.Reads.{texts_of, are_numbers, numbers_in_fields}
use Rattle.scenario.proofs.row.read_numbers.Given as goal

abbrev pub invariant-loop-slot : goal.invariant-loop-slot
invariant-loop-slot l = (l.at ≡ l.fn.from + l.slot-index)
    × (take l.slot-index l.numbers ≡ numbers_in_fields l.fn.from l.slot-index (texts_of l.row))
    × (lowest l.at (are_numbers l.at (length l.numbers - l.slot-index) (texts_of l.row))
    ≡ lowest l.fn.from (are_numbers l.fn.from (length l.numbers) (texts_of l.row)))
