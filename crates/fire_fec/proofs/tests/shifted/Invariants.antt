use Rattle.std.proofs.Common.{◌≡◌, ◌+◌}
use Rattle.fire_fec.proofs.tests.shifted.Given as goal

abbrev pub invariant-loop-block : goal.invariant-loop-block
invariant-loop-block g l = l.steps ≡ l.fn.steps + l.block-index

abbrev pub invariant-loop-shifts : goal.invariant-loop-shifts
invariant-loop-shifts g l = l.steps ≡ l.fn.steps + 32 + l.shifts
