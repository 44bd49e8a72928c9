use Rattle.std.proofs.Common.{◌≡◌, replicate}
use Rattle.link_params.specs.Numbers.{period}
use Rattle.link_run.proofs.TakenCells.{empty_room}
use Rattle.link_run.proofs.collector.open_waiting.Given as goal

abbrev pub invariant-loop : goal.invariant-loop
invariant-loop l = l.waiting.items ≡ replicate l.counter (empty_room (period l.fn.shape))
