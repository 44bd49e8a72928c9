use Rattle.std.proofs.Common.{◌≡◌, ◌≤◌, length, vec_capacity}
use Rattle.rtrb.specs.Ring.{known_items}
use Rattle.link_run.proofs.Filling.{IsFilling}
use Rattle.link_run.proofs.waiting.Waiting.fill.Given as goal

abbrev pub invariant-loop-self : goal.invariant-loop-self
invariant-loop-self l = record {
  filling : IsFilling l.fn.self l.self-inside.next l.self-inside.cells.items l.fn.end l.end;
  within : length l.self-inside.cells.items ≤ l.self-inside.room;
  capacity : l.self-inside.room ≤ vec_capacity l.self-inside.cells;
  room : l.self-inside.room ≡ l.fn.self.room;
}

abbrev pub decreases-loop-self : goal.decreases-loop-self
decreases-loop-self l = length (known_items l.end.ring)
