use Rattle.std.proofs.Common.{◌≡◌, true, replicate}
use Rattle.link_run.proofs.sync_line.SyncLine.open.Given as goal

abbrev pub invariant-loop : goal.invariant-loop
invariant-loop l = (l.levels.items ≡ replicate l.counter true) × (l.levels.capacity ≡ l.room)
