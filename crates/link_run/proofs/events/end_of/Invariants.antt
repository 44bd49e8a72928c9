use Rattle.std.proofs.Common.{◌≤◌, ◌+◌, ◌-◌, length}
use Rattle.link_run.proofs.EventLemmas.{passed}
use Rattle.link_run.proofs.events.end_of.Given as goal

abbrev pub invariant-loop-end : goal.invariant-loop-end
invariant-loop-end l = (passed l.t l.events ≤ l.end) × (l.end ≤ passed (l.t + 1) l.events)

abbrev pub decreases-loop-end : goal.decreases-loop-end
decreases-loop-end l = length l.events - l.end
