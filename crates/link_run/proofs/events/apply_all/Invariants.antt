use Rattle.std.proofs.Common.{take}
use Rattle.link_run.proofs.EventLemmas.{HasApplied}
use Rattle.link_run.proofs.events.apply_all.Given as goal

abbrev pub invariant-loop-event : goal.invariant-loop-event
invariant-loop-event l = HasApplied l.fn.lanes l.lanes (take l.event-index l.events)
