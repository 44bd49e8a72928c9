use Rattle.link_run.proofs.LaneLemmas.{HaveChanged, IsPut}
use Rattle.link_run.proofs.lanes.Lanes.put.Given as goal

abbrev pub invariant-loop-lane : goal.invariant-loop-lane
invariant-loop-lane l = HaveChanged (IsPut l.wire l.i l.handed) l.initial.pair-items l.pair-items l.lane
