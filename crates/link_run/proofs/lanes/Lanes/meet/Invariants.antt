use Rattle.link_run.proofs.LaneLemmas.{HaveMet}
use Rattle.link_run.proofs.lanes.Lanes.meet.Given as goal

abbrev pub invariant-loop-lane : goal.invariant-loop-lane
invariant-loop-lane l = HaveMet l.initial.self-inside.pairs.items l.self-inside.pairs.items
    l.initial.ends l.ends l.lane
