use Rattle.link_run.proofs.Filling.{AreFilling}
use Rattle.link_run.proofs.collector.fill_each.Given as goal

abbrev pub invariant-loop-lane : goal.invariant-loop-lane
invariant-loop-lane l = AreFilling l.fn.waiting l.waiting l.fn.ends l.ends l.route l.lane
