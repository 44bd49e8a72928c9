use Rattle.link_run.proofs.LaneLemmas.{AreWritten, IsReport}
use Rattle.link_run.proofs.lanes.Lanes.report.Given as goal

abbrev pub invariant-loop-lane : goal.invariant-loop-lane
invariant-loop-lane l = AreWritten IsReport l.self-inside.pairs.items l.reports l.lane
