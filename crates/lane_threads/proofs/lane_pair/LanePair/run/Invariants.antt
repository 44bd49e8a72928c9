use Rattle.lane_threads.specs.Segments.{HasRunTo}
use Rattle.lane_threads.proofs.lane_pair.LanePair.run.Given as goal

abbrev pub invariant-loop-n : goal.invariant-loop-n
invariant-loop-n l = HasRunTo l.n l.steps l.gives l.fn.self l.self
