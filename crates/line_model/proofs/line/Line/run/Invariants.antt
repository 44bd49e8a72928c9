use Rattle.line_model.proofs.RunLemmas.{HasRun}
use Rattle.line_model.proofs.line.Line.run.Given as goal

abbrev pub invariant-loop-i : goal.invariant-loop-i
invariant-loop-i l = HasRun 10 l.fn.self l.self l.fn.words l.words l.i
