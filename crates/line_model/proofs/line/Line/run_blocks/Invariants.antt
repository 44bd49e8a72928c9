use Rattle.line_model.proofs.RunLemmas.{HasRun}
use Rattle.line_model.proofs.line.Line.run_blocks.Given as goal

abbrev pub invariant-loop-i : goal.invariant-loop-i
invariant-loop-i l = HasRun 66 l.fn.self l.self l.fn.blocks l.blocks l.i
