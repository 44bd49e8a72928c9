use Rattle.std.proofs.Common.{get_or, refl}
use Rattle.line_model.proofs.RunLemmas.{run-more, run-start}
use Rattle.line_model.proofs.line.Line.run_blocks.Goals as goal

pub loop-i-init : goal.loop-i-init
loop-i-init c = run-start 66 c.args.self.now c.args.blocks.now

pub loop-i-preserved : goal.loop-i-preserved
loop-i-preserved c =
    run-more 66 c.args.self.now c.loop-i.self c.step.new.self c.args.blocks.now c.loop-i.blocks
    c.loop-i.i (get_or c.loop-i.blocks c.loop-i.i 0) c.step.result c.requires.width
    c.loop-i-test.true c.loop-i.auto.blocks c.loop-i.invariant refl
    c.step.ensures.answer c.step.ensures.below c.step.ensures.settings c.step.ensures.goes_on
