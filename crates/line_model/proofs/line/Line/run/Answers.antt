use Rattle.line_model.proofs.RunLemmas.{run-more, run-start}
use Rattle.line_model.proofs.line.Line.run.Goals as goal

pub loop-i-init : goal.loop-i-init
loop-i-init c = run-start 10 c.args.self.now c.args.words.now

pub loop-i-preserved : goal.loop-i-preserved
loop-i-preserved c =
    run-more 10 c.args.self.now c.loop-i.self c.step.new.self c.args.words.now c.loop-i.words
    c.loop-i.i c.from.result c.step.result c.requires.width c.loop-i-test.true c.loop-i.auto.words
    c.loop-i.invariant c.from.ensures
    c.step.ensures.answer c.step.ensures.below c.step.ensures.settings c.step.ensures.goes_on
