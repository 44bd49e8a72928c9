use Rattle.scenario.proofs.DrawLemmas.{draw-is, state-next}
use Rattle.scenario.proofs.draws.Draws.draw.Goals as goal

pub returns-clause-answer : goal.returns-clause-answer
returns-clause-answer c = λ number k is.
    rw c.from.ensures
    (draw-is number k _ c.args.below (state-next number k c.args.self.now.state is))

pub returns-clause-state : goal.returns-clause-state
returns-clause-state c = λ number k is. state-next number k c.args.self.now.state is
