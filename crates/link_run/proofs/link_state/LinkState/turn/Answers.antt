use Rattle.std.proofs.Common.{sym, subst}
use Rattle.link_run.specs.kept.LinkStates.{HasReportedBefore}
use Rattle.link_run.proofs.LinkRuns.{has-turned}
use Rattle.link_run.proofs.link_state.LinkState.turn.Goals as goal

pub returns-clause-turned : goal.returns-clause-turned
returns-clause-turned c = λ s t m h.
    rw (c.swap.ensures.x_after, c.swap.ensures.y_after)
    (has-turned _ s t m (subst (λ v. HasReportedBefore v s t m) (sym c.self.view_is) h))
