use Rattle.std.proofs.Common.{[], if◌then◌else◌, None, sym, ap, subst}
use Rattle.link_run.specs.kept.LaneRuns.{AreAt}
use Rattle.link_run.proofs.LaneStates.{have-same}
use Rattle.link_run.proofs.link_state.clear_if.Goals as goal

pub returns-then-reset-clause-goes_on : goal.returns-then-reset-clause-goes_on
returns-then-reset-clause-goes_on c = λ s runs h.
    have-same _ s _ _
    (λ lane below.
    ap (λ b. record (runs lane) { handed = if b then [] else (runs lane).handed })
    (sym c.if-reset.true)) (c.clear_tx.ensures.goes_on s runs h)

pub returns-then-reset-clause-at : goal.returns-then-reset-clause-at
returns-then-reset-clause-at c = λ p next h. subst (AreAt c.clear_tx.new.self p)
    (ap (λ b. if b then None else next) (sym c.if-reset.true)) (c.clear_tx.ensures.at p next h)

pub returns-else-reset-clause-goes_on : goal.returns-else-reset-clause-goes_on
returns-else-reset-clause-goes_on c = λ s runs h.
    have-same _ s _ _
    (λ lane below.
    ap (λ b. record (runs lane) { handed = if b then [] else (runs lane).handed })
    (sym c.if-reset.false)) h
