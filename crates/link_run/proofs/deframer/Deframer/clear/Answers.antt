use Rattle.std.proofs.Common.{ap, refl, ◌∙◌}
use Rattle.link_run.proofs.Gathering.{gathered-nothing}
use Rattle.link_run.proofs.deframer.Deframer.clear.Goals as goal

pub returns-clause-begins : goal.returns-clause-begins
returns-clause-begins c = λ p columns had.
    gathered-nothing _ p (ap (λ v. v.params) c.self.view_is ∙ had.same_params) refl refl
