use Rattle.std.proofs.Common.{refl}
use Rattle.link_model.specs.Orders.{after_low}
use Rattle.link_run.proofs.alignment.Alignment.new.Goals as goal

pub returns-clause-begins : goal.returns-clause-begins
unfolding after_low
returns-clause-begins c = λ p. refl
