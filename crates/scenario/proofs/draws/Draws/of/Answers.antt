use Rattle.std.proofs.Common.{refl}
use Rattle.scenario.specs.Generated.{state}
use Rattle.scenario.proofs.draws.Draws.of.Goals as goal

pub returns : goal.returns
unfolding state
returns c = rw c.from.ensures refl
