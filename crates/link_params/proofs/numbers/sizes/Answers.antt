use Rattle.link_params.proofs.LawFacts.{legal_sizes}
use Rattle.link_params.proofs.numbers.sizes.Goals as goal

pub returns : goal.returns
returns c = legal_sizes
