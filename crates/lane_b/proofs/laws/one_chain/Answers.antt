use Rattle.lane_b.proofs.OneChain.{spells-one_chain}
use Rattle.lane_b.proofs.laws.one_chain.Goals as goal

pub returns : goal.returns
returns c = spells-one_chain
