use Rattle.block_66b.proofs.BlockLemmas.{header-of}
use Rattle.block_66b.proofs.block.sync_bit.Goals as goal

pub returns : goal.returns
returns c = header-of c.args.block c.requires
