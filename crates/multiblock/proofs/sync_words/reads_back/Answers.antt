use Rattle.multiblock.proofs.SyncLemmas.{reads_back}
use Rattle.multiblock.proofs.sync_words.reads_back.Goals as goal

pub returns : goal.returns
returns c = reads_back c.bits_and_numbers.ensures.value_of_bits
