use Rattle.std.proofs.Common.{◌∙◌, sym, arith}
use Rattle.multiblock.proofs.SyncLemmas.{fec-check, read-number}
use Rattle.multiblock.proofs.sync_read.fec_check.Goals as goal

pub returns-clause-check : goal.returns-clause-check
returns-clause-check c =
    let b = c.bits_and_numbers.ensures in
    read-number b.value_of_bits b.bits_of_value b.length b.both 26 c.append.result _ (c.append.ensures 22 (omega arith) ∙ sym (fec-check c.args.word))
