use Rattle.std.proofs.Common.{◌++◌, ◌∙◌, ap₂, sym, List, Bool, arith}
use Rattle.multiblock.proofs.SyncLemmas.{crc-check, read-number}
use Rattle.multiblock.proofs.sync_read.crc_check.Goals as goal

pub returns-clause-check : goal.returns-clause-check
returns-clause-check c =
    let b = c.bits_and_numbers.ensures in
    read-number b.value_of_bits b.bits_of_value b.length b.both 12 c.append.result _
    (c.append.ensures 6 (omega arith)
    ∙ ap₂ {C = List Bool} (λ x y. x ++ y) (c.append-high.ensures 3 (omega arith)) (c.append-low.ensures 3 (omega arith))
    ∙ sym (crc-check c.args.word))
