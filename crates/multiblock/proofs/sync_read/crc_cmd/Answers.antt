use Rattle.std.proofs.Common.{◌/◌, ◌++◌, ◌∙◌, ap, sym, arith}
use Rattle.jesd_base.specs.Bits.{bits}
use Rattle.multiblock.proofs.SyncLemmas.{crc-cmd, read-number}
use Rattle.multiblock.proofs.sync_read.crc_cmd.Goals as goal

pub returns : goal.returns
returns c =
    let b = c.bits_and_numbers.ensures in
    read-number b.value_of_bits b.bits_of_value b.length b.both 7 c.append.result _
    (c.append.ensures 4 (omega arith)
    ∙ ap (λ x. x ++ bits 3 (c.args.word / 32)) (c.append-high.ensures 3 (omega arith))
    ∙ sym (crc-cmd c.args.word))
