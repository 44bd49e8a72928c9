use Rattle.std.proofs.Common.{◌∙◌, sym, refl, arith}
use Rattle.multiblock.proofs.SyncLemmas.{fec-word, then, bit-alone, pilot-bits, by-shift-zero}
use Rattle.multiblock.proofs.sync_words.fec_word.Goals as goal

pub returns : goal.returns
returns c = λ cmd.
    then (c.append.ensures 27 (omega arith))
    (then (c.append-word-2.ensures 23 (omega arith))
    (then (c.append-word.ensures 22 (omega arith)) refl (bit-alone c.from.result c.args.end c.from.ensures))
    (by-shift-zero 4 c.args.check))
    pilot-bits
    ∙ sym (fec-word c.args.check cmd c.args.end)
