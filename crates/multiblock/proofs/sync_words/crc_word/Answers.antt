use Rattle.std.proofs.Common.{◌≡◌, ◌/◌, ◌^◌, ◌∷◌, [], true, ℕ, ap, ◌∙◌, sym, refl, arith}
use Rattle.jesd_base.specs.Bits.{bits}
use Rattle.multiblock.proofs.SyncLemmas.{crc-word, then, bit-alone, pilot-bits, by-shift-zero}
use Rattle.multiblock.proofs.sync_words.crc_word.Goals as goal

pub returns : goal.returns
returns c =
    let one : bits 1 1 ≡ true ∷ [] = bit-alone 1 true refl in
    let cmd : (n k : ℕ) → bits n (c.from-cmd.result / 2 ^ k) ≡ bits n (c.args.cmd / 2 ^ k) = λ n k. ap (λ t. bits n (t / 2 ^ k)) c.from-cmd.ensures in
    (then (c.append.ensures 27 (omega arith))
    (then (c.append-word-14.ensures 24 (omega arith))
    (then (c.append-word-13.ensures 23 (omega arith))
    (then (c.append-word-12.ensures 22 (omega arith))
    (then (c.append-word-11.ensures 21 (omega arith))
    (then (c.append-word-10.ensures 20 (omega arith))
    (then (c.append-word-9.ensures 19 (omega arith))
    (then (c.append-word-8.ensures 16 (omega arith))
    (then (c.append-word-7.ensures 15 (omega arith))
    (then (c.append-word-6.ensures 12 (omega arith))
    (then (c.append-word-5.ensures 11 (omega arith))
    (then (c.append-word-4.ensures 8 (omega arith))
    (then (c.append-word-3.ensures 7 (omega arith))
    (then (c.append-word-2.ensures 4 (omega arith))
    (then (c.append-word.ensures 3 (omega arith))
    refl
    one)
    refl)
    one)
    refl)
    one)
    (by-shift-zero 3 c.args.check))
    one)
    (cmd 3 4))
    one)
    (cmd 1 3))
    one)
    (bit-alone c.from.result c.args.end c.from.ensures))
    one)
    (by-shift-zero 3 c.from-cmd.result ∙ cmd 3 0))
    pilot-bits)
    ∙ sym (crc-word c.args.check c.args.cmd c.args.end)
