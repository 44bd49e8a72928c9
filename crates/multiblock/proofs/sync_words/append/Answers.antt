use Rattle.std.proofs.Common.{◌≡◌, ◌+◌, ◌-◌, ◌*◌, ◌%◌, ◌^◌, ◌<◌, ap, ◌∙◌, bit_and, arith}
use Rattle.std.specs.Prelude.{bit_or}
use Rattle.std.proofs.Math.Nat.{mod-eq_of_lt}
use Rattle.std.proofs.Math.Pow.{pow-lt}
use Rattle.jesd_base.specs.Bits.{bits}
use Rattle.multiblock.proofs.SyncLemmas.{bits-append}
use Rattle.multiblock.proofs.sync_words.append.Goals as goal

pub returns : goal.returns
returns c = λ n within.
    let b = c.bits_and_numbers.ensures in
    let size = c.args.size in
    let small : 2 ^ size < 2 ^ 32 = pow-lt c.requires in
    let mask : 1 * 2 ^ size % 2 ^ 32 ≡ 2 ^ size = ap (λ t. t % 2 ^ 32) (let e : 1 * 2 ^ size ≡ 2 ^ size = omega arith in e) ∙ mod-eq_of_lt small in
    ap (λ t. bits (n + size) (bit_or (c.args.word * 2 ^ size % 2 ^ 32) (bit_and c.args.part (t - 1)))) mask
    ∙ bits-append b.value_of_bits b.bits_of_value b.length b.both n size c.args.word c.args.part within
