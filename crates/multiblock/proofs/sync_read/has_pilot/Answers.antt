use Rattle.std.proofs.Common.{◌==◌, ◌∙◌, ap}
use Rattle.std.proofs.lemmas.Nat.{and_mask}
use Rattle.multiblock.proofs.SyncLemmas.{has-pilot}
use Rattle.multiblock.proofs.sync_read.has_pilot.Goals as goal

pub returns : goal.returns
returns c =
    let b = c.bits_and_numbers.ensures in
    ap (λ t. t == 1) (and_mask c.args.word 5) ∙ has-pilot b.value_of_bits b.bits_of_value b.length b.both c.args.word
