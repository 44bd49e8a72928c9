use Rattle.std.proofs.Common.{◌*◌, arith, sym}
use Rattle.jesd_base.specs.Bits.{bits}
use Rattle.fire_fec.specs.Corrects.{payload_bits}
use Rattle.fire_fec.proofs.Flipping.{block_added, added-past, payload-length}
use Rattle.fire_fec.proofs.flip.add_to_block.Goals as goal

pub returns-then-block-lt32 : goal.returns-then-block-lt32
returns-then-block-lt32 c = block_added c.args.payload.now c.args.block c.args.added (omega arith)

pub returns-else-block-lt32 : goal.returns-else-block-lt32
returns-else-block-lt32 c =
    let l = payload-length c.args.payload.now in
    sym (added-past (payload_bits c.args.payload.now) (bits 64 c.args.added) (64 * c.args.block) (omega arith))
