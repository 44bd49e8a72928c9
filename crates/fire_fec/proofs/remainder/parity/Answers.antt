use Rattle.std.proofs.Common.{take, arith}
use Rattle.fire_fec.specs.Corrects.{payload_bits}
use Rattle.fire_fec.proofs.Remainders.{parity-small, parity-none}
use Rattle.fire_fec.proofs.remainder.parity.Goals as goal

pub loop-block-init : goal.loop-block-init
loop-block-init c = parity-none

pub after_block-rest-requires : goal.after_block-rest-requires
after_block-rest-requires c =
    let small = parity-small (payload_bits (take c.loop-block.block-index c.args.payload.now)) in
    omega (arith, c.loop-block.invariant)

pub returns-clause-below : goal.returns-clause-below
returns-clause-below c =
    let l = c.loop-block in
    rw l.invariant (parity-small (payload_bits (take l.block-index c.args.payload.now)))
