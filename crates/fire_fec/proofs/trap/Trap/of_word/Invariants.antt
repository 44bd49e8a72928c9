use Rattle.std.proofs.Common.{◌≡◌, ◌+◌, take}
use Rattle.jesd_base.specs.Bits.{value}
use Rattle.fire_fec.specs.Burst.{parity}
use Rattle.fire_fec.specs.Corrects.{payload_bits}
use Rattle.fire_fec.proofs.trap.Trap.of_word.Given as goal

abbrev pub invariant-loop-block : goal.invariant-loop-block
invariant-loop-block g l = record {
  trap : l.trap ≡ value (parity (payload_bits (take l.block-index l.payload)));
  steps : l.steps ≡ l.fn.steps + l.block-index;
}
