use Rattle.std.proofs.Common.{refl}
use Rattle.jesd_base.specs.Bits.{bits, zeros}
use Rattle.block_66b.proofs.bit_window.BitWindow.new.Goals as goal

pub returns : goal.returns
unfolding bits zeros
returns c = record { keeps_rest = refl; keeps_last = refl }
