use Rattle.std.proofs.Common.{refl}
use Rattle.jesd_base.specs.Bits.{zeros}
use Rattle.jesd_base.specs.Division.{divide, rem}
use Rattle.jesd_base.specs.Bits.{bits}
use Rattle.crc12.specs.Crc.{divisor}
use Rattle.crc12.proofs.check.Crc12.new.Goals as goal

pub returns : goal.returns
unfolding bits zeros divide rem divisor
returns c = record { value = refl }
