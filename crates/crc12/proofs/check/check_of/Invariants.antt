use Rattle.std.proofs.Common.{◌≡◌, ◌*◌, ◌<◌, ◌^◌}
use Rattle.jesd_base.specs.Bits.{bits, value}
use Rattle.crc12.specs.Crc.{crc}
use Rattle.crc12.proofs.check.check_of.Given as goal

abbrev pub invariant-loop-behind : goal.invariant-loop-behind
invariant-loop-behind l = (l.check ≡ value (crc (bits (8 * l.behind) l.word))) × (l.check < 2 ^ 12)
