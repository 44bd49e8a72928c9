use Rattle.std.proofs.Common.{◌≡◌, ◌<◌, ◌≤◌, ◌^◌, take}
use Rattle.jesd_base.specs.Bits.{bits, value}
use Rattle.jesd_base.specs.Division.{rem}
use Rattle.jesd_base.proofs.poly.Poly.rem.Given as goal

abbrev pub invariant-loop-bit : goal.invariant-loop-bit
invariant-loop-bit l = record {
  remainder : l.register ≡ value (rem (bits l.degree l.divisor) (take l.bit-index l.dividend));
  below : l.register < 2 ^ l.degree;
  fits : 2 ^ l.degree ≤ 2 ^ 31;
}
