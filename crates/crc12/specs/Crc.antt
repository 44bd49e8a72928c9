-- CRC-12 of a 64b/66b multiblock (JESD204C.1, 64b/66b link layer, cyclic redundancy check; the
-- divisor, the start value and the bits that are covered are this project's own).
-- Code: eight tables of 256 entries, one for each byte of a payload.
use Rattle.std.specs.Prelude.{◌≡◌, ℕ, Bool, List, ◌++◌}
use Rattle.jesd_base.specs.Bits.{bits, value, zeros}
use Rattle.jesd_base.specs.Division.{rem}

-- the divisor x^12 + x^9 + x^8 + x^3 + x^2 + x + 1, without its first bit
unfoldable pub divisor : List Bool
divisor = bits 12 0x30F

-- the check of payload bits: the remainder of them with twelve zeros behind them
abbrev pub crc : List Bool → List Bool
crc payload = rem divisor (payload ++ zeros 12)

-- since it was made a check took these bits; it is seen as the number of its value
pub record HasTaken (now : ℕ) (taken : List Bool) : Type 0 where
  pub value : now ≡ value (crc taken)
