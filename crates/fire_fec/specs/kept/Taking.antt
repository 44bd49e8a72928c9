-- What a remainder becomes when it is multiplied by powers of x and takes blocks in (JESD204C.1,
-- 64b/66b link layer, forward error correction). A remainder is a number of 26 bits, of which bit
-- 25 has the highest power.
-- Code: a block at once by eight tables of octets, and a shift of a u32.
use Rattle.std.specs.Prelude.{ℕ, ◌++◌}
use Rattle.jesd_base.specs.Bits.{bits, value, zeros}
use Rattle.jesd_base.specs.Division.{add_bits, rem}
use Rattle.fire_fec.specs.Burst.{fire}

-- the remainder of r times x^n
abbrev pub times_power : ℕ → ℕ → ℕ
times_power n r = value (rem fire (bits 26 r ++ zeros n))

-- the remainder of r times x^64 plus the 64 bits of a block times x^26
abbrev pub block_taken : ℕ → ℕ → ℕ
block_taken r block =
    value (rem fire (add_bits (bits 26 r ++ zeros 64) (bits 64 block ++ zeros 26)))
