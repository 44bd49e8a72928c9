-- The same burst, found from the remainder of the word alone. The remainder is a number of 26 bits.
-- Code: from the last start back: the remainder is divided by x until nine bits are left.
use Rattle.std.specs.Prelude.{ℕ, zero, suc, ◌*◌, ◌/◌, ◌%◌, ◌==◌, nat_lt, nat_le, Bool, true, false, ◌&&◌, Option, Some, None, if◌then◌else◌, bit_xor}
use Rattle.fire_fec.specs.Burst.{Burst, fits}

-- the remainder of r times x
unfoldable pub times_x : ℕ → ℕ
times_x r = if nat_lt r 0x2000000 then 2 * r else bit_xor (2 * r) 0x4220211

-- the remainder of r times x^n
unfoldable pub times_pow : ℕ → ℕ → ℕ
times_pow zero r = r
times_pow (suc n) r = times_pow n (times_x r)

-- the remainder whose product with x is r
unfoldable pub over_x : ℕ → ℕ
over_x r = if r % 2 == 1 then bit_xor r 0x4220211 / 2 else r / 2

unfoldable pub over_pow : ℕ → ℕ → ℕ
over_pow zero r = r
over_pow (suc n) r = over_pow n (over_x r)

-- nine bits, the first of them 1, that fit into 2,074 bits at a place
unfoldable pub is_mask_at : ℕ → ℕ → Bool
is_mask_at start mask = nat_le 256 mask && nat_lt mask 512 && fits 2074 start mask

-- the first of n places from one on, at which the remainder, multiplied by x from place to place, is a mask
unfoldable pub trapped_from : ℕ → ℕ → ℕ → Option Burst
trapped_from zero start r = None
trapped_from (suc n) start r =
    elim (is_mask_at start r) as (λ b. Option Burst) [ true ↦ Some (record { start = start; mask = r }) | false ↦ trapped_from n (suc start) (times_x r) ]

-- the burst whose remainder is r, in a word of 2,074 bits
unfoldable pub trapped : ℕ → Option Burst
trapped r = trapped_from 2074 0 (over_pow 2065 r)
