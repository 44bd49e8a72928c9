-- Laws of a remainder that is multiplied or divided by x.
-- Code: none of this is computed.
use Rattle.std.specs.Prelude.{◌≡◌, ℕ, ◌^◌, ◌<◌, Bool, List, length}
use Rattle.fire_fec.specs.kept.Shifting.{times_x, over_x, trapped}
use Rattle.fire_fec.specs.kept.Taking.{times_power}
use Rattle.jesd_base.specs.Bits.{value}
use Rattle.jesd_base.specs.Division.{rem}
use Rattle.fire_fec.specs.Burst.{fire, burst}

-- times x is the remainder by long division, a number of 26 bits
abbrev pub TimesXIsRemainder : Type 0
TimesXIsRemainder = (r : ℕ) → r < 2 ^ 26 → (times_x r ≡ times_power 1 r) × (times_x r < 2 ^ 26)

-- times x and over x undo each other on numbers of 26 bits
abbrev pub TimesAndOverUndo : Type 0
TimesAndOverUndo = (r : ℕ) → r < 2 ^ 26
    → (over_x (times_x r) ≡ r) × (times_x (over_x r) ≡ r) × (over_x r < 2 ^ 26)

-- the burst of a word is that of its remainder
abbrev pub BurstIsTrapped : Type 0
BurstIsTrapped = (v : List Bool) → length v ≡ 2074 → burst v ≡ trapped (value (rem fire v))
