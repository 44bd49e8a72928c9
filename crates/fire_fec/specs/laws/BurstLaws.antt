-- Laws of bursts.
-- Code: none of this is computed.
use Rattle.std.specs.Prelude.{◌≡◌, ℕ, ◌<◌, ◌≤◌, Bool, true, false, List, length, Some}
use Rattle.jesd_base.specs.Bits.{all_zero}
use Rattle.jesd_base.specs.Division.{rem}
use Rattle.fire_fec.specs.Burst.{fire, fits, explains, burst_added, burst}

-- two pairs that explain one word are one
abbrev pub OnlyPair : Type 0
OnlyPair = (v : List Bool) (s t m n : ℕ) → length v ≡ 2074 → s < 2074 → t < 2074 → 256 ≤ m → m < 512 → 256 ≤ n → n < 512
    → explains v s m ≡ true → explains v t n ≡ true → (s ≡ t) × (m ≡ n)

-- one burst that is added to a word of remainder 0 leaves another remainder, is the one that is found, and is taken out by
-- adding it again
abbrev pub OneBurstIsFound : Type 0
OneBurstIsFound = (v : List Bool) (s m : ℕ) → length v ≡ 2074 → s < 2074 → 256 ≤ m → m < 512 → fits 2074 s m ≡ true
    → all_zero (rem fire v) ≡ true
    → (all_zero (rem fire (burst_added v s m)) ≡ false)
    × (burst (burst_added v s m) ≡ Some (record { start = s; mask = m }))
    × (burst_added (burst_added v s m) s m ≡ v)
