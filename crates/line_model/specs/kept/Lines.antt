-- What a line keeps of the bits that were put in. `at` counts words, `next` flips and `first` bits.
-- Code: the fields themselves.
use Rattle.std.specs.Prelude.{◌≡◌, ℕ, ◌+◌, ◌-◌, ◌*◌, ◌/◌, ◌%◌, ◌^◌, ◌<◌, ◌≤◌, Bool, false, if◌then◌else◌, nat_lt, List, length, get_or, take}
use Rattle.jesd_base.specs.Bits.{value}
use Rattle.line_model.specs.LineBits.{Settings, is_flipped}

-- a line is seen as its settings, a ring of the last words with the place of the next, and the next flip with the number of the
-- next bit
pub record Kept : Type 0 where
  pub set : Settings
  pub words : List ℕ
  pub at : ℕ
  pub next : ℕ
  pub first : ℕ

-- what comes at bit i, and 0 before the delay is over
abbrev pub arrived : ℕ → ℕ → Bool → Bool
arrived delay i b = if nat_lt i delay then false else b

-- the ring holds the last words of w bits of the number of all bits
pub record Ring (words : List ℕ) (at w v : ℕ) : Type 0 where
  pub newer : (k : ℕ) → k < at → get_or words k 0 ≡ v / 2 ^ (w * (at - 1 - k)) % 2 ^ w
  pub older : (k : ℕ) → at ≤ k → k < length words → get_or words k 0 ≡ v / 2 ^ (w * (at + length words - 1 - k)) % 2 ^ w

-- the flips before the next one are below n, and while there is a next one n is counted
pub record Counted (flips : List ℕ) (next first n : ℕ) : Type 0 where
  pub passed : (i : ℕ) → n ≤ i → is_flipped (take next flips) i ≡ false
  pub count : next < length flips → first ≡ n

-- the line is set so, and since it was opened these bits were put in
pub record HasCarried (now : Kept) (s : Settings) (sent : List Bool) : Type 0 where
  pub keeps_settings : now.set ≡ s
  pub keeps_ticks : length sent % s.width ≡ 0
  pub keeps_words : Ring now.words now.at s.width (value sent)
  pub keeps_flips : Counted s.flips now.next now.first (length sent)
