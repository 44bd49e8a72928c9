-- The counts of faults that a receiver lane keeps, as contracts see them.
-- Code: the fields themselves.
use Rattle.std.specs.Prelude.{◌≡◌, ℕ, suc, ◌+◌, ◌*◌, min, Bool, true, false, ◌||◌, List, [], ◌∷◌, reverse, take}
use Rattle.jesd_base.specs.Bits.{bit}
use Rattle.lane_b.specs.Loss.{has_four_faults, has_four_misplaced}

-- the last sixteen faults as a number, the misplaced alignment characters since the last accepted one up to four, and whether the lane
-- is lost
pub record Counter : Type 0 where
  pub faults : ℕ
  pub misplaced : ℕ
  pub lost : Bool

-- the number of a list of bits, the lowest first
unfoldable pub number : List Bool → ℕ
number [] = 0
number (b ∷ bs) = bit b + 2 * number bs

-- how many of the alignment characters were misplaced since the last accepted one, after n such before them
unfoldable pub misplaced_after : ℕ → List Bool → ℕ
misplaced_after n [] = n
misplaced_after n (true ∷ bs) = misplaced_after 0 bs
misplaced_after n (false ∷ bs) = misplaced_after (suc n) bs

-- a lane has had these faults, and these alignment characters, each accepted or misplaced
pub record HasCounted (now : Counter) (faults alignments : List Bool) : Type 0 where
  pub last : now.faults ≡ number (take 16 (reverse faults))
  pub misplaced : now.misplaced ≡ min 4 (misplaced_after 0 alignments)
  pub lost : now.lost ≡ (has_four_faults faults || has_four_misplaced alignments)
