-- The bits that come out of a lane's line, by all bits that were put in (this project's own model
-- of a lane between the devices: a delay in bits, inverted bits by their numbers, and ticks in
-- which it is dead).
-- Code: a ring of words.
use Rattle.std.specs.Prelude.{ℕ, zero, suc, ◌-◌, ◌==◌, nat_lt, Bool, false, ◌||◌, if◌then◌else◌, List, [], ◌∷◌, map, length, get_or}
use Rattle.std.specs.List.{list_any}
use Rattle.jesd_base.specs.Bits.{add}

-- n numbers from a on
unfoldable pub numbers_from : ℕ → ℕ → List ℕ
numbers_from a zero = []
numbers_from a (suc n) = a ∷ numbers_from (suc a) n

-- the received bit i is one of those that are inverted
abbrev pub is_flipped : List ℕ → ℕ → Bool
is_flipped flips i = list_any (λ f. f == i) flips

-- received bit i: 0 where the line is dead or i is below the delay d; else sent bit i - d, inverted where i is one of the flips
abbrev pub line_bit : List Bool → List ℕ → ℕ → Bool → ℕ → Bool
line_bit sent flips d dead i =
    let carried = add (get_or sent (i - d) false) (is_flipped flips i) in if dead || nat_lt i d then false else carried

-- the received bits of the last tick, of w bits, where these bits were sent up to its end
unfoldable pub line_word : ℕ → List Bool → List ℕ → ℕ → Bool → List Bool
line_word w sent flips d dead = map (line_bit sent flips d dead) (numbers_from (length sent - w) w)

-- how a line is set: the bits of a tick, the greatest delay, the delay in force, whether it is dead, and the received bits
-- that are inverted
pub record Settings : Type 0 where
  pub width : ℕ
  pub reach : ℕ
  pub delay : ℕ
  pub dead : Bool
  pub flips : List ℕ
