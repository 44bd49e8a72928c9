-- What a scrambler stands for: a list of bits that it scrambled, or one that it descrambled. A
-- scrambler is seen as the earlier bits that it keeps, the latest first.
-- Code: the bits that are kept are one number.
use Rattle.std.specs.Prelude.{◌≡◌, Bool, List, ◌++◌, take, reverse}
use Rattle.lane_scramble.specs.Scrambling.{scrambled15, scrambled58, start15, start58}

-- since it was made, these bits were scrambled and nothing else was done
pub record HasScrambled15 (now taken : List Bool) : Type 0 where
  pub last : now ≡ take 15 (reverse (scrambled15 taken) ++ start15)

-- since it was made, these bits were descrambled and nothing else was done
pub record HasDescrambled15 (now taken : List Bool) : Type 0 where
  pub last : now ≡ take 15 (reverse taken ++ start15)

pub record HasScrambled58 (now taken : List Bool) : Type 0 where
  pub last : now ≡ take 58 (reverse (scrambled58 taken) ++ start58)

pub record HasDescrambled58 (now taken : List Bool) : Type 0 where
  pub last : now ≡ take 58 (reverse taken ++ start58)
