-- Ten bits that stand across the words of two ticks.
-- Code: a shift of twenty bits.
use Rattle.std.specs.Prelude.{ℕ, ◌-◌, Bool, List, ◌++◌, take, drop}

-- the ten bits that end `rest` bits before the end of the second word
abbrev pub ten_across : ℕ → List Bool → List Bool → List Bool
ten_across rest last word = take 10 (drop (10 - rest) (last ++ word))
