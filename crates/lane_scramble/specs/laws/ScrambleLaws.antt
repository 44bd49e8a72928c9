-- Laws of scrambling, over lists of bits.
-- Code: none of this is computed.
use Rattle.std.specs.Prelude.{◌≡◌, ℕ, ◌<◌, ◌≤◌, Bool, List, ◌++◌, length, take, drop, reverse}
use Rattle.lane_scramble.specs.Scrambling.{scrambled, descrambled}

-- descrambling after the same earlier bits gives the bits back
abbrev pub DescrambledAgain : Type 0
DescrambledAgain = (a b : ℕ) (past xs : List Bool) → descrambled a b past (scrambled a b past xs) ≡ xs

-- after n received bits the earlier ones don't matter, where no tap is above n
abbrev pub ForgetsEarlier : Type 0
ForgetsEarlier = (a b n : ℕ) (past other xs ys : List Bool) → 0 < a → 0 < b → a ≤ n → b ≤ n → n ≤ length xs
    → drop (length xs) (descrambled a b past (xs ++ ys)) ≡ drop (length xs) (descrambled a b other (xs ++ ys))

-- of the earlier bits only the last n matter, where no tap is above n
abbrev pub OnlyLastMatter : Type 0
OnlyLastMatter = (a b n : ℕ) (past xs : List Bool) → 0 < a → 0 < b → a ≤ n → b ≤ n → n ≤ length past
    → (scrambled a b past xs ≡ scrambled a b (take n past) xs) × (descrambled a b past xs ≡ descrambled a b (take n past) xs)

-- a list may be scrambled in parts, and descrambled
abbrev pub GoesInParts : Type 0
GoesInParts = (a b : ℕ) (past xs ys : List Bool)
    → (scrambled a b past (xs ++ ys) ≡ scrambled a b past xs ++ scrambled a b (reverse (scrambled a b past xs) ++ past) ys)
    × (descrambled a b past (xs ++ ys) ≡ descrambled a b past xs ++ descrambled a b (reverse xs ++ past) ys)

abbrev pub KeepLength : Type 0
KeepLength = (a b : ℕ) (past xs : List Bool)
    → (length (scrambled a b past xs) ≡ length xs) × (length (descrambled a b past xs) ≡ length xs)

-- a part is descrambled with the part before it alone, where that is as long as the taps reach
abbrev pub PartBefore : Type 0
PartBefore = (a b : ℕ) (past before own : List Bool) → 0 < a → 0 < b → a ≤ length before → b ≤ length before
    → descrambled a b (reverse (scrambled a b past before)) (scrambled a b (reverse (scrambled a b past before) ++ past) own) ≡ own
