-- Laws of bits and numbers, for every number and every list of bits.
-- Code: none of this is computed.
use Rattle.std.specs.Prelude.{◌≡◌, ℕ, ◌+◌, ◌*◌, ◌/◌, ◌%◌, ◌^◌, ◌<◌, Bool, List, ◌++◌, length}
use Rattle.jesd_base.specs.Bits.{bits, value, zeros}

abbrev pub BitsLength : Type 0
BitsLength = (n x : ℕ) → length (bits n x) ≡ n

-- the number of the low n bits of x
abbrev pub ValueOfBits : Type 0
ValueOfBits = (n x : ℕ) → value (bits n x) ≡ x % 2 ^ n

-- the bits of a list's number are the list
abbrev pub BitsOfValue : Type 0
BitsOfValue = (bs : List Bool) → bits (length bs) (value bs) ≡ bs

-- n bits have a number below 2^n
abbrev pub ValueBelow : Type 0
ValueBelow = (bs : List Bool) → value bs < 2 ^ length bs

-- the number of two lists, one after the other
abbrev pub ValueOfAppend : Type 0
ValueOfAppend = (xs ys : List Bool) → value (xs ++ ys) ≡ value xs * 2 ^ length ys + value ys

-- the bits of a number that is put together from two
abbrev pub BitsOfBoth : Type 0
BitsOfBoth = (m n x y : ℕ) → y < 2 ^ n → bits (m + n) (x * 2 ^ n + y) ≡ bits m x ++ bits n y

-- the bits of a number in two parts
abbrev pub BitsOfParts : Type 0
BitsOfParts = (m n x : ℕ) → bits (m + n) x ≡ bits m (x / 2 ^ n) ++ bits n x

abbrev pub ZerosLength : Type 0
ZerosLength = (n : ℕ) → length (zeros n) ≡ n
