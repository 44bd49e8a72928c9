-- Bits and numbers. A bit is a Bool; the first bit of a list is the most significant, and came
-- first on its line.
-- Code: shifts and masks of whole numbers.
use Rattle.std.specs.Prelude.{ℕ, zero, suc, ◌+◌, ◌*◌, ◌^◌, ◌==◌, Bool, true, false, not, if◌then◌else◌, List, [], ◌∷◌, length}
use Rattle.std.specs.Int.{bit_at}

-- the sum of two bits modulo 2
abbrev pub add : Bool → Bool → Bool
add true y = not y
add false y = y

-- a bit as a number
abbrev pub bit : Bool → ℕ
bit b = if b then 1 else 0

-- the low n bits of a number
unfoldable pub bits : ℕ → ℕ → List Bool
bits zero x = []
bits (suc n) x = (bit_at x n == 1) ∷ bits n x

-- the number of a list of bits
abbrev pub value : List Bool → ℕ
value [] = 0
value (b ∷ bs) = bit b * 2 ^ length bs + value bs

-- n bits that are 0
unfoldable pub zeros : ℕ → List Bool
zeros zero = []
zeros (suc n) = false ∷ zeros n

-- n bits that are 1
unfoldable pub ones : ℕ → List Bool
ones zero = []
ones (suc n) = true ∷ ones n

-- each bit is 0
unfoldable pub all_zero : List Bool → Bool
all_zero [] = true
all_zero (true ∷ bs) = false
all_zero (false ∷ bs) = all_zero bs
