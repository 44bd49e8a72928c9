-- Laws of long division.
-- Code: none of this is computed.
use Rattle.std.specs.Prelude.{◌≡◌, ℕ, ◌<◌, ◌≤◌, Bool, true, false, List, [], ◌∷◌, ◌++◌, length, bit_xor}
use Rattle.jesd_base.specs.Bits.{value, zeros}
use Rattle.jesd_base.specs.Division.{add_bits, rem}

-- a register takes a bit in at its end: its first bit goes, and where it is 1 the divisor is added
abbrev pub shift : List Bool → List Bool → Bool → List Bool
shift g [] c = []
shift g (false ∷ register) c = register ++ c ∷ []
shift g (true ∷ register) c = add_bits g (register ++ c ∷ [])

abbrev pub shift_all : List Bool → List Bool → List Bool → List Bool
shift_all g register [] = register
shift_all g register (c ∷ cs) = shift_all g (shift g register c) cs

-- long division is a shift register that begins with the first bits
abbrev pub DivisionIsShifting : Type 0
DivisionIsShifting = (g register rest : List Bool) → length register ≡ length g → 0 < length g
    → rem g (register ++ rest) ≡ shift_all g register rest

-- the sum of two lists of one length is the exclusive or of their numbers
abbrev pub SumIsXor : Type 0
SumIsXor = (xs ys : List Bool) → length xs ≡ length ys → value (add_bits xs ys) ≡ bit_xor (value xs) (value ys)

-- the remainder of a sum is the sum of the remainders
abbrev pub RemainderIsLinear : Type 0
RemainderIsLinear = (g xs ys : List Bool) → length xs ≡ length ys → length g < length xs
    → rem g (add_bits xs ys) ≡ add_bits (rem g xs) (rem g ys)

-- a remainder has as many bits as the divisor has after its first
abbrev pub RemainderLength : Type 0
RemainderLength = (g xs : List Bool) → length g ≤ length xs → length (rem g xs) ≡ length g

-- zeros in front change no remainder
abbrev pub ZerosInFront : Type 0
ZerosInFront = (g xs : List Bool) (k : ℕ) → length g ≤ length xs → rem g (zeros k ++ xs) ≡ rem g xs

-- bits that come later go on from the remainder of those before
abbrev pub RemainderGoesOn : Type 0
RemainderGoesOn = (g xs ys : List Bool) → length g ≤ length xs → rem g (xs ++ ys) ≡ rem g (rem g xs ++ ys)
