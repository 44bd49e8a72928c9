-- Polynomials modulo 2 as lists of bits, the first bit having the highest power, and plain long
-- division.
-- Code: byte tables and shift registers.
use Rattle.std.specs.Prelude.{ℕ, zero, suc, ◌-◌, Bool, true, false, List, [], ◌∷◌, length}
use Rattle.jesd_base.specs.Bits.{add}

-- the sum of two polynomials that begin at one power; the longer one's rest stays
abbrev pub add_bits : List Bool → List Bool → List Bool
add_bits [] ys = ys
add_bits (x ∷ xs) [] = x ∷ xs
add_bits (x ∷ xs) (y ∷ ys) = add x y ∷ add_bits xs ys

-- n steps of long division by the divisor whose bits after the first are g: the first bit goes, and where it is 1 the divisor is added
unfoldable pub divide : ℕ → List Bool → List Bool → List Bool
divide zero g bs = bs
divide (suc n) g [] = []
divide (suc n) g (false ∷ bs) = divide n g bs
divide (suc n) g (true ∷ bs) = divide n g (add_bits g bs)

-- the remainder of long division by the divisor whose bits after the first are g
unfoldable pub rem : List Bool → List Bool → List Bool
rem g bs = divide (length bs - length g) g bs
