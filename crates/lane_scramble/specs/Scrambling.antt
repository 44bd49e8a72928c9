-- Self-synchronous scrambling by two taps, over whole lists of bits (JESD204B.01 clause 5.2,
-- scrambling; JESD204C.1, 64b/66b link layer, scrambling).
-- Code: whole octets or words on the last bits as a number.
use Rattle.std.specs.Prelude.{ℕ, ◌-◌, Bool, false, List, [], ◌∷◌, ◌++◌, get_or}
use Rattle.jesd_base.specs.Bits.{add, zeros, ones}

-- the bit that came k places before, of earlier bits given the latest first
abbrev pub back : List Bool → ℕ → Bool
back past k = get_or past (k - 1) false

-- the list y with y[i] = x[i] + y[i-a] + y[i-b] modulo 2, after earlier bits, the latest first
unfoldable pub scrambled : ℕ → ℕ → List Bool → List Bool → List Bool
scrambled a b past [] = []
scrambled a b past (x ∷ xs) = let y = add x (add (back past a) (back past b)) in y ∷ scrambled a b (y ∷ past) xs

-- the list x with x[i] = y[i] + y[i-a] + y[i-b] modulo 2, after earlier bits, the latest first
unfoldable pub descrambled : ℕ → ℕ → List Bool → List Bool → List Bool
descrambled a b past [] = []
descrambled a b past (y ∷ ys) = let x = add y (add (back past a) (back past b)) in x ∷ descrambled a b (y ∷ past) ys

-- an 8b/10b lane begins with the fifteen earlier bits 111111110000000, oldest first
unfoldable pub start15 : List Bool
start15 = zeros 7 ++ ones 8

abbrev pub scrambled15 : List Bool → List Bool
scrambled15 xs = scrambled 14 15 start15 xs

abbrev pub descrambled15 : List Bool → List Bool
descrambled15 ys = descrambled 14 15 start15 ys

-- a 64b/66b lane begins with fifty-eight earlier bits that are 1
unfoldable pub start58 : List Bool
start58 = ones 58

abbrev pub scrambled58 : List Bool → List Bool
scrambled58 xs = scrambled 39 58 start58 xs

abbrev pub descrambled58 : List Bool → List Bool
descrambled58 ys = descrambled 39 58 start58 ys
