-- The 8b/10b code (IEEE 802.3 clause 36.2.4, tables 36-1 and 36-2; JESD204B.01 clause 5.3.1). Ten
-- bits are a number below 1024 whose highest bit is bit a, sent first.
-- Code: tables by number, one look-up for each direction.
use Rattle.std.specs.Prelude.{◌≡◌, ◌≢◌, ℕ, ◌+◌, ◌*◌, ◌/◌, ◌%◌, ◌==◌, nat_lt, ◌||◌, if◌then◌else◌, List, [], ◌∷◌, slice_index, Option, Some, None, option_map, find}
use Rattle.code_8b10b.specs.declared.character.Rd.{Rd}
use Rattle.code_8b10b.specs.declared.character.Rd.TheVariants.{Minus, Plus}
use Rattle.code_8b10b.specs.declared.character.Char.{Char}
use Rattle.code_8b10b.specs.declared.character.Char.TheVariants.{Data, Control}
use Rattle.code_8b10b.specs.declared.character.Reading.{Reading}
use Rattle.code_8b10b.specs.declared.character.Reading.TheVariants.{Char as Read, Disparity, Invalid}

-- the other disparity
abbrev pub other : Rd → Rd
other Minus = Plus
other Plus = Minus

-- how many of the low six bits are ones
abbrev pub ones : ℕ → ℕ
ones s = s % 2 + s / 2 % 2 + s / 4 % 2 + s / 8 % 2 + s / 16 % 2 + s / 32 % 2

-- the disparity after the six bits abcdei
unfoldable pub after_six : Rd → ℕ → Rd
after_six rd s = if nat_lt 3 (ones s) || (s == 0b000111) then Plus else (if nat_lt (ones s) 3 || (s == 0b111000) then Minus else rd)

-- the disparity after the four bits fghj
unfoldable pub after_four : Rd → ℕ → Rd
after_four rd s = if nat_lt 2 (ones s) || (s == 0b0011) then Plus else (if nat_lt (ones s) 2 || (s == 0b1100) then Minus else rd)

-- the disparity after ten bits, whatever they are
unfoldable pub after : Rd → ℕ → Rd
after rd w = after_four (after_six rd (w / 16)) (w % 16)

-- the bits abcdei by x = EDCBA, at the disparity before them (table 36-1, columns RD- and RD+)
unfoldable pub sixes : Rd → List ℕ
sixes Minus =
    0b100111 ∷ 0b011101 ∷ 0b101101 ∷ 0b110001 ∷ 0b110101 ∷ 0b101001 ∷ 0b011001 ∷ 0b111000
    ∷ 0b111001 ∷ 0b100101 ∷ 0b010101 ∷ 0b110100 ∷ 0b001101 ∷ 0b101100 ∷ 0b011100 ∷ 0b010111
    ∷ 0b011011 ∷ 0b100011 ∷ 0b010011 ∷ 0b110010 ∷ 0b001011 ∷ 0b101010 ∷ 0b011010 ∷ 0b111010
    ∷ 0b110011 ∷ 0b100110 ∷ 0b010110 ∷ 0b110110 ∷ 0b001110 ∷ 0b101110 ∷ 0b011110 ∷ 0b101011 ∷ []
sixes Plus =
    0b011000 ∷ 0b100010 ∷ 0b010010 ∷ 0b110001 ∷ 0b001010 ∷ 0b101001 ∷ 0b011001 ∷ 0b000111
    ∷ 0b000110 ∷ 0b100101 ∷ 0b010101 ∷ 0b110100 ∷ 0b001101 ∷ 0b101100 ∷ 0b011100 ∷ 0b101000
    ∷ 0b100100 ∷ 0b100011 ∷ 0b010011 ∷ 0b110010 ∷ 0b001011 ∷ 0b101010 ∷ 0b011010 ∷ 0b000101
    ∷ 0b001100 ∷ 0b100110 ∷ 0b010110 ∷ 0b001001 ∷ 0b001110 ∷ 0b010001 ∷ 0b100001 ∷ 0b010100 ∷ []

-- the bits fghj of y = 7 for an x, at the disparity after the six bits: the alternate spelling for three x each
unfoldable pub four_of_seven : Rd → ℕ → ℕ
four_of_seven Minus x = if (x == 17) || (x == 18) || (x == 20) then 0b0111 else 0b1110
four_of_seven Plus x = if (x == 11) || (x == 13) || (x == 14) then 0b1000 else 0b0001

-- the bits fghj by y = HGF for an x, at the disparity after the six bits
unfoldable pub fours : Rd → ℕ → List ℕ
fours Minus x = 0b1011 ∷ 0b1001 ∷ 0b0101 ∷ 0b1100 ∷ 0b1101 ∷ 0b1010 ∷ 0b0110 ∷ four_of_seven Minus x ∷ []
fours Plus x = 0b0100 ∷ 0b1001 ∷ 0b0101 ∷ 0b0011 ∷ 0b0010 ∷ 0b1010 ∷ 0b0110 ∷ four_of_seven Plus x ∷ []

-- the ten bits of a data octet: x is its low five bits, y its high three
unfoldable pub data_spelling : Rd → ℕ → ℕ
data_spelling rd o =
    let x = o % 32 in let six = slice_index (sixes rd) x in
    16 * six + slice_index (fours (after_six rd six) x) (o / 32)

-- a control character: its octet, and its ten bits at each disparity
pub record Row : Type 0 where
  pub octet : ℕ
  pub minus : ℕ
  pub plus : ℕ

abbrev pub row : ℕ → ℕ → ℕ → Row
row o m p = record { octet = o; minus = m; plus = p }

-- the twelve control characters (table 36-2)
unfoldable pub controls : List Row
controls =
    row 0x1C 0b0011110100 0b1100001011 ∷ row 0x3C 0b0011111001 0b1100000110 ∷ row 0x5C 0b0011110101 0b1100001010
    ∷ row 0x7C 0b0011110011 0b1100001100 ∷ row 0x9C 0b0011110010 0b1100001101 ∷ row 0xBC 0b0011111010 0b1100000101
    ∷ row 0xDC 0b0011110110 0b1100001001 ∷ row 0xFC 0b0011111000 0b1100000111 ∷ row 0xF7 0b1110101000 0b0001010111
    ∷ row 0xFB 0b1101101000 0b0010010111 ∷ row 0xFD 0b1011101000 0b0100010111 ∷ row 0xFE 0b0111101000 0b1000010111 ∷ []

abbrev pub column : Rd → Row → ℕ
column Minus r = r.minus
column Plus r = r.plus

-- the ten bits that spell a character at a disparity; None for an octet that has none
unfoldable pub spelling : Rd → Char → Option ℕ
spelling rd (Data o) = if nat_lt o 256 then Some (data_spelling rd o) else None
spelling rd (Control o) = option_map (column rd) (find (λ r. r.octet == o) controls)

-- what ten bits read as at a disparity
abbrev pub IsReading : Rd → ℕ → Reading → Type 0
IsReading rd w (Read c) = spelling rd c ≡ Some w
IsReading rd w (Disparity c) = ((d : Char) → spelling rd d ≢ Some w) × (spelling (other rd) c ≡ Some w)
IsReading rd w Invalid = ((d : Char) → spelling rd d ≢ Some w) × ((d : Char) → spelling (other rd) d ≢ Some w)

-- the words spell the characters in one chain of disparities
abbrev pub Chained : Rd → List Char → List ℕ → Type 0
Chained rd [] [] = Unit {0}
Chained rd (c ∷ cs) (w ∷ ws) = (spelling rd c ≡ Some w) × Chained (after rd w) cs ws
Chained rd [] (w ∷ ws) = ⊥
Chained rd (c ∷ cs) [] = ⊥
