-- What ten bits read as, as a function: the one reading r with `IsReading rd w r`. For definitions
-- that compute.
-- Code: a table of 1,024 entries for each disparity.
use Rattle.std.specs.Prelude.{ℕ, suc, ◌+◌, ◌*◌, ◌/◌, ◌%◌, ◌==◌, if◌then◌else◌, List, [], ◌∷◌, Option, Some, None, option_map, option_and_then, find}
use Rattle.code_8b10b.specs.declared.character.Rd.{Rd}
use Rattle.code_8b10b.specs.declared.character.Char.{Char}
use Rattle.code_8b10b.specs.declared.character.Char.TheVariants.{Data, Control}
use Rattle.code_8b10b.specs.declared.character.Reading.{Reading}
use Rattle.code_8b10b.specs.declared.character.Reading.TheVariants.{Char as Read, Disparity, Invalid}
use Rattle.code_8b10b.specs.Code.{other, after, after_six, sixes, fours, controls, column}

-- where x first stands in a list whose places are counted from n
unfoldable pub place_in : ℕ → ℕ → List ℕ → Option ℕ
place_in n x [] = None
place_in n x (y ∷ ys) = let later = place_in (suc n) x ys in if x == y then Some n else later

-- the data octet that ten bits spell: x by the six bits, y by the four bits
unfoldable pub data_at : Rd → ℕ → Option Char
data_at rd w = option_and_then
    (λ x. option_map (λ y. Data (32 * y + x)) (place_in 0 (w % 16) (fours (after_six rd (w / 16)) x)))
    (place_in 0 (w / 16) (sixes rd))

-- the control character that ten bits spell
unfoldable pub control_at : Rd → ℕ → Option Char
control_at rd w = option_map (λ r. Control r.octet) (find (λ r. column rd r == w) controls)

abbrev pub or_else : Option Char → Option Char → Option Char
or_else (Some c) o = Some c
or_else None o = o

-- the character that ten bits spell at a disparity
unfoldable pub char_at : Rd → ℕ → Option Char
char_at rd w = let control = control_at rd w in or_else (data_at rd w) control

abbrev pub reading_of : Option Char → Option Char → Reading
reading_of (Some c) at_other = Read c
reading_of None (Some c) = Disparity c
reading_of None None = Invalid

-- the reading as a function: the one r with IsReading rd w r
unfoldable pub reading : Rd → ℕ → Reading
reading rd w = let at_other = char_at (other rd) w in reading_of (char_at rd w) at_other

-- the octet of a character
abbrev pub octet_of_char : Char → ℕ
octet_of_char (Data o) = o
octet_of_char (Control o) = o

-- the octet of a reading; 0 for an invalid one
abbrev pub octet_read : Reading → ℕ
octet_read (Read c) = octet_of_char c
octet_read (Disparity c) = octet_of_char c
octet_read Invalid = 0

-- the readings of words, in one chain of disparities
unfoldable pub readings : Rd → List ℕ → List Reading
readings rd [] = []
readings rd (w ∷ ws) = reading rd w ∷ readings (after rd w) ws
