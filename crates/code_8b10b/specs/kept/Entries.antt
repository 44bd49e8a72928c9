-- How the entries of the tables hold spellings and readings. Not seen by callers.
-- Code: shifts and masks of an entry.
use Rattle.std.specs.Prelude.{ℕ, ◌/◌, ◌%◌, ◌==◌, nat_lt, if◌then◌else◌, Option, Some, None}
use Rattle.code_8b10b.specs.declared.character.Rd.{Rd}
use Rattle.code_8b10b.specs.declared.character.Rd.TheVariants.{Minus, Plus}
use Rattle.code_8b10b.specs.declared.character.Char.{Char}
use Rattle.code_8b10b.specs.declared.character.Char.TheVariants.{Data, Control}
use Rattle.code_8b10b.specs.declared.character.Reading.{Reading}
use Rattle.code_8b10b.specs.declared.character.Reading.TheVariants.{Char as Read, Disparity, Invalid}

-- a spelling and the disparity after it: bits 0 to 9 are the word, bit 10 is set where the disparity after it is positive
unfoldable pub spelled_by : ℕ → Option (ℕ × Rd)
spelled_by e = if e == 0 then None else Some (e % 1024, if nat_lt e 1024 then Minus else Plus)

-- the character of a reading: bits 0 to 7 are the octet, bit 8 is set for a control character
unfoldable pub char_in : ℕ → Char
char_in e = if nat_lt (e % 512) 256 then Data (e % 256) else Control (e % 256)

-- a reading: bits 9 and 10 are 0 for Char, 1 for Disparity
unfoldable pub reading_in : ℕ → Reading
reading_in e = if e / 512 % 4 == 0 then Read (char_in e) else (if e / 512 % 4 == 1 then Disparity (char_in e) else Invalid)

-- the disparity after it: bit 11 is set where it is positive
unfoldable pub disparity_in : ℕ → Rd
disparity_in e = if nat_lt e 2048 then Minus else Plus
