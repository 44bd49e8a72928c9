-- Laws of the code.
-- Code: none of this is computed.
use Rattle.std.specs.Prelude.{◌≡◌, ℕ, ◌<◌, Some}
use Rattle.code_8b10b.specs.declared.character.Rd.{Rd}
use Rattle.code_8b10b.specs.declared.character.Char.{Char}
use Rattle.code_8b10b.specs.declared.character.Reading.{Reading}
use Rattle.code_8b10b.specs.declared.character.Reading.TheVariants.{Char as Read}
use Rattle.code_8b10b.specs.Code.{spelling, IsReading}
use Rattle.code_8b10b.specs.Reads.{reading}

-- no word spells two characters at one disparity
abbrev pub OneCharacter : Type 0
OneCharacter = (rd : Rd) (c d : Char) (w : ℕ) → spelling rd c ≡ Some w → spelling rd d ≡ Some w → c ≡ d

-- every spelling has ten bits
abbrev pub TenBits : Type 0
TenBits = (rd : Rd) (c : Char) (w : ℕ) → spelling rd c ≡ Some w → w < 1024

-- ten bits have one reading at a disparity, and the function gives it
abbrev pub OneReading : Type 0
OneReading = (rd : Rd) (w : ℕ) → w < 1024 → IsReading rd w (reading rd w) × ((r : Reading) → IsReading rd w r → r ≡ reading rd w)

-- Char c is read from exactly the spellings of c at that disparity
abbrev pub ReadsSpelling : Type 0
ReadsSpelling = (rd : Rd) (w : ℕ) (c : Char) → w < 1024
    → (spelling rd c ≡ Some w → reading rd w ≡ Read c) × (reading rd w ≡ Read c → spelling rd c ≡ Some w)
