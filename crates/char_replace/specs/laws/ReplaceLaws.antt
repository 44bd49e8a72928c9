-- Laws of replacement.
-- Code: none of this is computed.
use Rattle.std.specs.Prelude.{◌≡◌, ℕ, ◌<◌, false, List, map, length, slice_get, slice_index, None, Some}
use Rattle.link_params.specs.declared.fields.Params.{Params}
use Rattle.link_params.specs.declared.fields.Mode.TheVariants.{B}
use Rattle.link_params.specs.Laws.{broken_law}
use Rattle.code_8b10b.specs.declared.character.Char.{Char}
use Rattle.code_8b10b.specs.declared.character.Reading.TheVariants.{Char as Read}
use Rattle.char_replace.specs.declared.restored.Restored.{Restored}
use Rattle.char_replace.specs.Replacement.{IsReplaced}
use Rattle.char_replace.specs.Restoring.{IsRestored}

-- where each character that carries the octets is read as Char, the octets come back, none bad and none a fault
abbrev pub RestoresOctets : Type 0
RestoresOctets = (p : Params) (octets : List ℕ) (chars : List Char) (given : List Restored) → broken_law p ≡ None → p.mode ≡ B
    → IsReplaced p octets chars → IsRestored p (map Read chars) given
    → (x : ℕ) → x < length octets → slice_get given x ≡ Some (record { octet = slice_index octets x; bad = false; fault = false })
