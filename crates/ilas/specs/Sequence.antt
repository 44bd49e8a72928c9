-- The initial lane alignment sequence (JESD204B.01 clause 5.3.3.5): four multiframes, 4·P characters.
-- Code: one character at a time.
use Rattle.std.specs.Prelude.{ℕ, zero, suc, ◌+◌, ◌-◌, ◌*◌, ◌/◌, ◌%◌, ◌==◌, nat_le, ◌&&◌, if◌then◌else◌, List, [], ◌∷◌, slice_index}
use Rattle.link_params.specs.declared.fields.Params.{Params}
use Rattle.link_params.specs.Numbers.{period}
use Rattle.link_params.specs.Config.{config_octets}
use Rattle.code_8b10b.specs.declared.character.Char.{Char}
use Rattle.code_8b10b.specs.declared.character.Char.TheVariants.{Data, Control}

-- the character at a place: /R/ begins and /A/ ends each multiframe; the second one has /Q/ behind its /R/ and then the
-- fourteen configuration octets; every other place is data, its number modulo 256
unfoldable pub ilas_char : Params → ℕ → ℕ → Char
ilas_char p lane x =
    let n = period p in let q = x / n in let j = x % n in
    let config = Data (slice_index (config_octets p lane) (j - 2)) in
    if j == 0 then Control 0x1C
    else (if j + 1 == n then Control 0x7C
    else (if (q == 1) && (j == 1) then Control 0x9C
    else (if (q == 1) && nat_le j 15 then config
    else Data (x % 256))))

-- n places from x on
unfoldable pub chars_from : Params → ℕ → ℕ → ℕ → List Char
chars_from p lane x zero = []
chars_from p lane x (suc n) = ilas_char p lane x ∷ chars_from p lane (suc x) n

-- the whole sequence
abbrev pub ilas : Params → ℕ → List Char
ilas p lane = chars_from p lane 0 (4 * period p)
