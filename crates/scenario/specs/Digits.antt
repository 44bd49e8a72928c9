-- Hexadecimal digits.
-- Code: shifts of a word.
use Rattle.std.specs.Prelude.{ℕ, zero, suc, ◌+◌, ◌/◌, ◌%◌, ◌^◌, nat_lt, if◌then◌else◌, List, [], ◌∷◌}
use Rattle.link_params.specs.declared.fields.Params.{Params}
use Rattle.link_params.specs.Laws.{ceil}

-- a lower-case hexadecimal digit
abbrev pub hex_digit : ℕ → ℕ
hex_digit d = if nat_lt d 10 then 48 + d else 87 + d

-- the low n hexadecimal digits of a number, the most significant first
unfoldable pub hex_digits : ℕ → ℕ → List ℕ
hex_digits zero x = []
hex_digits (suc n) x = hex_digit (x / 16 ^ n % 16) ∷ hex_digits n x

-- the digits of a word
abbrev pub word_digits : Params → ℕ
word_digits p = ceil (p.n + p.cs) 4
