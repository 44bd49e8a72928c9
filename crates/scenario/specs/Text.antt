-- The written forms of fields, as bytes.
-- Code: slices, and `to_digit`.
use Rattle.std.specs.Prelude.{ℕ, ◌==◌, ◌&&◌, ◌||◌, nat_le, Bool, List, [], ◌∷◌, length, Option, Some, None, if◌then◌else◌, ◌+◌, ◌*◌, ℤ, pos, neg_ℤ, option_map}
use Rattle.std.specs.Char.{is_digit, digit_value}
use Rattle.std.specs.List.{list_all}
use Rattle.std.specs.Str.Parse.{digits_value_after}

-- a text as its bytes
abbrev pub Text : Type 0
Text = List ℕ

-- a space or a tab
abbrev pub is_blank : ℕ → Bool
is_blank c = (c == 32) || (c == 9)

-- a field with no blanks at its start
unfoldable pub strip_start : Text → Text
strip_start [] = []
strip_start (c ∷ rest) = if is_blank c then strip_start rest else c ∷ rest

-- a character before a field with no blanks at its end
abbrev pub keep_front : ℕ → Text → Text
keep_front c [] = if is_blank c then [] else c ∷ []
keep_front c (x ∷ xs) = c ∷ x ∷ xs

-- a field with no blanks at its end
unfoldable pub strip_end : Text → Text
strip_end [] = []
strip_end (c ∷ rest) = keep_front c (strip_end rest)

-- a field with no blanks at both its ends
abbrev pub stripped : Text → Text
stripped field = strip_end (strip_start field)

-- the length lies between these
abbrev pub has_length : ℕ → ℕ → Text → Bool
has_length low high text = nat_le low (length text) && nat_le (length text) high

-- the number that digits write after those of n, if all are digits
abbrev pub value_after : ℕ → ℕ → Text → Option ℕ
value_after radix n text = if list_all (λ c. is_digit c radix) text then Some
    (digits_value_after radix n text) else None

-- the number, if it is not above m
abbrev pub at_most : ℕ → Option ℕ → Option ℕ
at_most m None = None
at_most m (Some n) = if nat_le n m then Some n else None

-- 1 to 10 decimal digits with a value of at most 4294967295
abbrev pub number : Text → Option ℕ
number text = if has_length 1 10 text then at_most 4294967295 (value_after 10 0 text) else None

-- 1 to 8 hexadecimal digits of either case
abbrev pub word : Text → Option ℕ
word text = if has_length 1 8 text then value_after 16 0 text else None

-- a number with at most one minus before its digits
abbrev pub signed : Text → Option ℤ
signed [] = None
signed (c ∷ rest) = if c == 45 then option_map (λ n. neg_ℤ (pos n)) (number rest) else
    option_map pos (number (c ∷ rest))

-- a hexadecimal digit of either case
abbrev pub is_hex : ℕ → Bool
is_hex c = is_digit c 16

-- octets, two hexadecimal digits each
abbrev pub hex_octets : Text → List ℕ
hex_octets [] = []
hex_octets (a ∷ []) = []
hex_octets (a ∷ b ∷ rest) = (16 * digit_value a + digit_value b) ∷ hex_octets rest
