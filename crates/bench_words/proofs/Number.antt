-- A numeral that `parse` refuses is past the range.
use Rattle.std.proofs.Common.{◌≡◌, ℕ, ◌<◌, ◌^◌, Bool, true, false, List, [], ◌∷◌, Some, None, refl, length, arith, if◌then◌else◌, ◌&&◌}
use Rattle.std.specs.Prelude.{nat_le, nat_lt}
use Rattle.std.specs.Char.{digit_value}
use Rattle.std.proofs.lemmas.Str.Parse.{without_leading_plus_none}
use Rattle.std.proofs.lemmas.Bool.Decides.{nat_tests}
use Rattle.std.specs.List.{list_all}
use Rattle.std.specs.Char.{is_ascii_digit}
use Rattle.std.specs.Str.Parse.{IsNumeral, AllDigits, digits_value, without_leading_plus}
use Rattle.clap.proofs.WalkLemmas.{both}
use Rattle.bench_words.specs.Reading.{number_of, is_numeral, within}

digit_below : (c : ℕ) → is_ascii_digit c ≡ true → digit_value c < 10
digit_below c e = grind (arith, nat_tests)

each_digit : (text : List ℕ) → list_all is_ascii_digit text ≡ true → AllDigits 10 text
each_digit [] e = tt
each_digit (c ∷ cs) e = let b = both (is_ascii_digit c) (list_all is_ascii_digit cs) e in (digit_below c b.0, each_digit cs b.1)

no_plus : (text : List ℕ) → list_all is_ascii_digit text ≡ true → without_leading_plus text ≡ text
no_plus [] e = refl
no_plus (c ∷ cs) e =
    let b = both (is_ascii_digit c) (list_all is_ascii_digit cs) e in
    without_leading_plus_none (c ∷ cs) (λ (h : c ≡ 43). let bad : false ≡ true = rw h at b.0 in cc)

past : (low high n : ℕ) → high < n → within low high n ≡ None
past low high n h = go (nat_le low n) (nat_le n high) refl
  where
    go : (a b : Bool) → nat_le n high ≡ b → (if a && b then Some n else None) ≡ None
    go true true e = absurd (grind (arith, nat_tests))
    go true false e = refl
    go false b e = refl

pub too_large : (text : List ℕ) (low high : ℕ) → high < 2 ^ 32 → list_all is_ascii_digit text ≡ true → 0 < length text
    → (IsNumeral 10 (without_leading_plus text) × (digits_value 10 (without_leading_plus text) < 2 ^ 32) → ⊥) → number_of low high text ≡ None
too_large text low high bound all full fails =
    let fails_here : IsNumeral 10 text × (digits_value 10 text < 2 ^ 32) → ⊥ = rw (no_plus text all) at fails in
    go (is_numeral text) (nat_lt (digits_value 10 text) (2 ^ 32)) refl (λ small. fails_here ((full, each_digit text all), small))
  where
    go : (a b : Bool) → nat_lt (digits_value 10 text) (2 ^ 32) ≡ b → (digits_value 10 text < 2 ^ 32 → ⊥) → (if a then within low high (digits_value 10 text) else None) ≡ None
    go true true e f = absurd (f (grind (arith, nat_tests)))
    go true false e f = past low high (digits_value 10 text) (grind (arith, nat_tests))
    go false b e f = refl
