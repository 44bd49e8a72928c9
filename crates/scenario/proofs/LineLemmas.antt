-- Hexadecimal digits, and fields behind commas.
use Rattle.std.proofs.Common.{◌≡◌, ℕ, zero, suc, ◌+◌, ◌-◌, ◌*◌, ◌/◌, ◌%◌, ◌^◌, ◌<◌, ◌∙◌, List, [], ◌∷◌, ◌++◌, refl, ap, append_assoc, arith}
use Rattle.std.proofs.Math.Nat.{pow-suc}
use Rattle.std.proofs.lemmas.Nat.{pow-add}
use Rattle.std.specs.List.{flat_map}
use Rattle.link_params.specs.declared.fields.Params.{Params}
use Rattle.scenario.specs.Digits.{hex_digit, hex_digits, word_digits}
use Rattle.scenario.specs.ReportLines.{fields_text, word_fields}

pow-sixteen : (n : ℕ) → 2 ^ (4 * n) ≡ 16 ^ n
pow-sixteen zero = refl
pow-sixteen (suc n) =
    let e : 4 * suc n ≡ 4 * n + 4 = omega arith in
    rw (e, pow-add 2 (4 * n) 4, pow-sixteen n, pow-suc 16 n) refl

-- the first digit behind a text, before the others
pub digit-more : (old text new : List ℕ) (n x d : ℕ) → 0 < n → text ++ hex_digits n x ≡ old
    → d ≡ hex_digit (x / 2 ^ (4 * (n - 1)) % 16)
    → new ≡ text ++ d ∷ [] → new ++ hex_digits (n - 1) x ≡ old
unfolding hex_digits
digit-more old text new zero x d some is digit added = absurd (omega arith)
digit-more old text new (suc n) x d some is digit added =
    let e : suc n - 1 ≡ n = omega arith in
    let p : d ≡ hex_digit (x / 16 ^ n % 16) = digit ∙ ap (λ k. hex_digit (x / 2 ^ (4 * k) % 16)) e
    ∙ ap (λ q. hex_digit (x / q % 16)) (pow-sixteen n) in
    ap (λ t. t ++ hex_digits (suc n - 1) x) added
    ∙ ap (λ k. (text ++ d ∷ []) ++ hex_digits k x) e
    ∙ append_assoc text (d ∷ []) (hex_digits n x)
    ∙ ap (λ v. text ++ v ∷ hex_digits n x) p
    ∙ is

-- words as fields
pub word-fields : (words : List ℕ) (p : Params)
    → flat_map (λ w. 44 ∷ hex_digits (word_digits p) w) words ≡ fields_text (word_fields p words)
word-fields [] p = refl
word-fields (w ∷ words) p = ap (λ r. (44 ∷ hex_digits (word_digits p) w) ++ r) (word-fields words p)

-- a line of fields
pub line-of-fields : (kind fields a b c : List ℕ) → a ≡ kind → b ≡ a ++ fields → c ≡ b ++ 10 ∷ []
    → c ≡ kind ++ (fields ++ 10 ∷ [])
line-of-fields kind fields a b c p q r = r ∙ ap (λ t. t ++ 10 ∷ []) (q ∙ ap (λ t. t ++ fields) p)
    ∙ append_assoc kind fields (10 ∷ [])

-- a line with one field and more behind it
pub line-of-two : (kind first more a b c d : List ℕ) → a ≡ kind → b ≡ a ++ first → c ≡ b ++ more
    → d ≡ c ++ 10 ∷ [] → d ≡ kind ++ ((first ++ more) ++ 10 ∷ [])
line-of-two kind first more a b c d p q r s =
    line-of-fields kind (first ++ more) a c d p
    (r ∙ ap (λ t. t ++ more) q ∙ append_assoc a first more) s

-- a field in front of fields
pub after-field : (fields : List (List ℕ)) (old mid new field : List ℕ) → mid ≡ old ++ 44 ∷ field
    → new ≡ mid ++ fields_text fields → new ≡ old ++ fields_text (field ∷ fields)
after-field fields old mid new field p q = q ∙ ap (λ t. t ++ fields_text fields) p
    ∙ append_assoc old (44 ∷ field) (fields_text fields)
