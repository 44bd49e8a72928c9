-- Facts on readers of fields.
use Rattle.std.proofs.Common.{◌≡◌, ◌<◌, ◌+◌, ℕ, zero, suc, Bool, true, false, List, [], ◌∷◌, ◌++◌, Some, None, map, drop, length, is_some, refl, sym, ap, ◌∙◌, arith, add-one}
use Rattle.std.proofs.Math.Seq.{drop-cons}
use Rattle.scenario.specs.Text.{Text, number}
use Rattle.scenario.specs.Check.{lowest}
use Rattle.scenario.specs.Reads.{field, num, are_numbers, numbers_in_fields}

-- a text that is a number
abbrev pub is_number : Text → Bool
is_number text = is_some (number text)

pub numbers_from-more : (n i : ℕ) (fields : List Text)
    → numbers_in_fields i (suc n) fields ≡ numbers_in_fields i n fields ++ num fields (i + n) ∷ []
numbers_from-more zero i fields = ap (λ k. num fields k ∷ []) (let e : i ≡ i + 0 = omega arith in e)
numbers_from-more (suc n) i fields =
    ap (λ ns. num fields i ∷ ns) (numbers_from-more n (i + 1) fields
    ∙ ap (λ k. numbers_in_fields (i + 1) n fields ++ num fields k ∷ [])
    (let e : i + 1 + n ≡ i + suc n = omega arith in e))

pub lowest-number : (m i : ℕ) (fields : List Text) → is_number (field fields i) ≡ true
    → lowest (i + 1) (are_numbers (i + 1) m fields) ≡ lowest i (are_numbers i (suc m) fields)
unfolding are_numbers
lowest-number m i fields h = rw h refl

pub lowest-unread : (m i : ℕ) (fields : List Text) → is_number (field fields i) ≡ false
    → lowest i (are_numbers i (suc m) fields) ≡ Some i
unfolding are_numbers
lowest-unread m i fields h = rw h refl

pub lowest-no_numbers : (m i : ℕ) (fields : List Text) → m ≡ 0
    → lowest i (are_numbers i m fields) ≡ None
unfolding are_numbers
lowest-no_numbers zero i fields e = refl
lowest-no_numbers (suc m) i fields e = absurd (omega arith)

pub is_number-Some : (text : Text) (n : ℕ) → Some n ≡ number text → is_number text ≡ true
is_number-Some text n e = ap is_some (sym e)

pub is_number-None : (text : Text) → None ≡ number text → is_number text ≡ false
is_number-None text e = ap is_some (sym e)

pub num-Some : (fields : List Text) (i n : ℕ) → Some n ≡ number (field fields i) → n ≡ num fields i
num-Some fields i n e = rw (← e) refl

-- ---- lists of any length, from place i on
pub lowest-one_more : (fields : List Text) (f : Text → Bool) (i : ℕ) → i < length fields
    → f (field fields i) ≡ true
    → lowest (i + 1) (map f (drop (i + 1) fields)) ≡ lowest i (map f (drop i fields))
lowest-one_more fields f i h t = rw (drop-cons fields i [] h, t, add-one i) refl

pub lowest-stop : (fields : List Text) (f : Text → Bool) (i : ℕ) → i < length fields
    → f (field fields i) ≡ false
    → lowest i (map f (drop i fields)) ≡ Some i
lowest-stop fields f i h t = rw (drop-cons fields i [] h, t) refl
