-- What a word is, as the items' definition and clap's lexer both see it.
use Rattle.std.proofs.Common.{◌≡◌, ◌∙◌, ℕ, Bool, true, false, List, [], ◌∷◌, ◌++◌, Option, Some, None, refl, sym, ap, codes, length, take, drop, ◌==◌, arith, ◌+◌, ◌<◌, suc, not, subst}
use Rattle.std.specs.Prelude.{slice_get}
use Rattle.std.specs.Str.{bytes_eq, IsUtf8, chars, encode_utf8_all}
use Rattle.std.specs.List.{before_first, prefix_len}
use Rattle.std.proofs.lemmas.Bool.{eqb-true}
use Rattle.std.proofs.lemmas.List.{take-append-drop}
use Rattle.std.proofs.lemmas.Slice.Eq.{bytes_eq-Decides}
use Rattle.std.proofs.lemmas.Str.{chars-encodes, encode_ascii}
use Rattle.clap.specs.Lexer.{long_of, short_of, has_byte, name_and_value}
use Rattle.bench_words.specs.Reading.{Text, Slot, the_job, the_workers, the_number, item, items, before, plain_items, is_dashed}

-- the option's slot, its word, and its word with `=`
abbrev pub option_slot : Bool → Slot
option_slot true = the_workers
option_slot false = the_number

abbrev pub option_word : Bool → Text
option_word true = codes "--workers"
option_word false = codes "--number"

abbrev pub option_front : Bool → Text
option_front true = codes "--workers="
option_front false = codes "--number="

pub data Look (word : Text) : Type 0 where
  ends : word ≡ codes "--" → Look word
  asks : (o : Bool) → word ≡ option_word o → Look word
  gives : (o : Bool) (v : Text) → word ≡ option_front o ++ v → Look word
  unknown : (name : Text) (v : Option Text) → is_dashed word ≡ true → bytes_eq word (codes "--") ≡ false → long_of word ≡ Some (name, v)
      → bytes_eq (codes "workers") name ≡ false → bytes_eq (codes "number") name ≡ false
      → ((words : List Text) → items None (word ∷ words) ≡ None) → Look word
  letters : (c d : ℕ) (ds : Text) → word ≡ 45 ∷ d ∷ ds → (d == 45) ≡ false → slice_get (chars (d ∷ ds)) 0 ≡ Some c
      → ((words : List Text) → items None (word ∷ words) ≡ None) → Look word
  dash : word ≡ codes "-" → Look word
  plain : is_dashed word ≡ false → bytes_eq word (codes "--") ≡ false → long_of word ≡ None → short_of word ≡ None
      → ((words : List Text) → items None (word ∷ words) ≡ before (item the_job word) (items None words)) → Look word

pub items_ends : (words : List Text) → items None (codes "--" ∷ words) ≡ Some (plain_items words)
unfolding items
items_ends words = refl

pub items_asks : (o : Bool) (words : List Text) → items None (option_word o ∷ words) ≡ items (Some (option_slot o)) words
unfolding items
items_asks true words = refl
items_asks false words = refl

pub items_gives : (o : Bool) (v : Text) (words : List Text) → items None ((option_front o ++ v) ∷ words) ≡ before (item (option_slot o) v) (items None words)
unfolding items
items_gives true v words = refl
items_gives false v words = refl

pub not_dashed : (c : ℕ) (cs : Text) (words : List Text) → (c == 45) ≡ false → items None ((c ∷ cs) ∷ words) ≡ before (item the_job (c ∷ cs)) (items None words)
unfolding items
not_dashed c cs words e = rw e refl

pub long_not_dashed : (c : ℕ) (cs : Text) → (c == 45) ≡ false → long_of (c ∷ cs) ≡ None
long_not_dashed c cs e = rw e refl

one_dash : (d : ℕ) (ds : Text) (words : List Text) → (d == 45) ≡ false → items None ((45 ∷ d ∷ ds) ∷ words) ≡ None
unfolding items
one_dash d ds words e = rw e refl

-- the first character of what follows a dash
first_letter : (d : ℕ) (ds : Text) → IsUtf8 (45 ∷ d ∷ ds) → (c : ℕ) × (slice_get (chars (d ∷ ds)) 0 ≡ Some c)
unfolding chars
first_letter d ds text =
    let all = text.0 in
    let same : chars (45 ∷ d ∷ ds) ≡ all = ap chars (sym text.1.1) ∙ chars-encodes all text.1.0 in
    let split : 45 ∷ chars (d ∷ ds) ≡ all = same in
    go (chars (d ∷ ds)) refl (ap encode_utf8_all split ∙ text.1.1)
  where
    go : (cs : List ℕ) → chars (d ∷ ds) ≡ cs → encode_utf8_all (45 ∷ chars (d ∷ ds)) ≡ 45 ∷ d ∷ ds → (c : ℕ) × (slice_get (chars (d ∷ ds)) 0 ≡ Some c)
    go [] none e =
        let low : 45 < 128 = omega arith in
        let bad : 45 ∷ [] ≡ 45 ∷ d ∷ ds = rw (none, encode_ascii 45 low) at e in cc
    go (c ∷ cs) some e = (c, rw some refl)

-- a name before `=`
abbrev name_of : Text → Text
name_of t = before_first (λ x. x == 61) t

name_more : (x : ℕ) (xs : Text) → (x == 61) ≡ false → name_of (x ∷ xs) ≡ x ∷ name_of xs
name_more x xs e = let s : 1 + prefix_len (λ y. not (y == 61)) xs ≡ suc (prefix_len (λ y. not (y == 61)) xs) = omega arith in rw e (rw s refl)

data Cut (t : Text) : Type 0 where
  whole : name_of t ≡ t → has_byte 61 t ≡ false → Cut t
  parts : (v : Text) → t ≡ name_of t ++ 61 ∷ v → Cut t

cut : (t : Text) → Cut t
cut [] = whole refl refl
cut (x ∷ xs) = go (x == 61) refl (cut xs)
  where
    go : (b : Bool) → (x == 61) ≡ b → Cut xs → Cut (x ∷ xs)
    go true e rest = let same : x ≡ 61 = eqb-true x 61 e in parts xs (rw e (ap (λ c. c ∷ xs) same))
    go false e (whole a b) = whole (name_more x xs e ∙ ap (λ ys. x ∷ ys) a) (rw e b)
    go false e (parts v a) = parts v (ap (λ ys. x ∷ ys) a ∙ ap (λ ys. ys ++ 61 ∷ v) (sym (name_more x xs e)))

not_true : (b : Bool) → (b ≡ true → ⊥) → b ≡ false
not_true true f = absurd (f refl)
not_true false f = refl

same_name : (front : Text) (t : Text) → bytes_eq t front ≡ true → t ≡ front
same_name front t e = (bytes_eq-Decides t front).0 e

-- a text whose name is an option's is that option's word, with or without a value
named : (o : Bool) (t : Text) → bytes_eq (drop 2 (option_word o)) (name_of t) ≡ true → Cut t → Look (45 ∷ 45 ∷ t)
named true t e (whole a b) = let n : codes "workers" ≡ name_of t = same_name _ _ e in asks true (ap (λ ys. 45 ∷ 45 ∷ ys) (sym a ∙ sym n))
named false t e (whole a b) = let n : codes "number" ≡ name_of t = same_name _ _ e in asks false (ap (λ ys. 45 ∷ 45 ∷ ys) (sym a ∙ sym n))
named true t e (parts v a) = let n : codes "workers" ≡ name_of t = same_name _ _ e in gives true v (ap (λ ys. 45 ∷ 45 ∷ ys) (a ∙ ap (λ ys. ys ++ 61 ∷ v) (sym n)))
named false t e (parts v a) = let n : codes "number" ≡ name_of t = same_name _ _ e in gives false v (ap (λ ys. 45 ∷ 45 ∷ ys) (a ∙ ap (λ ys. ys ++ 61 ∷ v) (sym n)))

-- and another text is none
abbrev front_of : Text → Text
front_of name = name ++ 61 ∷ []

not_named : (o : Bool) (t : Text) → bytes_eq (drop 2 (option_word o)) (name_of t) ≡ false
    → (bytes_eq t (drop 2 (option_word o)) ≡ false) × (bytes_eq (take (length (drop 2 (option_front o))) t) (drop 2 (option_front o)) ≡ false)
not_named true t e = (
  not_true _ (λ h. let is : t ≡ codes "workers" = same_name _ _ h in let bad : true ≡ false = rw is at e in cc),
  not_true _ (λ h. let is : take 8 t ≡ codes "workers=" = same_name _ _ h in
      let all : codes "workers=" ++ drop 8 t ≡ t = ap (λ ys. ys ++ drop 8 t) (sym is) ∙ take-append-drop 8 t in
      let bad : true ≡ false = subst (λ ys. bytes_eq (codes "workers") (name_of ys) ≡ false) (sym all) e in cc),
)
not_named false t e = (
  not_true _ (λ h. let is : t ≡ codes "number" = same_name _ _ h in let bad : true ≡ false = rw is at e in cc),
  not_true _ (λ h. let is : take 7 t ≡ codes "number=" = same_name _ _ h in
      let all : codes "number=" ++ drop 7 t ≡ t = ap (λ ys. ys ++ drop 7 t) (sym is) ∙ take-append-drop 7 t in
      let bad : true ≡ false = subst (λ ys. bytes_eq (codes "number") (name_of ys) ≡ false) (sym all) e in cc),
)

items_unknown : (x : ℕ) (xs : Text) (words : List Text) → bytes_eq (x ∷ xs) (codes "workers") ≡ false → bytes_eq (take 8 (x ∷ xs)) (codes "workers=") ≡ false
    → bytes_eq (x ∷ xs) (codes "number") ≡ false → bytes_eq (take 7 (x ∷ xs)) (codes "number=") ≡ false → items None ((45 ∷ 45 ∷ x ∷ xs) ∷ words) ≡ None
unfolding items
items_unknown x xs words a b c d = rw (a, b, c, d) refl

after_dashes : (x : ℕ) (xs : Text) → Look (45 ∷ 45 ∷ x ∷ xs)
after_dashes x xs = go (bytes_eq (codes "workers") (name_of (x ∷ xs))) (bytes_eq (codes "number") (name_of (x ∷ xs))) refl refl
  where
    go : (a b : Bool) → bytes_eq (codes "workers") (name_of (x ∷ xs)) ≡ a → bytes_eq (codes "number") (name_of (x ∷ xs)) ≡ b → Look (45 ∷ 45 ∷ x ∷ xs)
    go true b e f = named true (x ∷ xs) e (cut (x ∷ xs))
    go false true e f = named false (x ∷ xs) f (cut (x ∷ xs))
    go false false e f =
        let w = not_named true (x ∷ xs) e in
        let n = not_named false (x ∷ xs) f in
        unknown (name_and_value (x ∷ xs)).0 (name_and_value (x ∷ xs)).1 refl refl refl e f (λ words. items_unknown x xs words w.0 w.1 n.0 n.1)

pub look : (word : Text) → IsUtf8 word → Look word
unfolding items
look [] text = plain refl refl refl refl (λ words. refl)
look (c ∷ cs) text = go (c == 45) refl cs text
  where
    other : (d : ℕ) (ds : Text) → IsUtf8 (45 ∷ d ∷ ds) → (b : Bool) → (d == 45) ≡ b → Look (45 ∷ d ∷ ds)
    other d [] text true e = ends (ap (λ x. 45 ∷ x ∷ []) (eqb-true d 45 e))
    other d (x ∷ xs) text true e = subst (λ y. Look (45 ∷ y ∷ x ∷ xs)) (sym (eqb-true d 45 e)) (after_dashes x xs)
    other d ds text false e = let first = first_letter d ds text in letters first.0 d ds refl e first.1 (λ words. one_dash d ds words e)

    go : (b : Bool) → (c == 45) ≡ b → (cs : Text) → IsUtf8 (c ∷ cs) → Look (c ∷ cs)
    go false e cs text = plain (rw e refl) (rw e refl) (long_not_dashed c cs e) (rw e refl) (λ words. not_dashed c cs words e)
    go true e [] text = subst (λ y. Look (y ∷ [])) (sym (eqb-true c 45 e)) (dash refl)
    go true e (d ∷ ds) text = subst (λ y. Look (y ∷ d ∷ ds)) (sym (eqb-true c 45 e)) (other d ds (subst (λ y. IsUtf8 (y ∷ d ∷ ds)) (eqb-true c 45 e) text) (d == 45) refl)

pub items_dash : (words : List Text) → items None (codes "-" ∷ words) ≡ before (item the_job (codes "-")) (items None words)
unfolding items
items_dash words = refl

pub items_value : (o : Bool) (word : Text) (words : List Text) → is_dashed word ≡ false → items (Some (option_slot o)) (word ∷ words) ≡ before (item (option_slot o) word) (items None words)
unfolding items
items_value o word words e = rw e refl

pub items_no_value : (o : Bool) (word : Text) (words : List Text) → is_dashed word ≡ true → items (Some (option_slot o)) (word ∷ words) ≡ None
unfolding items
items_no_value o word words e = rw e refl
