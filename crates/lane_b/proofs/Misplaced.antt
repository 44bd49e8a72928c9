-- Misplaced alignment characters, and four of them with no accepted one between.
use Rattle.std.proofs.Common.{◌≡◌, ℕ, suc, ◌-◌, nat_le, min, ◌||◌, inl, inr, Bool, true, false, List, [], ◌∷◌, ◌++◌, Option, Some, None, refl, sym, ◌∙◌, ap, arith, le-leb}
use Rattle.std.proofs.lemmas.Bool.{cases_lt, cases_Bool, lt-leb}
use Rattle.std.proofs.lemmas.List.{append-nil}
use Rattle.code_8b10b.specs.Commas.{begins}
use Rattle.lane_b.specs.Loss.{some_rest, has_four_misplaced, with_option}
use Rattle.lane_b.specs.kept.Counts.{misplaced_after}
use Rattle.lane_b.proofs.Histories.{or-assoc}

pub misplaced-append : (n : ℕ) (xs ys : List Bool) → misplaced_after n (xs ++ ys) ≡ misplaced_after (misplaced_after n xs) ys
unfolding misplaced_after
misplaced-append n [] ys = refl
misplaced-append n (true ∷ xs) ys = misplaced-append 0 xs ys
misplaced-append n (false ∷ xs) ys = misplaced-append (suc n) xs ys

-- how many at the head of a list are misplaced
leading : List Bool → ℕ
leading [] = 0
leading (true ∷ xs) = 0
leading (false ∷ xs) = suc (leading xs)

begins-leading : (xs : List Bool) → begins (false ∷ false ∷ false ∷ false ∷ []) xs ≡ nat_le 4 (leading xs)
unfolding begins leading
begins-leading [] = refl
begins-leading (true ∷ xs) = refl
begins-leading (false ∷ []) = refl
begins-leading (false ∷ true ∷ xs) = refl
begins-leading (false ∷ false ∷ []) = refl
begins-leading (false ∷ false ∷ true ∷ xs) = refl
begins-leading (false ∷ false ∷ false ∷ []) = refl
begins-leading (false ∷ false ∷ false ∷ true ∷ xs) = refl
begins-leading (false ∷ false ∷ false ∷ false ∷ xs) = sym (le-leb 4 (suc (suc (suc (suc (leading xs))))) (omega arith))

-- four in a row, after m such before them
four : ℕ → List Bool → Bool
four m [] = nat_le 4 m
four m (true ∷ xs) = nat_le 4 m || four 0 xs
four m (false ∷ xs) = nat_le 4 m || four (suc m) xs

or-again : (a b : Bool) → (a || (a || b)) ≡ (a || b)
or-again true b = refl
or-again false b = refl

four-push : (xs : List Bool) (m : ℕ) (b : Bool) → four m (xs ++ b ∷ []) ≡ (four m xs || nat_le 4 (misplaced_after m (xs ++ b ∷ [])))
unfolding four misplaced_after
four-push [] m true = refl
four-push [] m false = refl
four-push (true ∷ xs) m b = ap (λ u. nat_le 4 m || u) (four-push xs 0 b) ∙ or-assoc (nat_le 4 m) (four 0 xs) (nat_le 4 (misplaced_after 0 (xs ++ b ∷ [])))
four-push (false ∷ xs) m b = ap (λ u. nat_le 4 m || u) (four-push xs (suc m) b) ∙ or-assoc (nat_le 4 m) (four (suc m) xs) (nat_le 4 (misplaced_after (suc m) (xs ++ b ∷ [])))

four-leading : (xs : List Bool) → (nat_le 4 (leading xs) || has_four_misplaced xs) ≡ has_four_misplaced xs
unfolding some_rest leading
four-leading [] = refl
four-leading (x ∷ xs) =
    let four_false : List Bool = false ∷ false ∷ false ∷ false ∷ [] in
    ap (λ u. u || has_four_misplaced (x ∷ xs)) (sym (begins-leading (x ∷ xs))) ∙ or-again (begins four_false (x ∷ xs)) (some_rest (begins four_false) xs)

four-is : (xs : List Bool) (m : ℕ) → four m xs ≡ (nat_le (4 - m) (leading xs) || has_four_misplaced xs)
unfolding some_rest leading four
four-is [] m = elim (cases_lt m 4) [
  | inl below ↦ rw (lt-leb 4 m below, lt-leb (4 - m) 0 (omega arith)) refl
  | inr past ↦ rw (le-leb 4 m past, le-leb (4 - m) 0 (omega arith)) refl
]
four-is (true ∷ xs) m =
    let later = four-is xs 0 ∙ four-leading xs in
    let none : begins (false ∷ false ∷ false ∷ false ∷ []) (true ∷ xs) ≡ false = begins-leading (true ∷ xs) in
    rw (later, none) (elim (cases_lt m 4) [
      | inl below ↦ rw (lt-leb 4 m below, lt-leb (4 - m) 0 (omega arith)) refl
      | inr past ↦ rw (le-leb 4 m past, le-leb (4 - m) 0 (omega arith)) refl
    ])
four-is (false ∷ xs) m =
    let later = four-is xs (suc m) in
    let l : ℕ = leading xs in
    let first : begins (false ∷ false ∷ false ∷ false ∷ []) (false ∷ xs) ≡ nat_le 4 (suc l) = begins-leading (false ∷ xs) in
    rw (later, first) (elim (cases_lt (suc l) (4 - m)) [
      | inl few ↦ rw (lt-leb 4 m (omega arith), lt-leb (4 - suc m) l (omega arith), lt-leb (4 - m) (suc l) few, lt-leb 4 (suc l) (omega arith)) refl
      | inr enough ↦ rw (le-leb (4 - m) (suc l) enough, le-leb (4 - suc m) l (omega arith)) (elim (cases_Bool (nat_le 4 m)) [ inl t ↦ rw t refl | inr f ↦ rw f refl ])
    ])

four-all : (xs : List Bool) → four 0 xs ≡ has_four_misplaced xs
four-all xs = four-is xs 0 ∙ four-leading xs

pub four_misplaced-next : (xs : List Bool) (b : Bool) → has_four_misplaced (xs ++ b ∷ []) ≡ (has_four_misplaced xs || nat_le 4 (misplaced_after 0 (xs ++ b ∷ [])))
four_misplaced-next xs b =
    sym (four-all (xs ++ b ∷ [])) ∙ four-push xs 0 b ∙ ap (λ u. u || nat_le 4 (misplaced_after 0 (xs ++ b ∷ []))) (four-all xs)

or-self : (a : Bool) → a ≡ (a || a)
or-self true = refl
or-self false = refl

four-last : (xs : List Bool) (m : ℕ) → four m xs ≡ (four m xs || nat_le 4 (misplaced_after m xs))
unfolding four misplaced_after
four-last [] m = or-self (nat_le 4 m)
four-last (true ∷ xs) m = ap (λ u. nat_le 4 m || u) (four-last xs 0) ∙ or-assoc (nat_le 4 m) (four 0 xs) (nat_le 4 (misplaced_after 0 xs))
four-last (false ∷ xs) m = ap (λ u. nat_le 4 m || u) (four-last xs (suc m)) ∙ or-assoc (nat_le 4 m) (four (suc m) xs) (nat_le 4 (misplaced_after (suc m) xs))

-- with the reading of an alignment character, or of another one
pub four_misplaced-more : (xs : List Bool) (a : Option Bool)
    → has_four_misplaced (xs ++ with_option a []) ≡ (has_four_misplaced xs || nat_le 4 (misplaced_after 0 (xs ++ with_option a [])))
four_misplaced-more xs (Some b) = four_misplaced-next xs b
four_misplaced-more xs None =
    let same : xs ++ [] ≡ xs = append-nil xs in
    rw (same, ← four-all xs) (four-last xs 0)

-- counted up to four
pub up_to_four : (n : ℕ) (a : Option Bool) → min 4 (misplaced_after (min 4 n) (with_option a [])) ≡ min 4 (misplaced_after n (with_option a []))
unfolding misplaced_after
up_to_four n (Some true) = refl
up_to_four n (Some false) = omega arith
up_to_four n None = omega arith

pub four-of_min : (n : ℕ) → nat_le 4 (min 4 n) ≡ nat_le 4 n
four-of_min n = elim (cases_lt n 4) [
  | inl below ↦ rw (lt-leb 4 (min 4 n) (omega arith), lt-leb 4 n below) refl
  | inr past ↦ rw (le-leb 4 (min 4 n) (omega arith), le-leb 4 n past) refl
]
