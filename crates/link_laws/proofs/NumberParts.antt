-- Parts of numbers in a row, and rows put together.
use Rattle.std.proofs.Common.{◌≡◌, ℕ, zero, suc, ◌+◌, ◌*◌, ◌<◌, ◌≤◌, List, [], ◌∷◌, ◌++◌, length, map, take, drop, get_or, refl, sym, ap, ap₂, ◌∙◌, arith}
use Rattle.std.specs.List.{flat_map}
use Rattle.std.proofs.lemmas.List.{map-append}
use Rattle.scenario.specs.Plans.{numbers_from}
use Rattle.link_model.proofs.NumberLists.{map-numbers}
use Rattle.link_laws.proofs.Delivered.{numbers-split}
use Rattle.link_laws.proofs.EntryShapes.{shifted}

take-numbers : {A : Type 0} (k n x : ℕ) (f : ℕ → A) → k ≤ n
    → take k (map f (numbers_from x n)) ≡ map f (numbers_from x k)
unfolding numbers_from
take-numbers zero n x f few = refl
take-numbers (suc k) zero x f few = absurd (omega arith)
take-numbers (suc k) (suc n) x f few = ap (λ l. f x ∷ l) (take-numbers k n (suc x) f (omega arith))

part-from : {A : Type 0} (a n x k : ℕ) (f : ℕ → A) → a + k ≤ n
    → take k (drop a (map f (numbers_from x n))) ≡ map f (numbers_from (x + a) k)
unfolding numbers_from
part-from zero n x k f few = let here : x ≡ x + 0 = omega arith in
    take-numbers k n x f (omega arith) ∙ ap (λ (y : ℕ). map f (numbers_from y k)) here
part-from (suc a) zero x k f few = absurd (omega arith)
part-from (suc a) (suc n) x k f few =
    let next : suc x + a ≡ x + suc a = omega arith in
    part-from a n (suc x) k f (omega arith) ∙ ap (λ (y : ℕ). map f (numbers_from y k)) next

-- k numbers from a on
pub part-numbers : {A : Type 0} (a n k : ℕ) (f : ℕ → A) → a + k ≤ n
    → take k (drop a (map f (numbers_from 0 n))) ≡ map f (numbers_from a k)
part-numbers a n k f few = let here : 0 + a ≡ a = omega arith in part-from a n 0 k f few
    ∙ ap (λ (y : ℕ). map f (numbers_from y k)) here

pub map-flat-map : {A B C : Type 0} (g : B → C) (f : A → List B) (xs : List A)
    → map g (flat_map f xs) ≡ flat_map (λ x. map g (f x)) xs
map-flat-map g f [] = refl
map-flat-map g f (x ∷ xs) = map-append g (f x) (flat_map f xs)
    ∙ ap (λ l. map g (f x) ++ l) (map-flat-map g f xs)

-- functions that give the same lists at these numbers
pub flat-numbers : {A : Type 0} (f g : ℕ → List A) (n a : ℕ) → ((x : ℕ) → x < a + n → f x ≡ g x)
    → flat_map f (numbers_from a n) ≡ flat_map g (numbers_from a n)
unfolding numbers_from
flat-numbers f g zero a same = refl
flat-numbers f g (suc n) a same =
    ap₂ (λ x y. x ++ y) (same a (omega arith))
    (flat-numbers f g n (suc a) (λ x below. same x (omega arith)))

-- rows of k numbers are numbers in a row
pub rows-join : {A : Type 0} (n a k : ℕ) (f : ℕ → A)
    → flat_map (λ x. map (λ i. f (x * k + i)) (numbers_from 0 k)) (numbers_from a n)
    ≡ map f (numbers_from (a * k) (n * k))
unfolding numbers_from
rows-join zero a k f = let none : 0 ≡ 0 * k = omega arith in
    ap (λ (m : ℕ). map f (numbers_from (a * k) m)) none
rows-join (suc n) a k f =
    let more : k + n * k ≡ suc n * k = omega arith in
    let next : suc a * k ≡ a * k + k = omega arith in
    ap₂ (λ x y. x ++ y) (sym (shifted k (a * k) f))
    (rows-join n (suc a) k f ∙ ap (λ (y : ℕ). map f (numbers_from y (n * k))) next)
    ∙ sym (map-append f (numbers_from (a * k) k) (numbers_from (a * k + k) (n * k)))
    ∙ sym (ap (map f) (numbers-split k (n * k) (a * k)))
    ∙ ap (λ (m : ℕ). map f (numbers_from (a * k) m)) more

-- a list from its places
pub list-of-places : (xs : List ℕ) → map (λ i. get_or xs i 0) (numbers_from 0 (length xs)) ≡ xs
unfolding numbers_from
list-of-places [] = refl
list-of-places (x ∷ xs) =
    ap (λ l. x ∷ l) (shifted (length xs) 1 (λ i. get_or (x ∷ xs) i 0)
    ∙ map-numbers (λ i. get_or (x ∷ xs) (1 + i) 0) (λ i. get_or xs i 0) (length xs) 0
    (λ i below. let e : 1 + i ≡ suc i = omega arith in ap (λ (k : ℕ). get_or (x ∷ xs) k 0) e)
    ∙ list-of-places xs)
