-- Draws, and lists of what was drawn.
use Rattle.std.proofs.Common.{◌≡◌, ◌<◌, ◌∙◌, ℕ, zero, suc, ◌+◌, ◌*◌, ◌/◌, ◌%◌, ◌^◌, List, [], ◌∷◌, ◌++◌, map, ap, ap₂, sym, arith}
use Rattle.std.proofs.Math.Nat.{mod-add-mod}
use Rattle.std.proofs.lemmas.List.{map-append}
use Rattle.std.proofs.lemmas.List.Elements.{All-nil, All-cons}
use Rattle.std.specs.List.{All}
use Rattle.scenario.specs.Generated.{draw, state}
use Rattle.scenario.specs.Plans.{numbers_from}

-- the state after one draw more
pub state-next : (number k now : ℕ) → now ≡ state number k
    → (now * 6364136223846793005 % 2 ^ 64 + 1442695040888963407) % 2 ^ 64 ≡ state number (k + 1)
unfolding state
state-next number k now is =
    let next : suc k ≡ k + 1 = omega arith in
    mod-add-mod (now * 6364136223846793005) (2 ^ 64) 1442695040888963407
    ∙ ap (λ s. (s * 6364136223846793005 + 1442695040888963407) % 2 ^ 64) is
    ∙ ap (λ n. state number n) next

pub draw-is : (number k now n : ℕ) → now ≡ state number (k + 1) → now / 2 ^ 33 % n ≡ draw number k n
unfolding draw
draw-is number k now n is = ap (λ s. s / 2 ^ 33 % n) is

-- the state does not depend on how its number is written
pub state-at : (number j k : ℕ) → j ≡ k → state number j ≡ state number k
state-at number j k e = ap (λ n. state number n) e

pub draw-at : (number j k n : ℕ) → j ≡ k → draw number j n ≡ draw number k n
draw-at number j k n e = ap (λ i. draw number i n) e

numbers-more : (n a : ℕ) → numbers_from a (n + 1) ≡ numbers_from a n ++ (a + n) ∷ []
unfolding numbers_from
numbers-more zero a = let e : a ≡ a + 0 = omega arith in ap (λ (x : ℕ). x ∷ []) e
numbers-more (suc n) a =
    let e : suc a + n ≡ a + suc n = omega arith in
    let next : suc n + 1 ≡ suc (n + 1) = omega arith in
    ap (λ k. numbers_from a k) next
    ∙ ap (λ (xs : List ℕ). a ∷ xs)
    (numbers-more n (suc a) ∙ ap (λ (x : ℕ). numbers_from (suc a) n ++ x ∷ []) e)

-- one item more of a list that is drawn item by item
pub drawn-more : {X : Type 0} (f : ℕ → X) (n : ℕ) (xs ys : List X) (x : X) → ys ≡ xs ++ x ∷ []
    → xs ≡ map f (numbers_from 0 n) → x ≡ f n → ys ≡ map f (numbers_from 0 (n + 1))
drawn-more {X} f n xs ys x pushed before here =
    let e : 0 + n ≡ n = omega arith in
    pushed ∙ ap₂ (λ (zs : List X) (z : X). zs ++ z ∷ []) before here
    ∙ sym (ap (λ (ks : List ℕ). map f ks) (numbers-more n 0)
    ∙ ap (λ (k : ℕ). map f (numbers_from 0 n ++ k ∷ [])) e
    ∙ map-append f (numbers_from 0 n) (n ∷ []))

-- no items are drawn yet
pub none-drawn : {X : Type 0} (f : ℕ → X) (xs : List X) → xs ≡ [] → xs ≡ map f (numbers_from 0 0)
unfolding numbers_from
none-drawn f xs none = none

all-from : {X : Type 0} (P : X → Type 0) (f : ℕ → X) (n a : ℕ)
    → ((i : ℕ) → i < a + n → P (f i)) → All P (map f (numbers_from a n))
unfolding numbers_from
all-from P f zero a each = All-nil P
all-from P f (suc n) a each = All-cons P (f a) (map f (numbers_from (suc a) n))
    (each a (omega arith)) (all-from P f n (suc a) (λ i lt. each i (omega arith)))

-- what holds for each item that is drawn holds for all
pub all-drawn : {X : Type 0} (P : X → Type 0) (f : ℕ → X) (n : ℕ)
    → ((i : ℕ) → i < n → P (f i)) → All P (map f (numbers_from 0 n))
all-drawn P f n each = all-from P f n 0 (λ i lt. each i (omega arith))
