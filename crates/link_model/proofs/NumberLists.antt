-- Numbers in a row, and what a function gives at each of them.
use Rattle.std.proofs.Common.{◌≡◌, ℕ, zero, suc, ◌+◌, ◌-◌, ◌<◌, ◌≤◌, [], ◌∷◌, ◌++◌, length, map, get_or, refl, sym, ap, ap₂, ◌∙◌, add-zero, arith}
use Rattle.scenario.specs.Plans.{numbers_from}

pub length-numbers : (n a : ℕ) → length (numbers_from a n) ≡ n
unfolding numbers_from
length-numbers zero a = refl
length-numbers (suc n) a = ap suc (length-numbers n (suc a))

pub get_or-numbers : (n i a d : ℕ) → i < n → get_or (numbers_from a n) i d ≡ a + i
unfolding numbers_from
get_or-numbers zero i a d below = absurd (omega arith)
get_or-numbers (suc n) zero a d below = sym (add-zero a)
get_or-numbers (suc n) (suc i) a d below =
    let e : suc a + i ≡ a + suc i = omega arith in
    get_or-numbers n i (suc a) d (omega arith) ∙ e

-- one number more at the end
pub numbers-more : (n a : ℕ) → numbers_from a (suc n) ≡ numbers_from a n ++ (a + n) ∷ []
unfolding numbers_from
numbers-more zero a = ap (λ k. k ∷ []) (sym (add-zero a))
numbers-more (suc n) a =
    let e : suc a + n ≡ a + suc n = omega arith in
    ap (λ l. a ∷ l) (numbers-more n (suc a)) ∙ ap (λ k. a ∷ (numbers_from (suc a) n ++ k ∷ [])) e

-- the numbers from r up to t
pub numbers-to : (r t : ℕ) → r ≤ t → numbers_from r (t + 1 - r) ≡ numbers_from r (t - r) ++ t ∷ []
numbers-to r t below =
    let long : t + 1 - r ≡ suc (t - r) = omega arith in
    let last : r + (t - r) ≡ t = omega arith in
    ap (numbers_from r) long ∙ numbers-more (t - r) r
    ∙ ap (λ k. numbers_from r (t - r) ++ k ∷ []) last

-- functions that agree at these numbers
pub map-numbers : {A : Type 0} (f g : ℕ → A) → (n a : ℕ) → ((x : ℕ) → x < a + n → f x ≡ g x)
    → map f (numbers_from a n) ≡ map g (numbers_from a n)
unfolding numbers_from
map-numbers f g zero a same = refl
map-numbers f g (suc n) a same =
    ap₂ (λ y l. y ∷ l) (same a (omega arith))
    (map-numbers f g n (suc a) (λ x below. same x (omega arith)))

pub map-shift : {A : Type 0} (f : ℕ → A) → (n a b : ℕ)
    → map f (numbers_from (b + a) n) ≡ map (λ j. f (b + j)) (numbers_from a n)
unfolding numbers_from
map-shift f zero a b = refl
map-shift f (suc n) a b =
    let e : suc (b + a) ≡ b + suc a = omega arith in
    ap (λ l. f (b + a) ∷ l) (ap (λ k. map f (numbers_from k n)) e ∙ map-shift f n (suc a) b)

pub numbers-append : (m n a : ℕ)
    → numbers_from a (m + n) ≡ numbers_from a m ++ numbers_from (a + m) n
unfolding numbers_from
numbers-append zero n a =
    let e : a ≡ a + 0 = omega arith in
    let z : 0 + n ≡ n = omega arith in
    ap (numbers_from a) z ∙ ap (λ k. numbers_from k n) e
numbers-append (suc m) n a =
    let e : suc a + m ≡ a + suc m = omega arith in
    let z : suc m + n ≡ suc (m + n) = omega arith in
    ap (numbers_from a) z
    ∙ ap (λ l. a ∷ l) (numbers-append m n (suc a)
    ∙ ap (λ k. numbers_from (suc a) m ++ numbers_from k n) e)
