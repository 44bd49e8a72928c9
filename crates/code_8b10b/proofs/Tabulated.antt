-- Facts at each number below a bound, by computing them all.
use Rattle.std.proofs.Common.{◌≡◌, ℕ, zero, suc, ◌<◌, List, [], ◌∷◌, arith, inl, inr}
use Rattle.std.proofs.lemmas.Bool.{cases_lt}

-- what a function gives at n - 1, n - 2 and so on
abbrev pub tabulated : {A : Type 0} → (ℕ → A) → ℕ → List A
tabulated f zero = []
tabulated f (suc n) = f n ∷ tabulated f n

pub same_below : {A : Type 0} (f g : ℕ → A) (n k : ℕ) → tabulated f n ≡ tabulated g n → k < n → f k ≡ g k
same_below f g zero k e lt = absurd (omega arith)
same_below {A} f g (suc n) k e lt =
    let head : f n ≡ g n = cc in
    let tail : ◌≡◌ {A = List A} (tabulated f n) (tabulated g n) = cc in
    elim (cases_lt k n) [
      | inl below ↦ same_below f g n k tail below
      | inr top ↦ let e : k ≡ n = omega arith in rw e head
    ]
