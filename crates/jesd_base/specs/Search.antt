-- The first place that passes a test.
-- Code: loops, or arithmetic, where a search is used.
use Rattle.std.specs.Prelude.{◌≡◌, ℕ, zero, suc, ◌+◌, ◌<◌, ◌≤◌, Bool, true, false, if◌then◌else◌, Option, Some, None}

-- the least number from p on, among n numbers, that passes the test
unfoldable pub first_from : (ℕ → Bool) → ℕ → ℕ → Option ℕ
first_from test zero p = None
first_from test (suc n) p = let later = first_from test n (suc p) in if test p then Some p else later

-- what the first number from p on, among n numbers, gives
unfoldable pub first_found : {A : Type 0} → (ℕ → Option A) → ℕ → ℕ → Option A
first_found f zero p = None
first_found {A} f (suc n) p = elim (f p) as (λ o. Option A) [ Some x ↦ Some x | None ↦ first_found f n (suc p) ]

-- x is the least number from p on that passes the test
pub record IsLeast (test : ℕ → Bool) (p x : ℕ) : Type 0 where
  pub from : p ≤ x
  pub passes : test x ≡ true
  pub least : (y : ℕ) → p ≤ y → y < x → test y ≡ false

-- the search finds exactly the least number, and none exactly where none passes
abbrev pub FindsLeast : Type 0
FindsLeast = (test : ℕ → Bool) (n p x : ℕ) → (first_from test n p ≡ Some x → IsLeast test p x × (x < p + n))
    × (IsLeast test p x → x < p + n → first_from test n p ≡ Some x)

abbrev pub FindsNone : Type 0
FindsNone = (test : ℕ → Bool) (n p : ℕ) → (first_from test n p ≡ None → (y : ℕ) → p ≤ y → y < p + n → test y ≡ false)
    × (((y : ℕ) → p ≤ y → y < p + n → test y ≡ false) → first_from test n p ≡ None)
