-- Masks of phases, and their bits.
use Rattle.std.proofs.Common.{◌≡◌, ℕ, suc, ◌+◌, ◌-◌, ◌/◌, ◌%◌, ◌^◌, ◌<◌, ◌==◌, Bool, true, false, refl, sym, ap, ◌∙◌, inl, inr, arith, bit_and}
use Rattle.std.specs.Prelude.{bit_or, bit_xor, min, max, not, ◌&&◌, ◌||◌, ◌⊎◌}
use Rattle.std.specs.Int.{bit_at}
use Rattle.std.proofs.lemmas.Bool.{cases_lt}
use Rattle.std.proofs.lemmas.Nat.Bits.{bit_at_and, bit_at_or, bit_at_xor, bit_at-suc, bit_at-lt, bit_at_ones}
use Rattle.jesd_base.specs.Bits.{add}

one-of-two : (x : ℕ) → x < 2 → (x ≡ 0) ⊎ (x ≡ 1)
one-of-two x low = elim (cases_lt x 1) [ inl a ↦ inl (omega arith) | inr b ↦ inr (omega arith) ]

min-is : (x y : ℕ) → x < 2 → y < 2 → (min x y == 1) ≡ ((y == 1) && (x == 1))
min-is x y a b = elim (one-of-two x a) [
  | inl p ↦ elim (one-of-two y b) [ inl q ↦ rw (p, q) refl | inr q ↦ rw (p, q) refl ]
  | inr p ↦ elim (one-of-two y b) [ inl q ↦ rw (p, q) refl | inr q ↦ rw (p, q) refl ]
]

max-is : (x y : ℕ) → x < 2 → y < 2 → (max x y == 1) ≡ ((x == 1) || (y == 1))
max-is x y a b = elim (one-of-two x a) [
  | inl p ↦ elim (one-of-two y b) [ inl q ↦ rw (p, q) refl | inr q ↦ rw (p, q) refl ]
  | inr p ↦ elim (one-of-two y b) [ inl q ↦ rw (p, q) refl | inr q ↦ rw (p, q) refl ]
]

sum-is : (x y : ℕ) → x < 2 → y < 2 → ((x + y) % 2 == 1) ≡ add (y == 1) (x == 1)
sum-is x y a b = elim (one-of-two x a) [
  | inl p ↦ elim (one-of-two y b) [ inl q ↦ rw (p, q) refl | inr q ↦ rw (p, q) refl ]
  | inr p ↦ elim (one-of-two y b) [ inl q ↦ rw (p, q) refl | inr q ↦ rw (p, q) refl ]
]

pub and-is : (x y r : ℕ) → (bit_at (bit_and x y) r == 1) ≡ ((bit_at y r == 1) && (bit_at x r == 1))
and-is x y r = ap (λ t. t == 1) (bit_at_and x y r) ∙ min-is (bit_at x r) (bit_at y r) (bit_at-lt x r) (bit_at-lt y r)

pub or-is : (x y r : ℕ) → (bit_at (bit_or x y) r == 1) ≡ ((bit_at x r == 1) || (bit_at y r == 1))
or-is x y r = ap (λ t. t == 1) (bit_at_or x y r) ∙ max-is (bit_at x r) (bit_at y r) (bit_at-lt x r) (bit_at-lt y r)

pub xor-is : (x y r : ℕ) → (bit_at (bit_xor x y) r == 1) ≡ add (bit_at y r == 1) (bit_at x r == 1)
xor-is x y r = ap (λ t. t == 1) (bit_at_xor x y r) ∙ sum-is (bit_at x r) (bit_at y r) (bit_at-lt x r) (bit_at-lt y r)

pub good-is : (x r : ℕ) → (bit_at (bit_xor x (x / 2)) r == 1) ≡ add (bit_at x (1 + r) == 1) (bit_at x r == 1)
good-is x r = xor-is x (x / 2) r ∙ ap (λ t. add (t == 1) (bit_at x r == 1)) (sym (bit_at-suc x r) ∙ (let e : suc r ≡ 1 + r = omega arith in ap (bit_at x) e))

pub all-phases : (r : ℕ) → r < 66 → (bit_at (2 ^ 66 - 1) r == 1) ≡ true
all-phases r low = ap (λ t. t == 1) (bit_at_ones 66 r low)

pilot-by : (o a b c d : Bool) → add (((a || b) || c) || d) (o || (((a || b) || c) || d)) ≡ (o && (not a && (not b && (not c && not d))))
pilot-by true true true true true = refl
pilot-by true true true true false = refl
pilot-by true true true false true = refl
pilot-by true true true false false = refl
pilot-by true true false true true = refl
pilot-by true true false true false = refl
pilot-by true true false false true = refl
pilot-by true true false false false = refl
pilot-by true false true true true = refl
pilot-by true false true true false = refl
pilot-by true false true false true = refl
pilot-by true false true false false = refl
pilot-by true false false true true = refl
pilot-by true false false true false = refl
pilot-by true false false false true = refl
pilot-by true false false false false = refl
pilot-by false true true true true = refl
pilot-by false true true true false = refl
pilot-by false true true false true = refl
pilot-by false true true false false = refl
pilot-by false true false true true = refl
pilot-by false true false true false = refl
pilot-by false true false false true = refl
pilot-by false true false false false = refl
pilot-by false false true true true = refl
pilot-by false false true true false = refl
pilot-by false false true false true = refl
pilot-by false false true false false = refl
pilot-by false false false true true = refl
pilot-by false false false true false = refl
pilot-by false false false false true = refl
pilot-by false false false false false = refl

pub pilot-is : (x a b c d r : ℕ) → (let z = bit_or (bit_or (bit_or a b) c) d in (bit_at (bit_xor (bit_or x z) z) r == 1)
    ≡ ((bit_at x r == 1) && (not (bit_at a r == 1) && (not (bit_at b r == 1) && (not (bit_at c r == 1) && not (bit_at d r == 1))))))
pilot-is x a b c d r =
    let z : ℕ = bit_or (bit_or (bit_or a b) c) d in
    let zs : (bit_at z r == 1) ≡ ((((bit_at a r == 1) || (bit_at b r == 1)) || (bit_at c r == 1)) || (bit_at d r == 1)) =
    or-is (bit_or (bit_or a b) c) d r
    ∙ ap (λ t. t || (bit_at d r == 1)) (or-is (bit_or a b) c r ∙ ap (λ t. t || (bit_at c r == 1)) (or-is a b r)) in
    xor-is (bit_or x z) z r
    ∙ ap (λ t. add (bit_at z r == 1) t) (or-is x z r)
    ∙ ap (λ t. add t ((bit_at x r == 1) || t)) zs
    ∙ pilot-by (bit_at x r == 1) (bit_at a r == 1) (bit_at b r == 1) (bit_at c r == 1) (bit_at d r == 1)
