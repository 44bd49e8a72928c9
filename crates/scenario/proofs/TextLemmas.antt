-- Facts on the written forms of fields.
use Rattle.std.proofs.Common.{◌≡◌, ◌≤◌, ◌<◌, ◌+◌, ◌*◌, ◌^◌, ◌∙◌, suc, ℕ, true, false, List, [], ◌∷◌, ◌++◌, None, length, take, drop, get_or, refl, sym, ap, arith, add-one}
use Rattle.std.proofs.Math.Seq.{drop-cons}
use Rattle.std.proofs.Math.Nat.{pow-le-pow_right, pow-suc, mul-le-mul_left}
use Rattle.std.proofs.lemmas.Bool.Decides.{nat_tests}
use Rattle.std.proofs.lemmas.List.{take_all, take_more}
use Rattle.std.specs.Char.{digit_value, is_digit}
use Rattle.scenario.specs.Text.{value_after, strip_start, strip_end, is_blank}

is_digit-true : (c radix : ℕ) → digit_value c < radix → is_digit c radix ≡ true
is_digit-true c radix h = grind (arith, nat_tests)

is_digit-false : (c radix : ℕ) → (digit_value c < radix → ⊥) → is_digit c radix ≡ false
is_digit-false c radix h = grind (arith, nat_tests)

digit_first : (radix v c : ℕ) (rest : List ℕ) → is_digit c radix ≡ true
    → value_after radix v (c ∷ rest) ≡ value_after radix (v * radix + digit_value c) rest
digit_first radix v c rest h = rw h refl

other_first : (radix v c : ℕ) (rest : List ℕ) → is_digit c radix ≡ false
    → value_after radix v (c ∷ rest) ≡ None
other_first radix v c rest h = rw h refl

-- one digit more
pub value_after-more : (xs : List ℕ) (i radix v d : ℕ) → i < length xs
    → digit_value (get_or xs i 0) < radix → d ≡ digit_value (get_or xs i 0)
    → value_after radix (v * radix + d) (drop (i + 1) xs) ≡ value_after radix v (drop i xs)
value_after-more xs i radix v d h low e =
    rw (drop-cons xs i 0 h, add-one i, e)
    (sym (digit_first radix v (get_or xs i 0) (drop (suc i) xs)
    (is_digit-true (get_or xs i 0) radix low)))

-- no digit
pub value_after-other : (xs : List ℕ) (i radix v : ℕ) → i < length xs
    → (digit_value (get_or xs i 0) < radix → ⊥)
    → value_after radix v (drop i xs) ≡ None
value_after-other xs i radix v h none =
    rw (drop-cons xs i 0 h)
    (other_first radix v (get_or xs i 0) (drop (suc i) xs)
    (is_digit-false (get_or xs i 0) radix none))

-- a number of few digits is small
pub pow_16 : (i n v : ℕ) → i ≤ n → v < 16 ^ i → v < 16 ^ n
pow_16 i n v le small = let up : 16 ^ i ≤ 16 ^ n =
    pow-le-pow_right (let z : 0 < 16 = omega arith in z) le in omega arith

pub pow_16_more : (i v radix d : ℕ) → radix ≤ 16 → d < radix → v < 16 ^ i
    → v * radix + d < 16 ^ (i + 1)
pow_16_more i v radix d high low small =
    let e : 16 ^ (i + 1) ≡ 16 ^ i * 16 = ap (λ k. 16 ^ k) (add-one i) ∙ pow-suc 16 i in
    let p : ℕ = 16 ^ i in
    let most : v * radix + d < (v + 1) * radix = omega arith in
    let up : (v + 1) * radix ≤ (v + 1) * 16 = mul-le-mul_left (v + 1) high in
    omega (arith, e)

-- ---- blanks
pub strip_start-blank : (c : ℕ) (rest : List ℕ) → is_blank c ≡ true
    → strip_start (c ∷ rest) ≡ strip_start rest
unfolding strip_start
strip_start-blank c rest h = rw h refl

pub strip_start-other : (c : ℕ) (rest : List ℕ) → is_blank c ≡ false → strip_start (c ∷ rest) ≡ c
    ∷ rest
unfolding strip_start
strip_start-other c rest h = rw h refl

pub strip_end-blank : (xs : List ℕ) (c : ℕ) → is_blank c ≡ true
    → strip_end (xs ++ c ∷ []) ≡ strip_end xs
unfolding strip_end
strip_end-blank [] c h = rw h refl
strip_end-blank (x ∷ xs) c h = rw (strip_end-blank xs c h) refl

pub strip_end-other : (xs : List ℕ) (c : ℕ) → is_blank c ≡ false → strip_end (xs ++ c ∷ []) ≡ xs
    ++ c ∷ []
unfolding strip_end
strip_end-other [] c h = rw h refl
strip_end-other (x ∷ []) c h = rw h refl
strip_end-other (x ∷ y ∷ xs) c h = rw (strip_end-other (y ∷ xs) c h) refl

pub strip_start-more : (xs : List ℕ) (n : ℕ) → 1 ≤ length xs → is_blank (get_or xs 0 0) ≡ true
    → n + 1 ≡ length xs → strip_start (take n (drop 1 xs)) ≡ strip_start xs
strip_start-more [] n some h e = absurd (omega arith)
strip_start-more (x ∷ xs) n some h e = let le : length xs ≤ n = omega arith in
    ap strip_start (take_all n xs le) ∙ sym (strip_start-blank x xs h)

pub strip_start-here : (xs : List ℕ) → is_blank (get_or xs 0 0) ≡ false → xs ≡ strip_start xs
unfolding strip_start
strip_start-here [] h = refl
strip_start-here (x ∷ xs) h = sym (strip_start-other x xs h)

pub strip_start-none : (xs : List ℕ) → length xs < 1 → xs ≡ strip_start xs
unfolding strip_start
strip_start-none [] h = refl
strip_start-none (x ∷ xs) h = absurd (omega arith)

pub with_last : (xs : List ℕ) (n : ℕ) → n + 1 ≡ length xs → xs ≡ take n xs ++ get_or xs n 0 ∷ []
with_last xs n e = let le : length xs ≤ n + 1 = omega arith in
    let lt : n < length xs = omega arith in sym (take_all (n + 1) xs le) ∙ take_more xs n 0 lt

pub strip_end-more : (xs : List ℕ) (n : ℕ) → n + 1 ≡ length xs → is_blank (get_or xs n 0) ≡ true
    → strip_end (take n xs) ≡ strip_end xs
strip_end-more xs n e h =
    sym (ap strip_end (with_last xs n e) ∙ strip_end-blank (take n xs) (get_or xs n 0) h)

pub strip_end-here : (xs : List ℕ) (n : ℕ) → n + 1 ≡ length xs → is_blank (get_or xs n 0) ≡ false
    → xs ≡ strip_end xs
strip_end-here xs n e h =
    sym (ap strip_end (with_last xs n e) ∙ strip_end-other (take n xs) (get_or xs n 0) h
    ∙ sym (with_last xs n e))

pub strip_end-none : (xs : List ℕ) → length xs < 1 → xs ≡ strip_end xs
unfolding strip_end
strip_end-none [] h = refl
strip_end-none (x ∷ xs) h = absurd (omega arith)
