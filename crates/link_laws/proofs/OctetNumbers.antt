-- The octets of a number that was made of octets, the first most significant.
use Rattle.std.proofs.Common.{◌≡◌, ℕ, zero, suc, ◌+◌, ◌*◌, ◌^◌, ◌<◌, Bool, List, [], ◌∷◌, ◌++◌, length, fold, take, drop, refl, sym, ap, ap₂, ◌∙◌, append-nil, arith}
use Rattle.std.specs.List.{flat_map}
use Rattle.std.proofs.Math.Nat.{mod-eq_of_lt}
use Rattle.std.proofs.lemmas.List.{take-append-le, take_all}
use Rattle.std.proofs.lemmas.List.Concat.{flat_map-append}
use Rattle.std.proofs.lemmas.List.Sums.{fold_push}
use Rattle.jesd_base.specs.Bits.{bits, value}
use Rattle.jesd_base.proofs.BitLemmas.{bits_length, bits_of_both, value_of_bits}
use Rattle.scenario.specs.Plans.{numbers_from}
use Rattle.link_model.proofs.NumberLists.{numbers-more}

abbrev pub number_of : (ℕ → ℕ) → ℕ → ℕ
number_of f n = fold (λ v j. 256 * v + f j) 0 (numbers_from 0 n)

number-more : (n : ℕ) (f : ℕ → ℕ) → number_of f (suc n) ≡ 256 * number_of f n + f n
number-more n f =
    let here : 0 + n ≡ n = omega arith in
    ap (fold (λ v j. 256 * v + f j) 0)
    (numbers-more n 0 ∙ ap (λ k. numbers_from 0 n ++ k ∷ []) here)
    ∙ fold_push (λ v j. 256 * v + f j) 0 (numbers_from 0 n) n

no-bits : (x : ℕ) → bits (8 * 0) x ≡ []
unfolding bits
no-bits x = refl

-- its bits are those of its octets, one after another
pub bits-of-octets : (n : ℕ) (f : ℕ → ℕ) → ((j : ℕ) → j < n → f j < 256)
    → bits (8 * n) (number_of f n) ≡ flat_map (λ j. bits 8 (f j)) (numbers_from 0 n)
unfolding numbers_from
bits-of-octets zero f small = no-bits (number_of f 0)
bits-of-octets (suc n) f small =
    let more : 8 * suc n ≡ 8 * n + 8 = omega arith in
    let turn : 256 * number_of f n + f n ≡ number_of f n * 2 ^ 8 + f n = omega arith in
    let here : 0 + n ≡ n = omega arith in
    ap₂ bits more (number-more n f ∙ turn)
    ∙ bits_of_both (8 * n) 8 (number_of f n) (f n) (small n (omega arith))
    ∙ ap (λ l. l ++ bits 8 (f n)) (bits-of-octets n f (λ j below. small j (omega arith)))
    ∙ sym (ap (flat_map (λ j. bits 8 (f j)))
    (numbers-more n 0 ∙ ap (λ k. numbers_from 0 n ++ k ∷ []) here)
    ∙ flat_map-append (λ j. bits 8 (f j)) (numbers_from 0 n) (n ∷ [])
    ∙ ap (λ l. flat_map (λ j. bits 8 (f j)) (numbers_from 0 n) ++ l) (append-nil (bits 8 (f n))))

drop-past : (n k : ℕ) (xs ys : List Bool) → length xs ≡ n → drop (n + k) (xs ++ ys) ≡ drop k ys
drop-past zero k [] ys long = let z : 0 + k ≡ k = omega arith in ap (λ (m : ℕ). drop m ys) z
drop-past (suc n) k [] ys long = absurd (omega arith)
drop-past zero k (x ∷ xs) ys long = absurd (omega arith)
drop-past (suc n) k (x ∷ xs) ys long = let e : suc n + k ≡ suc (n + k) = omega arith in
    ap (λ (m : ℕ). drop m (x ∷ (xs ++ ys))) e ∙ drop-past n k xs ys (omega arith)

-- octet i of a list of octets' bits
octet-at : (n a i : ℕ) (f : ℕ → ℕ) → i < n
    → take 8 (drop (8 * i) (flat_map (λ j. bits 8 (f j)) (numbers_from a n))) ≡ bits 8 (f (a + i))
unfolding numbers_from
octet-at zero a i f below = absurd (omega arith)
octet-at (suc n) a zero f below =
    let long = bits_length 8 (f a) in
    let none : 8 * 0 ≡ 0 = omega arith in
    let here : a ≡ a + 0 = omega arith in
    let rest : List Bool = flat_map (λ j. bits 8 (f j)) (numbers_from (suc a) n) in
    ap (λ k. take 8 (drop k (bits 8 (f a) ++ rest))) none ∙ take-append-le 8 (bits 8 (f a)) rest
    (omega arith) ∙ take_all 8 (bits 8 (f a)) (omega arith) ∙ ap (λ k. bits 8 (f k)) here
octet-at (suc n) a (suc i) f below =
    let long = bits_length 8 (f a) in
    let more : 8 * suc i ≡ 8 + 8 * i = omega arith in
    let here : suc a + i ≡ a + suc i = omega arith in
    let rest : List Bool = flat_map (λ j. bits 8 (f j)) (numbers_from (suc a) n) in
    ap (take 8) (ap (λ k. drop k (bits 8 (f a) ++ rest)) more
    ∙ drop-past 8 (8 * i) (bits 8 (f a)) rest long)
    ∙ octet-at n (suc a) i f (omega arith) ∙ ap (λ k. bits 8 (f k)) here

-- octet i of a number of n octets
pub octet-of-number : (n i : ℕ) (f : ℕ → ℕ) → i < n → ((j : ℕ) → j < n → f j < 256)
    → value (take 8 (drop (8 * i) (bits (8 * n) (number_of f n)))) ≡ f i
octet-of-number n i f inside small =
    let here : 0 + i ≡ i = omega arith in
    ap (λ l. value (take 8 (drop (8 * i) l))) (bits-of-octets n f small)
    ∙ ap value (octet-at n 0 i f inside ∙ ap (λ k. bits 8 (f k)) here)
    ∙ value_of_bits 8 (f i) ∙ mod-eq_of_lt (small i inside)
