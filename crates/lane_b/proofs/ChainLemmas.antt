-- Tens, readings and what follows the commas, over lists that are put together.
use Rattle.std.proofs.Common.{◌≡◌, ℕ, zero, suc, ◌+◌, ◌-◌, ◌*◌, ◌/◌, ◌≤◌, ◌<◌, Bool, true, false, List, [], ◌∷◌, ◌++◌, length, take, drop, refl, ◌∙◌, ap, arith, inl, inr, length-append, length-drop}
use Rattle.std.proofs.Math.Seq.{drop-drop, drop-append-le, take-append-le}
use Rattle.std.proofs.lemmas.Bool.{cases_Bool}
use Rattle.jesd_base.specs.Bits.{value}
use Rattle.code_8b10b.specs.declared.character.Rd.{Rd}
use Rattle.code_8b10b.specs.declared.character.Reading.{Reading}
use Rattle.code_8b10b.specs.Code.{after}
use Rattle.code_8b10b.specs.Reads.{reading, readings}
use Rattle.lane_b.specs.Locking.{tens, words_in, is_comma, from_other, is_empty}
use Rattle.lane_b.specs.kept.Senders.{rd_after}

pub tens-add : (m k : ℕ) (bs : List Bool) → tens (m + k) bs ≡ tens m bs ++ tens k (drop (10 * m) bs)
unfolding tens
tens-add zero k bs = let e : 0 + k ≡ k = omega arith in rw e refl
tens-add (suc m) k bs =
    let e : suc m + k ≡ suc (m + k) = omega arith in
    let f : 10 + 10 * m ≡ 10 * suc m = omega arith in
    let rest : tens (m + k) (drop 10 bs) ≡ tens m (drop 10 bs) ++ tens k (drop (10 * suc m) bs) =
    tens-add m k (drop 10 bs) ∙ ap (λ xs. tens m (drop 10 bs) ++ tens k xs) (drop-drop (10 * m) 10 bs ∙ ap (λ n. drop n bs) f) in
    rw e (ap (λ xs. value (take 10 bs) ∷ xs) rest)

pub tens-front : (m : ℕ) (xs ys : List Bool) → 10 * m ≤ length xs → tens m (xs ++ ys) ≡ tens m xs
unfolding tens
tens-front zero xs ys le = refl
tens-front (suc m) xs ys le =
    let l = length-drop 10 xs in
    let inside : 10 ≤ length xs = omega arith in
    let rest = tens-front m (drop 10 xs) ys (omega arith) in
    rw (take-append-le 10 xs ys inside, drop-append-le 10 xs ys inside, rest) refl

-- the tens that come with more bits
pub later_tens : List Bool → List Bool → List ℕ
later_tens xs ys = tens (length (xs ++ ys) / 10 - length xs / 10) (drop (10 * (length xs / 10)) (xs ++ ys))

pub words_in-append : (xs ys : List Bool) → words_in (xs ++ ys) ≡ words_in xs ++ later_tens xs ys
unfolding later_tens
words_in-append xs ys =
    let l = length-append xs ys in
    let m : ℕ = length xs / 10 in
    let k : ℕ = length (xs ++ ys) / 10 - length xs / 10 in
    let e : length (xs ++ ys) / 10 ≡ m + k = omega arith in
    let front = tens-front m xs ys (omega arith) in
    ap (λ n. tens n (xs ++ ys)) e ∙ tens-add m k (xs ++ ys) ∙ ap (λ ws. ws ++ tens k (drop (10 * m) (xs ++ ys))) front

pub later_tens-ten : (xs ys : List Bool) → length ys ≡ 10 → later_tens xs ys ≡ value (take 10 (drop (10 * (length xs / 10)) (xs ++ ys))) ∷ []
unfolding later_tens tens
later_tens-ten xs ys ten =
    let l = length-append xs ys in
    let e : length (xs ++ ys) / 10 - length xs / 10 ≡ 1 = omega arith in
    rw e refl

pub length-tens : (n : ℕ) (bs : List Bool) → length (tens n bs) ≡ n
unfolding tens
length-tens zero bs = refl
length-tens (suc n) bs = ap suc (length-tens n (drop 10 bs))

-- ---- readings

pub readings-append : (xs : List ℕ) (rd : Rd) (ys : List ℕ) → readings rd (xs ++ ys) ≡ readings rd xs ++ readings (rd_after rd xs) ys
unfolding readings rd_after
readings-append [] rd ys = refl
readings-append (x ∷ xs) rd ys = ap (λ rs. reading rd x ∷ rs) (readings-append xs (after rd x) ys)

pub rd_after-append : (xs : List ℕ) (rd : Rd) (ys : List ℕ) → rd_after rd (xs ++ ys) ≡ rd_after (rd_after rd xs) ys
unfolding rd_after
rd_after-append [] rd ys = refl
rd_after-append (x ∷ xs) rd ys = rd_after-append xs (after rd x) ys

pub length-readings : (xs : List ℕ) (rd : Rd) → length (readings rd xs) ≡ length xs
unfolding readings
length-readings [] rd = refl
length-readings (x ∷ xs) rd = ap suc (length-readings xs (after rd x))

-- ---- what follows the commas

pub from_other-append_none : (xs ys : List Reading) → from_other xs ≡ [] → from_other (xs ++ ys) ≡ from_other ys
unfolding from_other
from_other-append_none [] ys e = refl
from_other-append_none (x ∷ xs) ys e = elim (cases_Bool (is_comma x)) [
  | inl comma ↦ rw comma (from_other-append_none xs ys (rw comma at e))
  | inr other ↦ let f : ◌≡◌ {A = List Reading} (x ∷ xs) [] = rw other at e in cc
]

pub from_other-append_some : (xs ys : List Reading) → is_empty (from_other xs) ≡ false → from_other (xs ++ ys) ≡ from_other xs ++ ys
unfolding from_other
from_other-append_some [] ys e = cc
from_other-append_some (x ∷ xs) ys e = elim (cases_Bool (is_comma x)) [
  | inl comma ↦ rw comma (from_other-append_some xs ys (rw comma at e))
  | inr other ↦ rw other refl
]

pub length-from_other : (xs : List Reading) → length (from_other xs) ≤ length xs
unfolding from_other
length-from_other [] = omega arith
length-from_other (x ∷ xs) = elim (cases_Bool (is_comma x)) [
  | inl comma ↦ let h = length-from_other xs in rw comma (omega arith)
  | inr other ↦ rw other (omega arith)
]

pub is_empty-length : {A : Type 0} (xs : List A) → is_empty xs ≡ false → 0 < length xs
is_empty-length [] e = cc
is_empty-length (x ∷ xs) e = omega arith

pub is_empty-nil : {A : Type 0} (xs : List A) → is_empty xs ≡ true → xs ≡ []
is_empty-nil [] e = refl
is_empty-nil (x ∷ xs) e = cc

pub is_empty-append : {A : Type 0} (xs ys : List A) → is_empty xs ≡ false → is_empty (xs ++ ys) ≡ false
is_empty-append [] ys e = cc
is_empty-append (x ∷ xs) ys e = refl
