-- The least place of the forty bits, from any bit on and in longer lists.
use Rattle.std.proofs.Common.{◌≡◌, ℕ, zero, suc, ◌+◌, ◌-◌, ◌≤◌, ◌<◌, Bool, List, [], ◌∷◌, ◌++◌, length, take, drop, Option, Some, None, option_map, refl, sym, ◌∙◌, ap, arith, inl, inr}
use Rattle.std.proofs.lemmas.Bool.{cases_Bool, cases_lt}
use Rattle.jesd_base.specs.Bits.{value}
use Rattle.code_8b10b.specs.declared.character.Rd.TheVariants.{Minus}
use Rattle.code_8b10b.specs.declared.hunt.Lock.{Lock}
use Rattle.code_8b10b.specs.Code.{after}
use Rattle.code_8b10b.specs.Commas.{begins_lock, least_place, found}
use Rattle.code_8b10b.proofs.Places.{finds_least_place, stands_at-short, stands_at-append, nowhere-found}

least_place-suc : (bs : List Bool) (x : ℕ) → least_place (suc x) bs ≡ option_map suc (least_place x bs)
unfolding least_place
least_place-suc [] x = refl
least_place-suc (b ∷ bs) x = elim (cases_Bool (begins_lock (b ∷ bs))) [
  | inl here ↦ rw here refl
  | inr apart ↦ rw apart (least_place-suc bs (suc x))
]

option_map-add : (o : Option ℕ) (x : ℕ) → option_map suc (option_map (λ y. x + y) o) ≡ option_map (λ y. suc x + y) o
option_map-add None x = refl
option_map-add (Some y) x = let e : suc (x + y) ≡ suc x + y = omega arith in ap Some e

option_map-zero : (o : Option ℕ) → o ≡ option_map (λ y. 0 + y) o
option_map-zero None = refl
option_map-zero (Some y) = let e : y ≡ 0 + y = omega arith in ap Some e

-- places that are counted from another number
pub least_place-from : (x : ℕ) (bs : List Bool) → least_place x bs ≡ option_map (λ y. x + y) (least_place 0 bs)
least_place-from zero bs = option_map-zero (least_place 0 bs)
least_place-from (suc x) bs = least_place-suc bs x ∙ ap (option_map suc) (least_place-from x bs) ∙ option_map-add (least_place 0 bs) x

pub inside_of : (bs : List Bool) (z : ℕ) → least_place 0 bs ≡ Some z → z + 40 ≤ length bs
inside_of bs z e = elim (cases_lt (length bs) (z + 40)) [
  | inl short ↦
      let no = stands_at-short bs z short in
      let yes = ((finds_least_place bs z).0 e).stands in
      cc
  | inr fits ↦ fits
]

-- a place that was found stays
pub least_place-append : (xs ys : List Bool) (z : ℕ) → least_place 0 xs ≡ Some z → least_place 0 (xs ++ ys) ≡ Some z
least_place-append xs ys z e =
    let is = (finds_least_place xs z).0 e in
    let fits = inside_of xs z e in
    (finds_least_place (xs ++ ys) z).1 (record {
      stands = stands_at-append xs ys z fits ∙ is.stands;
      least = λ y lt. let le : y + 40 ≤ length xs = omega arith in stands_at-append xs ys y le ∙ is.least y lt;
    })

from_zero : (x : ℕ) (bs : List Bool) (o : Option ℕ) (y : ℕ) → option_map (λ z. x + z) o ≡ Some y → (z : ℕ) × (o ≡ Some z) × (y ≡ x + z)
from_zero x bs None y e = cc
from_zero x bs (Some z) y e = let f : y ≡ x + z = cc in (z, refl, f)

-- the place of a lock, from bit x on
pub zero_place : (x : ℕ) (bs : List Bool) (y : ℕ) → least_place x bs ≡ Some y → (z : ℕ) × (least_place 0 bs ≡ Some z) × (y ≡ x + z)
zero_place x bs y e = from_zero x bs (least_place 0 bs) y (sym (least_place-from x bs) ∙ e)

pub least_place-append_from : (x : ℕ) (xs ys : List Bool) (y : ℕ) → least_place x xs ≡ Some y → least_place x (xs ++ ys) ≡ Some y
least_place-append_from x xs ys y e =
    let p = zero_place x xs y e in
    let longer = least_place-append xs ys p.0 p.1 in
    least_place-from x (xs ++ ys) ∙ ap (option_map (λ z. x + z)) longer ∙ ap Some (sym p.2)

-- ---- what a hunt answers

found_place : List Bool → ℕ → Lock
found_place bs x = record { rest = length bs - (x + 40); rd = after Minus (value (take 10 (drop (x + 30) bs))) }

found_map : (bs : List Bool) (o : Option ℕ) (l : Lock) → option_map (found_place bs) o ≡ Some l → (z : ℕ) × (o ≡ Some z) × (l ≡ found_place bs z)
found_map bs None l e = cc
found_map bs (Some z) l e = let f : l ≡ found_place bs z = cc in (z, refl, f)

none_map : (bs : List Bool) (o : Option ℕ) → option_map (found_place bs) o ≡ None → o ≡ None
none_map bs None e = refl
none_map bs (Some z) e = cc

-- a hunt that answers with these ten bits: the place is not complete before them
pub record FoundNow (bs ten : List Bool) (l : Lock) : Type 0 where
  pub place : ℕ
  pub least : least_place 0 (bs ++ ten) ≡ Some place
  pub inside : place + 40 ≤ length (bs ++ ten)
  pub late : length bs < place + 40
  pub rest : l.rest ≡ length (bs ++ ten) - (place + 40)
  pub rd : l.rd ≡ after Minus (value (take 10 (drop (place + 30) (bs ++ ten))))

pub found_now : (bs ten : List Bool) (l : Lock) → found bs ≡ None → found (bs ++ ten) ≡ Some l → FoundNow bs ten l
unfolding found found_place
found_now bs ten l none e =
    let p = found_map (bs ++ ten) (least_place 0 (bs ++ ten)) l e in
    let is = (finds_least_place (bs ++ ten) p.0).0 p.1 in
    let before : length bs < p.0 + 40 = elim (cases_lt (length bs) (p.0 + 40)) [
      | inl late ↦ late
      | inr fits ↦
          let no = nowhere-found bs none p.0 in
          let same = stands_at-append bs ten p.0 fits in
          let yes = is.stands in
          cc
    ] in
    record {
      place = p.0;
      least = p.1;
      inside = inside_of (bs ++ ten) p.0 p.1;
      late = before;
      rest = ap (λ k. k.rest) p.2;
      rd = ap (λ k. k.rd) p.2;
    }

pub no_place : (x : ℕ) (bs : List Bool) → found bs ≡ None → least_place x bs ≡ None
unfolding found found_place
no_place x bs e = let none = none_map bs (least_place 0 bs) e in least_place-from x bs ∙ ap (option_map (λ z. x + z)) none
