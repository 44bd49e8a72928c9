-- The places of the forty bits in a list.
use Rattle.std.proofs.Common.{◌≡◌, ℕ, zero, suc, ◌+◌, ◌-◌, ◌<◌, ◌≤◌, Bool, true, false, List, [], ◌∷◌, ◌++◌, length, take, drop, Option, Some, None, option_map, refl, sym, ◌∙◌, ap, arith, inl, inr, length-drop}
use Rattle.std.proofs.Math.Seq.{drop-nil, drop-append-le, drop-drop}
use Rattle.std.proofs.lemmas.Bool.{cases_Bool, or_from}
use Rattle.jesd_base.specs.Bits.{bits, value}
use Rattle.code_8b10b.specs.declared.character.Rd.TheVariants.{Minus, Plus}
use Rattle.code_8b10b.specs.declared.hunt.Lock.{Lock}
use Rattle.code_8b10b.specs.Code.{after, after_six, after_four}
use Rattle.code_8b10b.specs.Commas.{begins, begins_lock, commas, other_commas, stands_at, least_place, found, HasHunted}
use Rattle.code_8b10b.specs.laws.CommaLaws.{IsLeastPlace, FindsLeastPlace, FindsNoPlace}

-- ---- what a list begins with

pub begins-self : (ps : List Bool) → begins ps ps ≡ true
unfolding begins
begins-self [] = refl
begins-self (true ∷ ps) = begins-self ps
begins-self (false ∷ ps) = begins-self ps

pub begins-append : (ps xs ys : List Bool) → length ps ≤ length xs → begins ps (xs ++ ys) ≡ begins ps xs
unfolding begins
begins-append [] xs ys le = refl
begins-append (p ∷ ps) [] ys le = absurd (omega arith)
begins-append (true ∷ ps) (true ∷ xs) ys le = begins-append ps xs ys (omega arith)
begins-append (false ∷ ps) (false ∷ xs) ys le = begins-append ps xs ys (omega arith)
begins-append (true ∷ ps) (false ∷ xs) ys le = refl
begins-append (false ∷ ps) (true ∷ xs) ys le = refl

pub begins-short : (ps xs : List Bool) → length xs < length ps → begins ps xs ≡ false
unfolding begins
begins-short [] xs lt = absurd (omega arith)
begins-short (p ∷ ps) [] lt = refl
begins-short (true ∷ ps) (true ∷ xs) lt = begins-short ps xs (omega arith)
begins-short (false ∷ ps) (false ∷ xs) lt = begins-short ps xs (omega arith)
begins-short (true ∷ ps) (false ∷ xs) lt = refl
begins-short (false ∷ ps) (true ∷ xs) lt = refl

-- the rest of a list that begins so
pub begins-rest : (ps xs : List Bool) → begins ps xs ≡ true → xs ≡ ps ++ drop (length ps) xs
unfolding begins
begins-rest [] xs h = refl
begins-rest (p ∷ ps) [] h = cc
begins-rest (true ∷ ps) (true ∷ xs) h = ap {B = List Bool} (λ r. true ∷ r) (begins-rest ps xs h)
begins-rest (false ∷ ps) (false ∷ xs) h = ap {B = List Bool} (λ r. false ∷ r) (begins-rest ps xs h)
begins-rest (true ∷ ps) (false ∷ xs) h = cc
begins-rest (false ∷ ps) (true ∷ xs) h = cc

pub length-commas : length commas ≡ 40
unfolding commas bits
length-commas = refl

pub length-other_commas : length other_commas ≡ 40
unfolding other_commas bits
length-other_commas = refl

pub stands_at-short : (bs : List Bool) (x : ℕ) → length bs < x + 40 → stands_at bs x ≡ false
unfolding stands_at
stands_at-short bs x lt =
    let l = length-drop x bs in
    let a = length-commas in
    let b = length-other_commas in
    or_from _ _ (begins-short commas (drop x bs) (omega arith)) (begins-short other_commas (drop x bs) (omega arith))

pub stands_at-append : (xs ys : List Bool) (x : ℕ) → x + 40 ≤ length xs → stands_at (xs ++ ys) x ≡ stands_at xs x
unfolding stands_at
stands_at-append xs ys x le =
    let l = length-drop x xs in
    let a = length-commas in
    let b = length-other_commas in
    let inside : x ≤ length xs = omega arith in
    let first = begins-append commas (drop x xs) ys (omega arith) in
    let second = begins-append other_commas (drop x xs) ys (omega arith) in
    rw (drop-append-le x xs ys inside, first, second) refl

begins_lock-nil : begins_lock [] ≡ false
unfolding begins commas other_commas bits
begins_lock-nil = refl

-- ---- the least place

least_place-suc : (x : ℕ) (bs : List Bool) → least_place (suc x) bs ≡ option_map suc (least_place x bs)
unfolding least_place
least_place-suc x [] = refl
least_place-suc x (b ∷ bs) = elim (cases_Bool (begins_lock (b ∷ bs))) [
  | inl here ↦ rw here refl
  | inr apart ↦ rw apart (least_place-suc (suc x) bs)
]

least_place-here : (b : Bool) (bs : List Bool) → begins_lock (b ∷ bs) ≡ true → least_place 0 (b ∷ bs) ≡ Some 0
unfolding least_place
least_place-here b bs here = rw here refl

least_place-later : (b : Bool) (bs : List Bool) → begins_lock (b ∷ bs) ≡ false → least_place 0 (b ∷ bs) ≡ option_map suc (least_place 0 bs)
unfolding least_place
least_place-later b bs apart = rw apart (least_place-suc 0 bs)

option_map-suc : (o : Option ℕ) (x : ℕ) → option_map suc o ≡ Some (suc x) → o ≡ Some x
option_map-suc None x e = cc
option_map-suc (Some y) x e = cc

not_zero : (o : Option ℕ) → option_map suc o ≡ Some 0 → ⊥
not_zero None e = cc
not_zero (Some y) e = let f : suc y ≡ 0 = cc in omega arith

least_after : (b : Bool) (bs : List Bool) (x : ℕ) → begins_lock (b ∷ bs) ≡ false → ((y : ℕ) → y < x → stands_at bs y ≡ false)
    → (y : ℕ) → y < suc x → stands_at (b ∷ bs) y ≡ false
unfolding stands_at
least_after b bs x apart least zero lt = apart
least_after b bs x apart least (suc y) lt = least y (omega arith)

pub finds_least_place : FindsLeastPlace
unfolding stands_at
finds_least_place [] x = (
  λ e. let none : least_place 0 [] ≡ None = unfold least_place in refl in cc,
  λ least. let s = least.stands in let n = begins_lock-nil in let d = drop-nil {A = Bool} x in let f = rw d at s in cc,
)
finds_least_place (b ∷ bs) zero = elim (cases_Bool (begins_lock (b ∷ bs))) [
  | inl here ↦ (λ e. record { stands = here; least = λ y lt. absurd (omega arith) }, λ least. least_place-here b bs here)
  | inr apart ↦ (
    λ e. absurd (not_zero (least_place 0 bs) (sym (least_place-later b bs apart) ∙ e)),
    λ least. let s = least.stands in cc,
  )
]
finds_least_place (b ∷ bs) (suc x) =
    let rest = finds_least_place bs x in
    elim (cases_Bool (begins_lock (b ∷ bs))) [
      | inl here ↦ (
        λ e. let f : Some 0 ≡ Some (suc x) = sym (least_place-here b bs here) ∙ e in let g : 0 ≡ suc x = cc in absurd (omega arith),
        λ least. let no : begins_lock (b ∷ bs) ≡ false = least.least 0 (omega arith) in cc,
      )
      | inr apart ↦ (
        λ e.
            let r = rest.0 (option_map-suc (least_place 0 bs) x (sym (least_place-later b bs apart) ∙ e)) in
            record { stands = r.stands; least = least_after b bs x apart r.least },
        λ least.
            let r = rest.1 (record { stands = least.stands; least = λ y lt. least.least (suc y) (omega arith) }) in
            rw (least_place-later b bs apart, r) refl,
      )
    ]

option_map-none : {A B : Type 0} (f : A → B) (o : Option A) → option_map f o ≡ None → o ≡ None
option_map-none f None e = refl
option_map-none f (Some y) e = cc

nowhere-cons : (b : Bool) (bs : List Bool) → begins_lock (b ∷ bs) ≡ false → ((x : ℕ) → stands_at bs x ≡ false) → (x : ℕ) → stands_at (b ∷ bs) x ≡ false
unfolding stands_at
nowhere-cons b bs apart none zero = apart
nowhere-cons b bs apart none (suc x) = none x

pub finds_no_place : FindsNoPlace
unfolding stands_at
finds_no_place [] = (λ e x. rw (drop-nil {A = Bool} x) begins_lock-nil, λ none. unfold least_place in refl)
finds_no_place (b ∷ bs) =
    let rest = finds_no_place bs in
    elim (cases_Bool (begins_lock (b ∷ bs))) [
      | inl here ↦ (
        λ e. let f = least_place-here b bs here in cc,
        λ none. let no : begins_lock (b ∷ bs) ≡ false = none 0 in cc,
      )
      | inr apart ↦ (
        λ e. nowhere-cons b bs apart (rest.0 (option_map-none suc (least_place 0 bs) (sym (least_place-later b bs apart) ∙ e))),
        λ none. let r = rest.1 (λ x. none (suc x)) in rw (least_place-later b bs apart, r) refl,
      )
    ]

-- ---- what a hunt answers

pub found-none : (bs : List Bool) → ((x : ℕ) → stands_at bs x ≡ false) → found bs ≡ None
unfolding found
found-none bs none = let e = (finds_no_place bs).1 none in rw e refl

pub nowhere-found : (bs : List Bool) → found bs ≡ None → (x : ℕ) → stands_at bs x ≡ false
unfolding found
nowhere-found bs e = (finds_no_place bs).0 (option_map-none _ (least_place 0 bs) e)

pub found-commas : (bs rest : List Bool) (x : ℕ) → IsLeastPlace bs x → drop x bs ≡ commas ++ rest → found bs ≡ Some (record { rest = length bs - (x + 40); rd = Minus })
unfolding found commas bits after after_six after_four
found-commas bs rest x least e =
    let at = (finds_least_place bs x).1 least in
    rw (at, ← drop-drop 30 x bs, e) refl

pub found-other_commas : (bs rest : List Bool) (x : ℕ) → IsLeastPlace bs x → drop x bs ≡ other_commas ++ rest → found bs ≡ Some (record { rest = length bs - (x + 40); rd = Plus })
unfolding found other_commas bits after after_six after_four
found-other_commas bs rest x least e =
    let at = (finds_least_place bs x).1 least in
    rw (at, ← drop-drop 30 x bs, e) refl

-- bits before the least place do not matter
lock_at : List Bool → ℕ → Lock
lock_at bs x = record { rest = length bs - (x + 40); rd = after Minus (value (take 10 (drop (x + 30) bs))) }

lock_at-suc : (b : Bool) (bs : List Bool) (x : ℕ) → lock_at (b ∷ bs) (suc x) ≡ lock_at bs x
unfolding lock_at
lock_at-suc b bs x =
    let r : suc (length bs) - (suc x + 40) ≡ length bs - (x + 40) = omega arith in
    let d : suc x + 30 ≡ suc (x + 30) = omega arith in
    rw (r, d) refl

lock_at-later : (b : Bool) (bs : List Bool) (o : Option ℕ) → option_map (lock_at (b ∷ bs)) (option_map suc o) ≡ option_map (lock_at bs) o
lock_at-later b bs None = refl
lock_at-later b bs (Some x) = ap Some (lock_at-suc b bs x)

found-later : (b : Bool) (bs : List Bool) → begins_lock (b ∷ bs) ≡ false → found (b ∷ bs) ≡ found bs
unfolding found lock_at
found-later b bs apart = rw (least_place-later b bs apart) (lock_at-later b bs (least_place 0 bs))

found-drop : (s : ℕ) (bs : List Bool) → ((y : ℕ) → y < s → stands_at bs y ≡ false) → found bs ≡ found (drop s bs)
unfolding stands_at
found-drop zero bs none = refl
found-drop (suc s) [] none = refl
found-drop (suc s) (b ∷ bs) none = found-later b bs (none 0 (omega arith)) ∙ found-drop s bs (λ y lt. none (suc y) (omega arith))

pub found-append : (now taken new : List Bool) → HasHunted now taken → found (taken ++ new) ≡ found (now ++ new)
found-append now taken new h =
    let s : ℕ = length taken - 39 in
    let none : (y : ℕ) → y < s → stands_at (taken ++ new) y ≡ false =
    λ y lt. stands_at-append taken new y (omega arith) ∙ nowhere-found taken h.nothing y in
    let all = found-drop s (taken ++ new) none in
    let inside : s ≤ length taken = omega arith in
    let split = drop-append-le s taken new inside in
    all ∙ ap found (split ∙ ap (λ xs. xs ++ new) (sym h.last))
