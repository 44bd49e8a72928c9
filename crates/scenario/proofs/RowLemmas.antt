-- A list of records that was reached is the records of the text.
use Rattle.std.proofs.Common.{zero-add, ◌-◌, ◌≡◌, ℕ, suc, zero, ◌+◌, ◌≤◌, List, [], ◌∷◌, ◌++◌, Option, Some, None, Bool, true, false, length, length-append, refl, sym, ap, ◌∙◌, arith, cond, inl, inr, lit≤}
use Rattle.std.proofs.lemmas.Bool.{cases_Bool}
use Rattle.std.proofs.Math.Nat.{suc-add}
use Rattle.csv.specs.Machine.{Read, next_record, step, is_end, fields_after, field_after, ends_at_end}
use Rattle.csv.specs.Reading.{strip_bom, is_bom, Reached, AreRecords, records_from, records}
use Rattle.csv.specs.declared.parser.Config.{Config}
use Rattle.csv.specs.declared.parser.State.{State}
use Rattle.csv.specs.declared.parser.State.TheVariants as st
use Rattle.csv.specs.declared.parser.Action.{Action}
use Rattle.csv.specs.declared.parser.Action.TheVariants as act

by_cases : (b : Bool) (a : Read) (more : Option Read) (p : Read) (n : ℕ)
    → cond b (Some a) more ≡ Some p
    → length a.2 ≤ n → (more ≡ Some p → length p.2 ≤ n) → length p.2 ≤ n
by_cases true a more p n e le k = let q : a ≡ p = cc e in rw (← q) le
by_cases false a more p n e le k = k e

-- what is left after a record is no more than there was
next_record-le : (cfg : Config) (xs : List ℕ) (s : State) (fields : List (List ℕ)) (field : List ℕ)
    (p : Read)
    → next_record cfg s fields field xs ≡ Some p → length p.2 ≤ length xs
unfolding next_record
next_record-le cfg [] s fields field p e =
    by_cases (ends_at_end s) (fields ++ (field ∷ []), st.StartRecord, []) None p 0 e (lit≤ tt)
    (λ bad. cc bad)
next_record-le cfg (c ∷ xs) s fields field p e =
    by_cases (is_end (step cfg s c).1)
    (fields_after (step cfg s c).1 fields field, (step cfg s c).0, xs)
    (next_record cfg (step cfg s c).0 (fields_after (step cfg s c).1 fields field)
    (field_after (step cfg s c).1 c field) xs)
    p (length (c ∷ xs)) e (omega arith)
    (λ k. let le : length p.2 ≤ length xs = next_record-le cfg xs _ _ _ p k in omega arith)

-- a record takes a byte at least, where there is one
next_record-lt : (cfg : Config) (s : State) (c : ℕ) (xs : List ℕ) (p : Read)
    → next_record cfg s [] [] (c ∷ xs) ≡ Some p → length p.2 ≤ length xs
unfolding next_record
next_record-lt cfg s c xs p e =
    by_cases (is_end (step cfg s c).1) (fields_after (step cfg s c).1 [] [], (step cfg s c).0, xs)
    (next_record cfg (step cfg s c).0 (fields_after (step cfg s c).1 [] [])
    (field_after (step cfg s c).1 c []) xs)
    p (length xs) e (omega arith) (λ k. next_record-le cfg xs _ _ _ p k)

-- the last record may end at the end of the text, and there is none after it
at_end : (cfg : Config) (s : State) (p q : Read) → next_record cfg s [] [] [] ≡ Some p
    → next_record cfg p.1 [] [] p.2 ≡ Some q → ⊥
unfolding next_record
at_end cfg s p q e f = elim (cases_Bool (ends_at_end s)) [
  | inl t ↦ let is : (([] ∷ []), st.StartRecord, []) ≡ p =
      let k : Some (([] ∷ []), st.StartRecord, []) ≡ Some p = rw t at e in cc k in
      let bad : None ≡ Some q = rw (← is) at f in cc bad
  | inr t ↦ let bad : None ≡ Some p = rw t at e in cc bad
]

-- no more records than bytes, but for one
pub length-reached : (cfg : Config) (rows : List (List (List ℕ))) (s s2 : State) (xs ys : List ℕ)
    → Reached cfg s xs rows s2 ys → length rows ≤ length xs + 1
unfolding Reached
length-reached cfg [] s s2 xs ys h = omega arith
length-reached cfg (r ∷ []) s s2 [] ys h = omega arith
length-reached cfg (r ∷ r2 ∷ rs) s s2 [] ys h = absurd (at_end cfg s h.0 h.3.0 h.1 h.3.1)
length-reached cfg (r ∷ rs) s s2 (c ∷ xs) ys h =
    let less : length h.0.2 ≤ length xs = next_record-lt cfg s c xs h.0 h.1 in
    let rest : length rs ≤ length h.0.2 + 1 = length-reached cfg rs h.0.1 s2 h.0.2 ys h.3 in
    omega arith

records_from-reached : (cfg : Config) (rows : List (List (List ℕ))) (n : ℕ) (s s2 : State)
    (xs ys : List ℕ)
    → Reached cfg s xs rows s2 ys → next_record cfg s2 [] [] ys ≡ None → length rows ≤ n
    → records_from cfg n s xs ≡ rows
unfolding Reached records_from
records_from-reached cfg [] zero s s2 xs ys h none le = refl
records_from-reached cfg (r ∷ rs) zero s s2 xs ys h none le = absurd (omega arith)
records_from-reached cfg [] (suc n) s s2 xs ys h none le = rw (h.0, h.1, none) refl
records_from-reached cfg (r ∷ rs) (suc n) s s2 xs ys h none le =
    rw h.1 (let e : records_from cfg n h.0.1 h.0.2 ≡ rs =
    records_from-reached cfg rs n h.0.1 s2 h.0.2 ys h.3 none (omega arith) in cc (e, h.2))

-- all the records of a text are its records
pub records-are : (cfg : Config) (xs : List ℕ) (rows : List (List (List ℕ)))
    → AreRecords cfg st.StartRecord xs rows → rows ≡ records cfg xs
records-are cfg xs rows h =
    sym (records_from-reached cfg rows (length xs + 1) st.StartRecord h.0 xs h.1 h.2 h.3
    (length-reached cfg rows st.StartRecord h.0 xs h.1 h.2))

-- the records up to a place, and then the others
records_from-split : (cfg : Config) (rows : List (List (List ℕ))) (n : ℕ) (s s2 : State)
    (xs ys : List ℕ)
    → Reached cfg s xs rows s2 ys → records_from cfg (length rows + n) s xs ≡ rows
    ++ records_from cfg n s2 ys
unfolding Reached records_from
records_from-split cfg [] n s s2 xs ys h = rw (zero-add n, h.0, h.1) refl
records_from-split cfg (r ∷ rs) n s s2 xs ys h =
    rw (suc-add (length rs) n, h.1) (let e : records_from cfg (length rs + n) h.0.1 h.0.2 ≡ rs
    ++ records_from cfg n s2 ys = records_from-split cfg rs n h.0.1 s2 h.0.2 ys h.3 in
    cc (e, h.2))

-- the records of a text begin with those that were reached
pub records-begin : (cfg : Config) (xs : List ℕ) (rows : List (List (List ℕ))) (s2 : State)
    (ys : List ℕ)
    → Reached cfg st.StartRecord xs rows s2 ys → (more : List (List (List ℕ)))
    × (records cfg xs ≡ rows ++ more)
records-begin cfg xs rows s2 ys h =
    let n : ℕ = length xs + 1 - length rows in
    let le : length rows ≤ length xs + 1 = length-reached cfg rows st.StartRecord s2 xs ys h in (
      records_from cfg n s2 ys,
      ap (λ k. records_from cfg k st.StartRecord xs) (let e : length xs + 1 ≡ length rows + n =
          omega arith in e)
          ∙ records_from-split cfg rows n st.StartRecord s2 xs ys h,
    )

pub length-strip_bom : (xs : List ℕ) → length (strip_bom xs) ≤ length xs
unfolding strip_bom
length-strip_bom [] = omega arith
length-strip_bom (a ∷ []) = omega arith
length-strip_bom (a ∷ b ∷ []) = omega arith
length-strip_bom (a ∷ b ∷ c ∷ rest) = elim (cases_Bool (is_bom a b c)) [
  | inl t ↦ rw t (omega arith)
  | inr t ↦ rw t (omega arith)
]

fields_after-le : (a : Action) (fields : List (List ℕ)) (field : List ℕ)
    → length (fields_after a fields field) ≤ length fields + 1
fields_after-le act.EndField fields field = omega (arith, length-append fields (field ∷ []))
fields_after-le act.Skip fields field = omega arith
fields_after-le act.Copy fields field = omega arith
fields_after-le act.EndRecord fields field = omega (arith, length-append fields (field ∷ []))

by_cases_fields : (b : Bool) (a : Read) (more : Option Read) (p : Read) (n : ℕ)
    → cond b (Some a) more ≡ Some p
    → length a.0 ≤ n → (more ≡ Some p → length p.0 ≤ n) → length p.0 ≤ n
by_cases_fields true a more p n e le k = let q : a ≡ p = cc e in rw (← q) le
by_cases_fields false a more p n e le k = k e

-- a record has no more fields than bytes, but for one
next_record-fields : (cfg : Config) (xs : List ℕ) (s : State) (fields : List (List ℕ))
    (field : List ℕ) (p : Read)
    → next_record cfg s fields field xs ≡ Some p → length p.0 ≤ length fields + length xs + 1
unfolding next_record
next_record-fields cfg [] s fields field p e =
    by_cases_fields (ends_at_end s) (fields ++ (field ∷ []), st.StartRecord, []) None p
    (length fields + 0 + 1) e (omega (arith, length-append fields (field ∷ []))) (λ bad. cc bad)
next_record-fields cfg (c ∷ xs) s fields field p e =
    let one = fields_after-le (step cfg s c).1 fields field in
    by_cases_fields (is_end (step cfg s c).1)
    (fields_after (step cfg s c).1 fields field, (step cfg s c).0, xs)
    (next_record cfg (step cfg s c).0 (fields_after (step cfg s c).1 fields field)
    (field_after (step cfg s c).1 c field) xs)
    p (length fields + length (c ∷ xs) + 1) e (omega (arith, one))
    (λ k. let le = next_record-fields cfg xs _ (fields_after (step cfg s c).1 fields field) _ p k in
    omega (arith, one, le))

-- the last record that was reached has no more fields than the text has bytes, but for one
pub last-short : (cfg : Config) (rows : List (List (List ℕ))) (f : List (List ℕ)) (s s2 : State)
    (xs ys : List ℕ)
    → Reached cfg s xs (rows ++ f ∷ []) s2 ys → length f ≤ length xs + 1
unfolding Reached
last-short cfg [] f s s2 xs ys h = let le = next_record-fields cfg xs s [] [] h.0 h.1 in
    rw h.2 (omega (arith, le))
last-short cfg (r ∷ rs) f s s2 xs ys h =
    let less : length h.0.2 ≤ length xs = next_record-le cfg xs s [] [] h.0 h.1 in
    let rest : length f ≤ length h.0.2 + 1 = last-short cfg rs f h.0.1 s2 h.0.2 ys h.3 in
    omega arith
