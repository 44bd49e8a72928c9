-- The least place.
use Rattle.std.proofs.Common.{◌≡◌, ℕ, zero, suc, ◌+◌, ◌-◌, ◌*◌, ◌<◌, ◌≤◌, Bool, true, false, List, [], ◌∷◌, ◌++◌, length, drop, refl, sym, ap, ap₂, ◌∙◌, arith, inl, inr, length-append, length-drop}
use Rattle.std.specs.Prelude.{Option, Some, None, option_map, ◌%◌}
use Rattle.std.specs.Option.{unwrap_or}
use Rattle.std.proofs.Math.Seq.{drop-drop, drop-append-le}
use Rattle.std.proofs.lemmas.Bool.{cases_lt}
use Rattle.block_66b.specs.Blocks.{header}
use Rattle.block_66b.specs.declared.sync_bit.SyncBit.{SyncBit}
use Rattle.multiblock.specs.declared.place.Place.{Place as Found}
use Rattle.multiblock.specs.Places.{headers, pieces, pattern_size, good, remainder_of, pattern, span, Place, place_among, least_place, next_place, found}
use Rattle.multiblock.specs.laws.PlaceLaws.{IsLeastPlace, FindsLeastPlace, FindsNone, PatternStays, PlaceStays, FoundInTick}
use Rattle.std.proofs.Math.Nat.{mod-lt}

some-same : {A : Type 0} (x y : A) → Some x ≡ Some y → x ≡ y
some-same x y e = ap (λ o. unwrap_or o x) e

none-some : {A : Type 0} (x : A) → None ≡ Some x → ⊥
none-some x e = grind arith

among-some : (e n : ℕ) (bs : List Bool) (p r : ℕ) → pattern e bs ≡ Some r → place_among e (suc n) bs p ≡ Some (record { first = p; remainder = r })
unfolding place_among
among-some e n bs p r h = ap (λ o. elim o as (λ c. Option Place) [ Some x ↦ Some (record { first = p; remainder = x }) | None ↦ place_among e n (drop 1 bs) (suc p) ]) h

among-none : (e n : ℕ) (bs : List Bool) (p : ℕ) → pattern e bs ≡ None → place_among e (suc n) bs p ≡ place_among e n (drop 1 bs) (suc p)
unfolding place_among
among-none e n bs p h = ap (λ o. elim o as (λ c. Option Place) [ Some x ↦ Some (record { first = p; remainder = x }) | None ↦ place_among e n (drop 1 bs) (suc p) ]) h

-- ---- from what is found to what stands
record Hit (e n : ℕ) (bs : List Bool) (p : ℕ) (q : Place) : Type 0 where
  from : p ≤ q.first
  below : q.first < p + n
  stands : pattern e (drop (q.first - p) bs) ≡ Some q.remainder
  least : (i : ℕ) → p + i < q.first → pattern e (drop i bs) ≡ None

one-more : (i : ℕ) (bs : List Bool) → drop i (drop 1 bs) ≡ drop (suc i) bs
one-more i bs = drop-drop i 1 bs ∙ ap (λ n. drop n bs) (let e : 1 + i ≡ suc i = omega arith in e)

found-here : (e n : ℕ) (bs : List Bool) (p r : ℕ) (q : Place) → pattern e bs ≡ Some r → place_among e (suc n) bs p ≡ Some q → Hit e (suc n) bs p q
found-here e n bs p r q h a =
    let s : record { first = p; remainder = r } ≡ q = some-same _ q (sym (among-some e n bs p r h) ∙ a) in
    let f : p ≡ q.first = ap (λ (x : Place). x.first) s in
    let m : r ≡ q.remainder = ap (λ (x : Place). x.remainder) s in
    record { from = omega arith; below = omega arith; stands = ap (λ i. pattern e (drop i bs)) (let z : q.first - p ≡ 0 = omega arith in z) ∙ h ∙ ap Some m; least = λ i lt. absurd (omega arith) }

found-later : (e n : ℕ) (bs : List Bool) (p : ℕ) (q : Place) → pattern e bs ≡ None → Hit e n (drop 1 bs) (suc p) q → Hit e (suc n) bs p q
found-later e n bs p q h f =
    let a = f.from in
    let b = f.below in
    record {
      from = omega arith;
      below = omega arith;
      stands = ap (pattern e) (ap (λ i. drop i bs) (let z : q.first - p ≡ suc (q.first - suc p) = omega arith in z) ∙ sym (one-more (q.first - suc p) bs)) ∙ f.stands;
      least = each;
    }
  where
    each : (i : ℕ) → p + i < q.first → pattern e (drop i bs) ≡ None
    each zero lt = h
    each (suc i) lt = ap (pattern e) (sym (one-more i bs)) ∙ f.least i (omega arith)

hit-step : (e n : ℕ) (bs : List Bool) (p : ℕ) (q : Place) → (place_among e n (drop 1 bs) (suc p) ≡ Some q → Hit e n (drop 1 bs) (suc p) q)
    → place_among e (suc n) bs p ≡ Some q → (o : Option ℕ) → pattern e bs ≡ o → Hit e (suc n) bs p q
hit-step e n bs p q rest a (Some r) h = found-here e n bs p r q h a
hit-step e n bs p q rest a None h = found-later e n bs p q h (rest (sym (among-none e n bs p h) ∙ a))

hit : (n e : ℕ) (bs : List Bool) (p : ℕ) (q : Place) → place_among e n bs p ≡ Some q → Hit e n bs p q
unfolding place_among
hit zero e bs p q a = absurd (none-some q a)
hit (suc n) e bs p q a = hit-step e n bs p q (λ b. hit n e (drop 1 bs) (suc p) q b) a (pattern e bs) refl

-- ---- and back
finds : (n e : ℕ) (bs : List Bool) (p : ℕ) (q : Place) → Hit e n bs p q → place_among e n bs p ≡ Some q
finds zero e bs p q f = let a = f.from in let b = f.below in absurd (omega arith)
finds (suc n) e bs p q f = elim (cases_lt p q.first) [
  | inl later ↦
      let b = f.below in
      let h : pattern e bs ≡ None = f.least 0 (omega arith) in
      among-none e n bs p h ∙ finds n e (drop 1 bs) (suc p) q (record {
        from = later;
        below = omega arith;
        stands = ap (pattern e) (one-more (q.first - suc p) bs ∙ ap (λ i. drop i bs) (let z : suc (q.first - suc p) ≡ q.first - p = omega arith in z)) ∙ f.stands;
        least = λ i lt. ap (pattern e) (one-more i bs) ∙ f.least (suc i) (omega arith);
      })
  | inr here ↦
      let a = f.from in
      let z : q.first - p ≡ 0 = omega arith in
      let h : pattern e bs ≡ Some q.remainder = ap (λ i. pattern e (drop i bs)) (sym z) ∙ f.stands in
      let s : p ≡ q.first = omega arith in
      among-some e n bs p q.remainder h ∙ ap (λ i. Some (record { first = i; remainder = q.remainder })) s
]

at-from : (p i : ℕ) (bs : List Bool) → p ≤ i → drop (i - p) (drop p bs) ≡ drop i bs
at-from p i bs le = drop-drop (i - p) p bs ∙ ap (λ n. drop n bs) (let e : p + (i - p) ≡ i = omega arith in e)

pub finds_least_place : FindsLeastPlace
unfolding least_place
finds_least_place e p bs q = (there, back)
  where
    there : least_place e p bs ≡ Some q → IsLeastPlace e p bs q
    there a =
        let f = hit (suc (length bs) - (p + span e)) e (drop p bs) p q a in
        let b = f.below in
        record {
          from = f.from;
          whole = omega arith;
          stands = ap (pattern e) (sym (at-from p q.first bs f.from)) ∙ f.stands;
          least = λ i le lt. ap (pattern e) (sym (at-from p i bs le)) ∙ f.least (i - p) (omega arith);
        }

    back : IsLeastPlace e p bs q → least_place e p bs ≡ Some q
    back f =
        let a = f.from in
        let w = f.whole in
        finds (suc (length bs) - (p + span e)) e (drop p bs) p q (record {
          from = f.from;
          below = omega arith;
          stands = ap (pattern e) (at-from p q.first bs f.from) ∙ f.stands;
          least = λ i lt. ap (pattern e) (drop-drop i p bs) ∙ f.least (p + i) (omega arith) lt;
        })

-- ---- none
none-all : (n e : ℕ) (bs : List Bool) (p : ℕ) → ((i : ℕ) → i < n → pattern e (drop i bs) ≡ None) → place_among e n bs p ≡ None
unfolding place_among
none-all zero e bs p h = refl
none-all (suc n) e bs p h = among-none e n bs p (h 0 (omega arith)) ∙ none-all n e (drop 1 bs) (suc p) (λ i lt. ap (pattern e) (one-more i bs) ∙ h (suc i) (omega arith))

none-step : (e n : ℕ) (bs : List Bool) (p : ℕ) (o : Option ℕ) → pattern e bs ≡ o → place_among e (suc n) bs p ≡ None → (pattern e bs ≡ None) × (place_among e n (drop 1 bs) (suc p) ≡ None)
none-step e n bs p (Some r) h a = absurd (none-some _ (sym a ∙ among-some e n bs p r h))
none-step e n bs p None h a = (h, sym (among-none e n bs p h) ∙ a)

none-each : (n e : ℕ) (bs : List Bool) (p i : ℕ) → place_among e n bs p ≡ None → i < n → pattern e (drop i bs) ≡ None
none-each zero e bs p i a lt = absurd (omega arith)
none-each (suc n) e bs p zero a lt = (none-step e n bs p (pattern e bs) refl a).0
none-each (suc n) e bs p (suc i) a lt = ap (pattern e) (sym (one-more i bs)) ∙ none-each n e (drop 1 bs) (suc p) i (none-step e n bs p (pattern e bs) refl a).1 (omega arith)

pub finds_none : FindsNone
unfolding least_place
finds_none e p bs = (
  λ a i le whole. ap (pattern e) (sym (at-from p i bs le)) ∙ none-each (suc (length bs) - (p + span e)) e (drop p bs) p (i - p) a (omega arith),
  λ h. none-all (suc (length bs) - (p + span e)) e (drop p bs) p (λ i lt. ap (pattern e) (drop-drop i p bs) ∙ h (p + i) (omega arith) (omega arith)),
)

-- ---- later bits
sync-stays : (xs ys : List Bool) → 2 ≤ length xs → header (xs ++ ys) ≡ header xs
unfolding header
sync-stays [] ys le = absurd (omega arith)
sync-stays (x ∷ []) ys le = absurd (omega arith)
sync-stays (true ∷ true ∷ xs) ys le = refl
sync-stays (true ∷ false ∷ xs) ys le = refl
sync-stays (false ∷ true ∷ xs) ys le = refl
sync-stays (false ∷ false ∷ xs) ys le = refl

headers-stay : (n : ℕ) (xs ys : List Bool) → 66 * n ≤ length xs → headers n (xs ++ ys) ≡ headers n xs
unfolding headers
headers-stay zero xs ys le = refl
headers-stay (suc n) xs ys le =
    let d = length-drop 66 xs in
    ap₂ {C = List SyncBit} (λ h r. h ∷ r) (sync-stays xs ys (omega arith))
    (ap (headers n) (drop-append-le 66 xs ys (omega arith)) ∙ headers-stay n (drop 66 xs) ys (omega arith))

pub pattern_stays : PatternStays
unfolding pattern
pattern_stays e i bs more le =
    let d = length-drop i bs in
    let h : headers (32 * pattern_size e) (drop i (bs ++ more)) ≡ headers (32 * pattern_size e) (drop i bs) =
    ap (headers (32 * pattern_size e)) (drop-append-le i bs more (omega arith)) ∙ headers-stay (32 * pattern_size e) (drop i bs) more (omega arith) in
    ap (λ hs. elim (good hs) as (λ o. Option ℕ) [ None ↦ None | Some sync ↦ remainder_of e (pieces (pattern_size e) 32 sync) ]) h

pub place_stays : PlaceStays
place_stays e p bs more q a =
    let f = (finds_least_place e p bs q).0 a in
    let w = f.whole in
    let l = length-append bs more in
    (finds_least_place e p (bs ++ more) q).1 (record {
      from = f.from;
      whole = omega arith;
      stands = pattern_stays e q.first bs more w ∙ f.stands;
      least = λ i le lt. pattern_stays e i bs more (omega arith) ∙ f.least i le lt;
    })

-- ---- a tick of a hunt
pub not-found : (e : ℕ) (bs : List Bool) → found e bs ≡ None → least_place e 0 bs ≡ None
unfolding found
not-found e bs h = by (least_place e 0 bs) h
  where
    by : (o : Option Place) → option_map {U = Found} (λ (p : Place). record { rest = length bs - (p.first + span e); next = next_place e p.remainder }) o ≡ None → o ≡ None
    by None h2 = refl
    by (Some p) h2 = absurd (none-some _ (sym h2))

found-place : (e : ℕ) (bs : List Bool) (f : Found) → found e bs ≡ Some f → (p : Place) × (least_place e 0 bs ≡ Some p) × (length bs - (p.first + span e) ≡ f.rest) × (next_place e p.remainder ≡ f.next)
unfolding found
found-place e bs f h = by (least_place e 0 bs) refl h
  where
    by : (o : Option Place) → least_place e 0 bs ≡ o → option_map {U = Found} (λ (p : Place). record { rest = length bs - (p.first + span e); next = next_place e p.remainder }) o ≡ Some f
        → (p : Place) × (least_place e 0 bs ≡ Some p) × (length bs - (p.first + span e) ≡ f.rest) × (next_place e p.remainder ≡ f.next)
    by None l h2 = absurd (none-some f h2)
    by (Some p) l h2 =
        let s : record { rest = length bs - (p.first + span e); next = next_place e p.remainder } ≡ f = some-same _ f h2 in
        (p, l, ap (λ (x : Found). x.rest) s, ap (λ (x : Found). x.next) s)

pub found_in_tick : FoundInTick
found_in_tick e bs word f pos l before after =
    let none = not-found e bs before in
    let q = found-place e (bs ++ word) f after in
    let p : Place = q.0 in
    let is = (finds_least_place e 0 (bs ++ word) p).0 q.1 in
    let n = length-append bs word in
    let r = q.2 in
    let x = q.3 in
    let m = mod-lt (pattern_size e + e - 1 - p.remainder) pos in
    let rest : f.rest < 66 = elim (cases_lt (length bs) (p.first + span e)) [
      | inl beyond ↦ omega arith
      | inr within ↦ absurd (none-some p.remainder (sym ((finds_none e 0 bs).0 none p.first (omega arith) within) ∙ (sym (pattern_stays e p.first bs word within) ∙ is.stands)))
    ] in
    let k : ℕ = (pattern_size e + e - 1 - p.remainder) % e in
    let z : 32 * k % 32 ≡ 0 = omega arith in
    (rest, (let y : 32 * k < 32 * e = omega arith in rw (← x) y), (rw (← x) z))

pub found-of : (e : ℕ) (bs : List Bool) (f : Found) (first r : ℕ) → IsLeastPlace e 0 bs (record { first = first; remainder = r })
    → length bs - (first + span e) ≡ f.rest → f.next ≡ next_place e r → found e bs ≡ Some f
unfolding found
found-of e bs f first r is rest next =
    ap (option_map {U = Found} (λ (p : Place). record { rest = length bs - (p.first + span e); next = next_place e p.remainder }))
    ((finds_least_place e 0 bs (record { first = first; remainder = r })).1 is)
    ∙ (λ i. Some (record { rest = rest i; next = sym next i }))
