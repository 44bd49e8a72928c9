-- Where the search of an 8b/10b lane for its lock ends, and that a lock that is held stays.
use Rattle.std.proofs.Common.{◌≡◌, ◌⊎◌, ℕ, zero, suc, ◌+◌, ◌≤◌, Bool, true, false, not, ◌&&◌, List, [], ◌++◌, length, drop, Option, Some, None, inl, inr, refl, sym, ◌∙◌, ap, drop-drop, length-append, length-drop, arith}
use Rattle.std.proofs.lemmas.Bool.{cases_Bool}
use Rattle.link_params.specs.Lanes.{Taken}
use Rattle.code_8b10b.specs.Commas.{begins_lock, least_place, stands_at}
use Rattle.code_8b10b.proofs.Places.{finds_least_place}
use Rattle.lane_b.specs.Locking.{bits_taken, bits_to_start, is_dropped, is_empty, lock, lock_at, order_at, since_start, tick_of_start}
use Rattle.lane_b.specs.kept.Receivers.{AreTens, Searches}
use Rattle.lane_b.proofs.PlaceLemmas.{inside_of, zero_place}
use Rattle.lane_b.proofs.SearchLemmas.{bits_taken-append, bits_to_start-inside, least-more, lock-none, lock-some, searches-drop, searches-more, searches-start}

cases-place : (o : Option ℕ) → ((y : ℕ) × (o ≡ Some y)) ⊎ (o ≡ None)
cases-place (Some y) = inl (y, refl)
cases-place None = inr refl

and_both : (a b : Bool) → (not a && not b) ≡ true → (a ≡ false) × (b ≡ false)
and_both false false e = (refl, refl)
and_both false true e = let bad : false ≡ true = e in absurd (cc)
and_both true b e = let bad : false ≡ true = e in absurd (cc)

pub and_neither : (a b : Bool) → (not a && not b) ≡ false → (a ≡ true) ⊎ (b ≡ true)
and_neither true b e = inl refl
and_neither false true e = inr refl
and_neither false false e = let bad : true ≡ false = e in absurd (cc)

no-place-in : (x : ℕ) (bs : List Bool) → bs ≡ [] → least_place x bs ≡ None
unfolding least_place
no-place-in x bs e = ap (least_place x) e

-- a lock that is found and held: its place, found from some bit on
pub record IsHeld (taken : List Taken) (from place : ℕ) : Type 0 where
  pub searches : Searches taken from
  pub least : least_place from (drop from (bits_taken taken)) ≡ Some place
  pub inside : place + 40 ≤ length (bits_taken taken)
  pub stands : stands_at (bits_taken taken) place ≡ true
  pub is : lock taken ≡ Some (lock_at (bits_taken taken) place)
  pub held : is_dropped taken (lock_at (bits_taken taken) place) ≡ false

-- the search found nothing from some bit on
pub record IsSeeking (taken : List Taken) (from : ℕ) : Type 0 where
  pub least : least_place from (drop from (bits_taken taken)) ≡ None
  pub inside : from ≤ length (bits_taken taken)
  pub is : lock taken ≡ None

place-stands : (bs : List Bool) (x y : ℕ) → x ≤ length bs → least_place x (drop x bs) ≡ Some y
    → (x ≤ y) × (stands_at bs y ≡ true) × (y + 40 ≤ length bs)
unfolding stands_at
place-stands bs x y le e =
    let z = zero_place x (drop x bs) y e in
    let is = (finds_least_place (drop x bs) z.0).0 z.1 in
    let fits = inside_of (drop x bs) z.0 z.1 in
    let long = length-drop x bs in
    let same = z.2 in (
      omega arith,
      ap (λ n. begins_lock (drop n bs)) same ∙ sym (ap begins_lock (drop-drop z.0 x bs))
          ∙ is.stands,
      omega arith,
    )

-- each search ends: a fact of the first bit that passes on to the bit after each lock that is
-- dropped holds where it ends
pub search-ends : (n : ℕ) (taken : List Taken) (Q : ℕ → Type 0) (x : ℕ) → AreTens taken
    → Searches taken x → Q x
    → ((y : ℕ) → stands_at (bits_taken taken) y ≡ true → y + 40 ≤ length (bits_taken taken)
    → is_empty (since_start (lock_at (bits_taken taken) y)) ≡ false
    → Q (bits_to_start (lock_at (bits_taken taken) y)))
    → length (bits_taken taken) ≤ x + n
    → (from : ℕ) × Q from × (((y : ℕ) × IsHeld taken from y) ⊎ IsSeeking taken from)
search-ends zero taken Q x tens s q step few =
    elim (cases-place (least_place x (drop x (bits_taken taken)))) [
      | inr none ↦ (
        x,
        q,
        inr (record { least = none; inside = s.inside; is = lock-none taken x tens s none }),
      )
      | inl k ↦ let p = place-stands (bits_taken taken) x k.0 s.inside k.1 in let low = p.0 in
          let fits = p.2 in absurd (omega arith)
    ]
search-ends (suc n) taken Q x tens s q step few =
    elim (cases-place (least_place x (drop x (bits_taken taken)))) [
      | inr none ↦ (
        x,
        q,
        inr (record { least = none; inside = s.inside; is = lock-none taken x tens s none }),
      )
      | inl k ↦
          let y : ℕ = k.0 in
          let p = place-stands (bits_taken taken) x y s.inside k.1 in
          let low = p.0 in
          let fits : y + 40 ≤ length (bits_taken taken) = p.2 in
          elim (cases_Bool (is_dropped taken (lock_at (bits_taken taken) y))) [
            | inr held ↦ (
              x,
              q,
              inl (
                y,
                record {
                  searches = s;
                  least = k.1;
                  inside = fits;
                  stands = p.1;
                  is =
                      lock-some taken x y tens s k.1 fits held;
                  held = held;
                },
              ),
            )
            | inl dropped ↦
                let b = and_both (is_empty (since_start (lock_at (bits_taken taken) y)))
                ((order_at taken (tick_of_start (lock_at (bits_taken taken) y))).armed) dropped in
                let later = searches-drop taken x y tens s k.1 fits b.0 b.1 in
                let far = (bits_to_start-inside (bits_taken taken) y fits b.0).0 in
                search-ends n taken Q (bits_to_start (lock_at (bits_taken taken) y)) tens later
                (step y p.1 fits b.0) step (omega arith)
          ]
    ]

pub search-all : (taken : List Taken) (Q : ℕ → Type 0) → AreTens taken → Q 0
    → ((y : ℕ) → stands_at (bits_taken taken) y ≡ true → y + 40 ≤ length (bits_taken taken)
    → is_empty (since_start (lock_at (bits_taken taken) y)) ≡ false
    → Q (bits_to_start (lock_at (bits_taken taken) y)))
    → (from : ℕ) × Q from × (((y : ℕ) × IsHeld taken from y) ⊎ IsSeeking taken from)
search-all taken Q tens q step =
    let begun : Searches taken 0 = searches-more [] 0 taken searches-start in
    search-ends (length (bits_taken taken)) taken Q 0 tens begun q step (omega arith)

-- a lock that is held stays in longer lists, where it is not dropped there
pub held-more : (taken more : List Taken) (from y : ℕ) → AreTens (taken ++ more)
    → IsHeld taken from y → is_dropped (taken ++ more) (lock_at (bits_taken (taken ++ more)) y)
    ≡ false
    → lock (taken ++ more) ≡ Some (lock_at (bits_taken (taken ++ more)) y)
held-more taken more from y tens k held =
    let s = k.searches in
    let fits = k.inside in
    let long = ap length (bits_taken-append taken more)
    ∙ length-append (bits_taken taken) (bits_taken more) in
    lock-some (taken ++ more) from y tens (searches-more taken from more s)
    (least-more taken from y more s.inside k.least) (omega arith) held
