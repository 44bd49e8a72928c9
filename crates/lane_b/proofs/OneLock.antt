-- The lock that the search gives is the one of the relation.
use Rattle.std.proofs.Common.{◌≡◌, ℕ, zero, suc, ◌+◌, ◌-◌, ◌*◌, ◌≤◌, ◌<◌, Bool, true, false, not, List, [], ◌∷◌, length, drop, Option, Some, None, option_map, refl, inl, inr, sym, ◌∙◌, ap, subst, arith}
use Rattle.std.proofs.Math.Seq.{drop-drop}
use Rattle.std.proofs.lemmas.Bool.{and_parts, cases_Bool}
use Rattle.link_params.specs.Lanes.{Taken}
use Rattle.code_8b10b.specs.Commas.{begins_lock, least_place, stands_at}
use Rattle.code_8b10b.proofs.Places.{finds_least_place, finds_no_place}
use Rattle.lane_b.specs.Locking.{Lock, bits_taken, bits_to_start, is_dropped, is_empty, lock, lock_at, lock_from, order_at, since_start, tick_of_start}
use Rattle.lane_b.specs.laws.LaneLaws.{IsHeldAfter, IsHeldFrom, IsLeastFrom, OneLock}
use Rattle.lane_b.proofs.PlaceLemmas.{least_place-from, zero_place}
use Rattle.lane_b.proofs.SearchLemmas.{bits_to_start-inside, length-bits_taken, lock_from-dropped, lock_from-held, lock_from-none}
use Rattle.lane_b.proofs.LaneEntries.{cases-found, none-zero, not-is, place-inside}

-- ---- the least place from a bit on

shifted : (bs : List Bool) (x z : ℕ) → stands_at (drop x bs) z ≡ stands_at bs (x + z)
unfolding stands_at
shifted bs x z = ap begins_lock (drop-drop z x bs)

least-from : (bs : List Bool) (x y : ℕ) → least_place x (drop x bs) ≡ Some y → IsLeastFrom bs x y
least-from bs x y e =
    let k = zero_place x (drop x bs) y e in
    let z : ℕ = k.0 in
    let at = k.2 in
    let is = (finds_least_place (drop x bs) z).0 k.1 in
    record {
      from = omega arith;
      stands = ap (stands_at bs) at ∙ sym (shifted bs x z) ∙ is.stands;
      least = λ v low lt.
          let same : v ≡ x + (v - x) = omega arith in
          ap (stands_at bs) same ∙ sym (shifted bs x (v - x)) ∙ is.least (v - x) (omega arith);
    }

from-least : (bs : List Bool) (x y : ℕ) → IsLeastFrom bs x y → least_place x (drop x bs) ≡ Some y
from-least bs x y h =
    let low = h.from in
    let z : ℕ = y - x in
    let same : x + z ≡ y = omega arith in
    let first = (finds_least_place (drop x bs) z).1 (record {
      stands = shifted bs x z ∙ ap (stands_at bs) same ∙ h.stands;
      least = λ v lt. shifted bs x v ∙ h.least (x + v) (omega arith) (omega arith);
    }) in
    least_place-from x (drop x bs) ∙ ap (option_map (λ v. x + v)) first ∙ ap Some same

none-from : (bs : List Bool) (x : ℕ) → least_place x (drop x bs) ≡ None → (z : ℕ) → x ≤ z
    → stands_at bs z ≡ false
none-from bs x e z low =
    let same : z ≡ x + (z - x) = omega arith in
    ap (stands_at bs) same ∙ sym (shifted bs x (z - x))
    ∙ (finds_no_place (drop x bs)).0 (none-zero x (drop x bs) e) (z - x)

from-none : (bs : List Bool) (x : ℕ) → ((z : ℕ) → x ≤ z → stands_at bs z ≡ false)
    → least_place x (drop x bs) ≡ None
from-none bs x h =
    let none = (finds_no_place (drop x bs)).1 (λ v. shifted bs x v ∙ h (x + v) (omega arith)) in
    least_place-from x (drop x bs) ∙ ap (option_map (λ v. x + v)) none

-- ---- a lock that is dropped is long

drop-long : (taken : List Taken) (y : ℕ) → y + 40 ≤ length (bits_taken taken)
    → is_dropped taken (lock_at (bits_taken taken) y) ≡ true
    → (y + 50 ≤ bits_to_start (lock_at (bits_taken taken) y))
    × (bits_to_start (lock_at (bits_taken taken) y) ≤ length (bits_taken taken))
drop-long taken y inside dropped =
    let l : Lock = lock_at (bits_taken taken) y in
    let parts = and_parts (not (is_empty (since_start l)))
    (not (order_at taken (tick_of_start l)).armed) dropped in
    bits_to_start-inside (bits_taken taken) y inside (not-is (is_empty (since_start l)) parts.0)

-- ---- there is a lock, or none

held-is : (taken : List Taken) (x y : ℕ) (held : Option Lock)
    → least_place x (drop x (bits_taken taken)) ≡ Some y
    → is_dropped taken (lock_at (bits_taken taken) y) ≡ false
    → held ≡ Some (lock_at (bits_taken taken) y) → IsHeldFrom taken x held
held-is taken x y held e kept is =
    let there : IsHeldFrom taken x (Some (lock_at (bits_taken taken) y)) =
    (y, least-from (bits_taken taken) x y e, refl, kept) in
    subst (IsHeldFrom taken x) (sym is) there

none-is : (taken : List Taken) (x : ℕ) (held : Option Lock)
    → least_place x (drop x (bits_taken taken)) ≡ None → held ≡ None → IsHeldFrom taken x held
none-is taken x held e is =
    let there : IsHeldFrom taken x None = none-from (bits_taken taken) x e in
    subst (IsHeldFrom taken x) (sym is) there

gives-lock : (n : ℕ) (taken : List Taken) (x : ℕ) → length (bits_taken taken) < x + 10 * n + 40
    → x ≤ length (bits_taken taken)
    → (ys : List ℕ) × IsHeldAfter taken x ys (lock_from n taken x)
gives-lock zero taken x few within =
    elim (cases-found (least_place x (drop x (bits_taken taken)))) [
      | inr none ↦
          ([], none-is taken x (lock_from zero taken x) none (lock_from-none zero taken x none))
      | inl k ↦
          let inside = place-inside taken x k.0 within k.1 in
          let from = inside.0 in
          let fits = inside.1 in
          absurd (omega arith)
    ]
gives-lock (suc n) taken x few within =
    elim (cases-found (least_place x (drop x (bits_taken taken)))) [
      | inr none ↦
          let none_here = lock_from-none (suc n) taken x none in
          ([], none-is taken x (lock_from (suc n) taken x) none none_here)
      | inl k ↦
          let y : ℕ = k.0 in
          let inside = place-inside taken x y within k.1 in
          let from = inside.0 in
          let fits = inside.1 in
          elim (cases_Bool (is_dropped taken (lock_at (bits_taken taken) y))) [
            | inr kept ↦ (
              [],
              held-is taken x y (lock_from (suc n) taken x) k.1 kept
                  (lock_from-held n taken x y k.1 kept),
            )
            | inl dropped ↦
                let z : ℕ = bits_to_start (lock_at (bits_taken taken) y) in
                let ends = drop-long taken y fits dropped in
                let long = ends.0 in
                let rest = gives-lock n taken z (omega arith) ends.1 in
                let same = lock_from-dropped n taken x y k.1 dropped in (
                  y
                      ∷ rest.0,
                  (
                    least-from (bits_taken taken) x y k.1,
                    dropped,
                    subst (IsHeldAfter taken z rest.0)
                        (sym same) rest.1,
                  ),
                )
          ]
    ]

-- ---- there is no other

found-inside : (taken : List Taken) (x y : ℕ) → x ≤ length (bits_taken taken)
    → IsLeastFrom (bits_taken taken) x y
    → (x ≤ y) × (y + 40 ≤ length (bits_taken taken))
found-inside taken x y within h =
    place-inside taken x y within (from-least (bits_taken taken) x y h)

only-lock : (ys : List ℕ) (n : ℕ) (taken : List Taken) (x : ℕ) (held : Option Lock)
    → length (bits_taken taken) < x + 10 * n + 40
    → x ≤ length (bits_taken taken) → IsHeldAfter taken x ys held → held ≡ lock_from n taken x
only-lock [] n taken x None few within h =
    sym (lock_from-none n taken x (from-none (bits_taken taken) x h))
only-lock [] zero taken x (Some l) few within h =
    let inside = found-inside taken x h.0 within h.1 in
    let from = inside.0 in
    let fits = inside.1 in
    absurd (omega arith)
only-lock [] (suc n) taken x (Some l) few within h =
    let is : l ≡ lock_at (bits_taken taken) h.0 = h.2 in
    let kept : is_dropped taken (lock_at (bits_taken taken) h.0) ≡ false =
    sym (ap (is_dropped taken) is) ∙ h.3 in
    ap Some is ∙ sym (lock_from-held n taken x h.0 (from-least (bits_taken taken) x h.0 h.1) kept)
only-lock (y ∷ ys) zero taken x held few within h =
    let inside = found-inside taken x y within h.0 in
    let from = inside.0 in
    let fits = inside.1 in
    absurd (omega arith)
only-lock (y ∷ ys) (suc n) taken x held few within h =
    let z : ℕ = bits_to_start (lock_at (bits_taken taken) y) in
    let inside = found-inside taken x y within h.0 in
    let from = inside.0 in
    let fits = inside.1 in
    let ends = drop-long taken y fits h.1 in
    let long = ends.0 in
    only-lock ys n taken z held (omega arith) ends.1 h.2
    ∙ sym (lock_from-dropped n taken x y (from-least (bits_taken taken) x y h.0) h.1)

pub one-lock : OneLock
unfolding lock
one-lock taken tens =
    let long = length-bits_taken taken tens in
    let n : ℕ = length taken in (
      gives-lock n taken 0 (omega arith) (omega arith),
      λ held h. only-lock h.0 n taken 0 held
          (omega arith) (omega arith) h.1,
    )
