-- What a transmitter of 8b/10b lanes sends after one tick more.
use Rattle.std.proofs.Common.{◌≡◌, ℕ, suc, ◌+◌, ◌-◌, ◌*◌, ◌%◌, ◌==◌, ◌<◌, ◌≤◌, Bool, true, false, if◌then◌else◌, List, [], ◌∷◌, ◌++◌, length, Option, Some, None, ◌⊎◌, inl, inr, refl, sym, ap, ◌∙◌, length-append, add-one, arith}
use Rattle.std.specs.Prelude.{unwrap_or}
use Rattle.std.specs.Option.{option_eq}
use Rattle.std.proofs.Math.Dec.{eqb}
use Rattle.std.proofs.Math.Nat.{mod-add-mod, mul-add-mod_self_right}
use Rattle.std.proofs.lemmas.Bool.{cases_Bool, lt-ltb, le-ltb, ne_eqb}
use Rattle.link_params.specs.declared.fields.Params.{Params}
use Rattle.link_params.specs.declared.fields.Mode.TheVariants.{B}
use Rattle.link_params.specs.declared.orders.TxOrder.TheVariants.{Comma, Ilas, Data as DataOrder}
use Rattle.link_params.specs.Numbers.{period}
use Rattle.link_model.specs.Orders.{Observed, after_boundary, after_low, from_boundary, is_boundary, or_else, order_b, since_boundary, tx_order}

-- ---- one item more at the end

both_none : (o r : Option (List Observed)) → or_else o r ≡ None → (o ≡ None) × (r ≡ None)
both_none None r e = (refl, e)
both_none (Some x) r e = let bad : Some x ≡ None = e in absurd (cc)

cases_Option : (o : Option (List Observed)) → ((x : List Observed) × (o ≡ Some x)) ⊎ (o ≡ None)
cases_Option (Some x) = inl (x, refl)
cases_Option None = inr refl

pub after_low-low : (hs : List Observed) (h : Observed) → h.low ≡ true
    → after_low (hs ++ h ∷ []) ≡ Some []
unfolding after_low
after_low-low [] h e = rw e refl
after_low-low (x ∷ hs) h e = rw (after_low-low hs h e) refl

pub after_low-none : (hs : List Observed) (h : Observed) → h.low ≡ false → after_low hs ≡ None
    → after_low (hs ++ h ∷ []) ≡ None
unfolding after_low
after_low-none [] h e none = rw e refl
after_low-none (x ∷ hs) h e none =
    let parts = both_none (after_low hs) (if x.low then Some hs else None) none in
    rw (after_low-none hs h e parts.0) (elim (cases_Bool x.low) [
      | inl t ↦ let bad : Some hs ≡ None = rw t at parts.1 in absurd (cc)
      | inr f ↦ rw f refl
    ])

pub after_low-some : (hs : List Observed) (h : Observed) (later : List Observed) → h.low ≡ false
    → after_low hs ≡ Some later
    → after_low (hs ++ h ∷ []) ≡ Some (later ++ h ∷ [])
unfolding after_low
after_low-some [] h later e some = let bad : None ≡ Some later = some in absurd (cc)
after_low-some (x ∷ hs) h later e some = elim (cases_Option (after_low hs)) [
  | inl l ↦
      let same : Some l.0 ≡ Some later = rw l.1 at some in
      rw (after_low-some hs h l.0 e l.1) (ap (λ o. Some (unwrap_or o [] ++ h ∷ [])) same)
  | inr none ↦ rw (after_low-none hs h e none) (elim (cases_Bool x.low) [
    | inl t ↦ let same : Some hs ≡ Some later = rw (none, t) at some in
        rw t (ap (λ o. Some (unwrap_or o [] ++ h ∷ [])) same)
    | inr f ↦ let bad : None ≡ Some later = rw (none, f) at some in absurd (cc)
  ])
]

pub from_boundary-first : (hs : List Observed) (h : Observed) → is_boundary h.phase ≡ true
    → from_boundary hs ≡ [] → from_boundary (hs ++ h ∷ []) ≡ h ∷ []
unfolding from_boundary
from_boundary-first [] h e none = rw e refl
from_boundary-first (x ∷ hs) h e none = elim (cases_Bool (is_boundary x.phase)) [
  | inl t ↦ let bad : x ∷ hs ≡ [] = rw t at none in absurd (cc)
  | inr f ↦ rw f (from_boundary-first hs h e (rw f at none))
]

pub from_boundary-none : (hs : List Observed) (h : Observed) → is_boundary h.phase ≡ false
    → from_boundary hs ≡ [] → from_boundary (hs ++ h ∷ []) ≡ []
unfolding from_boundary
from_boundary-none [] h e none = rw e refl
from_boundary-none (x ∷ hs) h e none = elim (cases_Bool (is_boundary x.phase)) [
  | inl t ↦ let bad : x ∷ hs ≡ [] = rw t at none in absurd (cc)
  | inr f ↦ rw f (from_boundary-none hs h e (rw f at none))
]

from_boundary-more : (hs : List Observed) (h : Observed) → 0 < length (from_boundary hs)
    → from_boundary (hs ++ h ∷ []) ≡ from_boundary hs ++ h ∷ []
unfolding from_boundary
from_boundary-more [] h some = absurd (omega arith)
from_boundary-more (x ∷ hs) h some = elim (cases_Bool (is_boundary x.phase)) [
  | inl t ↦ rw t refl
  | inr f ↦ rw f (from_boundary-more hs h (rw f at some))
]

-- ---- the ticks since the boundary

pub since-of : (hs later : List Observed) → after_low hs ≡ Some later
    → since_boundary hs ≡ from_boundary later
since-of hs later e = ap (λ o. from_boundary (unwrap_or o [])) e

pub since-empty : (hs : List Observed) → after_low hs ≡ None → since_boundary hs ≡ []
unfolding from_boundary
since-empty hs e = ap (λ o. from_boundary (unwrap_or o [])) e

pub since-start : (hs : List Observed) → after_low hs ≡ Some [] → since_boundary hs ≡ []
unfolding from_boundary
since-start hs e = ap (λ o. from_boundary (unwrap_or o [])) e

pub since-more : (hs later : List Observed) (h : Observed) (n : ℕ) → h.low ≡ false
    → after_low hs ≡ Some later → length (since_boundary hs) ≡ suc n
    → length (since_boundary (hs ++ h ∷ [])) ≡ suc (suc n)
since-more hs later h n high low count =
    let was : length (from_boundary later) ≡ suc n = ap length (sym (since-of hs later low))
    ∙ count in
    let now = from_boundary-more later h (omega arith) in
    let more = length-append (from_boundary later) (h ∷ []) in
    let is : length (from_boundary (later ++ h ∷ [])) ≡ suc (suc n) = ap length now
    ∙ (let e : length (from_boundary later ++ h ∷ []) ≡ suc (suc n) = omega arith in e) in
    ap length (since-of (hs ++ h ∷ []) (later ++ h ∷ []) (after_low-some hs h later high low)) ∙ is

-- ---- orders by that number

order-b : (p : Params) (hs : List Observed) → p.mode ≡ B → tx_order p hs ≡ order_b p hs
unfolding tx_order
order-b p hs e = rw e refl

pub comma : (p : Params) (hs : List Observed) → p.mode ≡ B → since_boundary hs ≡ []
    → Comma ≡ tx_order p hs
comma p hs b e =
    sym (order-b p hs b
    ∙ ap (λ (s : List Observed). if length s == 0 then Comma else after_boundary p (length s - 1))
    e)

pub later_order : (p : Params) (hs : List Observed) (n : ℕ) → p.mode ≡ B
    → length (since_boundary hs) ≡ suc n → after_boundary p n ≡ tx_order p hs
later_order p hs n b e =
    let some : (suc n == 0) ≡ false = ne_eqb (suc n) 0 (λ z. omega arith) in
    let less : suc n - 1 ≡ n = omega arith in
    sym (order-b p hs b ∙ ap (λ (k : ℕ). if k == 0 then Comma else after_boundary p (k - 1)) e
    ∙ rw some (ap (after_boundary p) less))

pub place_in_sequence : (p : Params) (n : ℕ) → n < 4 * period p → Ilas n ≡ after_boundary p n
place_in_sequence p n h =
    sym (ap (λ (t : Bool). if t then Ilas n else DataOrder (n % period p) (n == 4 * period p))
    (lt-ltb n (4 * period p) h))

pub place_in_data : (p : Params) (n : ℕ) → 4 * period p ≤ n
    → DataOrder (n % period p) (n == 4 * period p) ≡ after_boundary p n
place_in_data p n h =
    sym (ap (λ (t : Bool). if t then Ilas n else DataOrder (n % period p) (n == 4 * period p))
    (le-ltb n (4 * period p) h))

pub boundary-is : (phase : Option ℕ) → option_eq eqb phase (Some 0) ≡ is_boundary phase
boundary-is None = refl
boundary-is (Some x) = refl

-- ---- ticks

pub next_in_data : (n period x place : ℕ) → x ≡ n % period → place ≡ suc x % period
    → (4 * period + (n + 1)) % period ≡ place
next_in_data n period x place was is =
    mul-add-mod_self_right 4 period (n + 1) ∙ sym (mod-add-mod n period 1)
    ∙ ap (λ k. (k + 1) % period) (sym was) ∙ ap (λ k. k % period) (add-one x) ∙ sym is
