-- What a transmitter of 64b/66b lanes sends after one tick more, and which transmitter goes on how.
use Rattle.std.proofs.Common.{◌≡◌, ℕ, suc, ◌+◌, ◌-◌, ◌%◌, ◌==◌, ◌<◌, ◌≤◌, Bool, true, false, if◌then◌else◌, List, [], ◌∷◌, ◌++◌, length, Option, Some, None, is_some, inl, inr, refl, sym, ap, subst, ◌∙◌, add-one, length-append, arith}
use Rattle.std.proofs.Math.Nat.{mod-add-mod, mod-eq_of_lt, mod-lt}
use Rattle.std.proofs.lemmas.Bool.{cases_Bool, ne_eqb}
use Rattle.link_params.specs.declared.fields.Params.{Params}
use Rattle.link_params.specs.declared.fields.Mode.{Mode}
use Rattle.link_params.specs.declared.fields.Mode.TheVariants.{B, CCrc, CFec}
use Rattle.link_params.specs.declared.orders.TxOrder.{TxOrder}
use Rattle.link_params.specs.declared.orders.TxOrder.TheVariants.{Comma, Ilas, Data as DataOrder, Silent, Block}
use Rattle.link_params.specs.Laws.{is_b}
use Rattle.link_params.specs.Numbers.{period}
use Rattle.lane_b.specs.kept.Senders.{Follows as FollowsB, place_after_order}
use Rattle.link_model.specs.Orders.{Observed, from_edge, order_c, tx_order}
use Rattle.link_run.specs.declared.alignment.Alignment.{Alignment}
use Rattle.link_run.specs.declared.sending.Sending.TheVariants.{Octets, Blocks}
use Rattle.link_run.specs.kept.Alignments.{GoesOnTo as GoesOnToB, next_of as next_of_octets}
use Rattle.lane_threads.specs.kept.LaneEnds.{FollowsOn, next_after}
use Rattle.link_run.specs.kept.Sendings.{BlocksGoOn, GoesOnTo, HasObserved, next_of_blocks}

pub mode-is : (m : Mode) → is_b m ≡ true → m ≡ B
mode-is B e = refl
mode-is CCrc e = let bad : false ≡ true = e in absurd (cc)
mode-is CFec e = let bad : false ≡ true = e in absurd (cc)

-- ---- one tick more at the end

from_edge-first : (hs : List Observed) (h : Observed) → is_some h.phase ≡ true → from_edge hs ≡ []
    → from_edge (hs ++ h ∷ []) ≡ h ∷ []
unfolding from_edge
from_edge-first [] h e none = rw e refl
from_edge-first (x ∷ hs) h e none = elim (cases_Bool (is_some x.phase)) [
  | inl t ↦ let bad : x ∷ hs ≡ [] = rw t at none in absurd (cc)
  | inr f ↦ rw f (from_edge-first hs h e (rw f at none))
]

from_edge-none : (hs : List Observed) (h : Observed) → is_some h.phase ≡ false → from_edge hs ≡ []
    → from_edge (hs ++ h ∷ []) ≡ []
unfolding from_edge
from_edge-none [] h e none = rw e refl
from_edge-none (x ∷ hs) h e none = elim (cases_Bool (is_some x.phase)) [
  | inl t ↦ let bad : x ∷ hs ≡ [] = rw t at none in absurd (cc)
  | inr f ↦ rw f (from_edge-none hs h e (rw f at none))
]

from_edge-more : (hs : List Observed) (h : Observed) → 0 < length (from_edge hs)
    → from_edge (hs ++ h ∷ []) ≡ from_edge hs ++ h ∷ []
unfolding from_edge
from_edge-more [] h some = absurd (omega arith)
from_edge-more (x ∷ hs) h some = elim (cases_Bool (is_some x.phase)) [
  | inl t ↦ rw t refl
  | inr f ↦ rw f (from_edge-more hs h (rw f at some))
]

-- ---- orders by the number of ticks since the edge

silent-order : (p : Params) (hs : List Observed) → from_edge hs ≡ [] → Silent ≡ order_c p hs
silent-order p hs e = sym (ap (λ (s : List Observed). if length s == 0 then Silent else Block
    ((length s - 1) % period p) (length s == 1)) e)

block-order : (p : Params) (hs : List Observed) (n : ℕ) → length (from_edge hs) ≡ suc n
    → Block (n % period p) (suc n == 1) ≡ order_c p hs
block-order p hs n e =
    let some : (suc n == 0) ≡ false = ne_eqb (suc n) 0 (λ z. omega arith) in
    let less : suc n - 1 ≡ n = omega arith in
    sym (ap (λ (k : ℕ). if k == 0 then Silent else Block ((k - 1) % period p) (k == 1)) e
    ∙ rw some (ap (λ (k : ℕ). Block (k % period p) (suc n == 1)) less))

abbrev with : Option ℕ → Bool → Observed
with phase low = record { phase = phase; low = low }

-- ---- ticks

pub silent : (p : Params) (hs : List Observed) (phase : Option ℕ) → is_some phase ≡ false
    → BlocksGoOn None None p hs phase Silent
silent p hs phase none = record {
  due = λ was low. silent-order p (hs ++ with phase low ∷ [])
      (from_edge-none hs (with phase low) none was);
  goes_on = λ was low. from_edge-none hs (with phase low) none was;
  follows = λ was. tt;
  next = refl;
}

pub first_block : (p : Params) (hs : List Observed) (phase : Option ℕ) → is_some phase ≡ true
    → 1 ≤ period p → BlocksGoOn None (Some 0) p hs phase (Block 0 true)
first_block p hs phase edge some =
    let place : 0 ≡ 0 % period p = sym (mod-eq_of_lt some) in
    record {
      due = λ was low. ap (λ (k : ℕ). Block k true) place
          ∙ block-order p (hs ++ with phase low ∷ []) 0
          (ap length (from_edge-first hs (with phase low) edge was));
      goes_on = λ was low. (
        0,
        ap length (from_edge-first hs (with phase low) edge was),
        place,
      );
      follows = λ was. (refl, refl);
      next = refl;
    }

pub next_block : (p : Params) (hs : List Observed) (phase : Option ℕ) (x place : ℕ) → 1 ≤ period p
    → (x < period p → place ≡ (x + 1) % period p)
    → BlocksGoOn (Some x) (Some place) p hs phase (Block place false)
next_block p hs phase x place some goes =
    record {
      due = λ was low.
          let x_is = was.2 in
          let many = was.1 in
          let small = mod-lt was.0 some in
          let within : x < period p = omega arith in
          let is : place ≡ (x + 1) % period p = goes within in
          let place_now : place ≡ (was.0 + 1) % period p = is
          ∙ ap (λ k. (k + 1) % period p) x_is ∙ mod-add-mod was.0 (period p) 1 in
          let grown = ap length (from_edge-more hs (with phase low) (omega arith)) in
          let more = length-append (from_edge hs) (with phase low ∷ []) in
          let later : (suc (was.0 + 1) == 1) ≡ false = ne_eqb (suc (was.0 + 1)) 1
          (λ e. omega arith) in
          ap (λ (k : ℕ). Block k false) place_now
          ∙ sym (ap (Block ((was.0 + 1) % period p)) later)
          ∙ block-order p (hs ++ with phase low ∷ []) (was.0 + 1) (omega arith);
      goes_on = λ was low.
          let x_is = was.2 in
          let many = was.1 in
          let small = mod-lt was.0 some in
          let within : x < period p = omega arith in
          let is : place ≡ (x + 1) % period p = goes within in
          let place_now : place ≡ (was.0 + 1) % period p = is
          ∙ ap (λ k. (k + 1) % period p) x_is ∙ mod-add-mod was.0 (period p) 1 in
          let grown = ap length (from_edge-more hs (with phase low) (omega arith)) in
          let more = length-append (from_edge hs) (with phase low ∷ []) in
          (was.0 + 1, omega arith, place_now);
      follows = λ was.
          let x_is = was.2 in
          let small = mod-lt was.0 some in
          let within : x < period p = omega arith in
          (refl, goes within ∙ ap (λ k. k % period p) (add-one x));
      next = refl;
    }

-- ---- a transmitter of either kind

order-c : (p : Params) (hs : List Observed) → is_b p.mode ≡ false → tx_order p hs ≡ order_c p hs
unfolding tx_order
order-c p hs e = rw e refl

next-places : (p : Params) (next : Option ℕ) (order : TxOrder) → FollowsB p next order
    → place_after_order p order ≡ next_after p order
next-places p next Comma f = refl
next-places p next (Ilas x) f = refl
next-places p next (DataOrder x first) f = refl
next-places p next Silent f = refl
next-places p next (Block x first) f = absurd f

pub octets-go-on : (before after : Alignment) (p : Params) (hs : List Observed) (h : Observed)
    (order : TxOrder) → is_b p.mode ≡ true → GoesOnToB before after p hs h order
    → GoesOnTo (Octets before) (Octets after) p hs h order
octets-go-on before after p hs h order b g = record {
  due = g.due;
  goes_on = (b, g.goes_on);
  follows = subst (λ x. FollowsOn x p (next_of_octets p before) order) (sym b) g.follows;
  next = g.next ∙ next-places p (next_of_octets p before) order g.follows;
}

pub blocks-go-on : (before after : Option ℕ) (p : Params) (hs : List Observed) (h : Observed)
    (order : TxOrder) → HasObserved (Blocks before) p hs
    → BlocksGoOn before after p hs h.phase order
    → GoesOnTo (Blocks before) (Blocks after) p hs h order
blocks-go-on before after p hs h order was g = record {
  due = g.due was.1 h.low ∙ sym (order-c p (hs ++ h ∷ []) was.0);
  goes_on = (was.0, g.goes_on was.1 h.low);
  follows = subst (λ x. FollowsOn x p (next_of_blocks p before) order) (sym was.0)
      (g.follows was.1);
  next = g.next;
}
