-- Where a transmitter stands after what it observed since its reset.
-- Code: a state and one place.
use Rattle.std.specs.Prelude.{◌≡◌, ℕ, suc, ◌%◌, true, false, Bool, List, [], ◌∷◌, ◌++◌, length, Option, Some, None, option_map}
use Rattle.link_params.specs.declared.fields.Params.{Params}
use Rattle.link_params.specs.declared.orders.TxOrder.{TxOrder}
use Rattle.link_params.specs.Laws.{is_b}
use Rattle.link_params.specs.Numbers.{period}
use Rattle.lane_c.specs.kept.Senders.{Follows as FollowsC}
use Rattle.link_run.specs.declared.sending.Sending.{Sending}
use Rattle.link_run.specs.declared.sending.Sending.TheVariants.{Octets, Blocks}
use Rattle.link_model.specs.Orders.{Observed, from_edge, order_c, tx_order}
use Rattle.lane_threads.specs.kept.LaneEnds.{Follows, next_after}
use Rattle.link_run.specs.kept.Alignments.{HasObserved as HasObservedB, next_of as next_of_octets}

-- the place of the next block, once one was sent
abbrev pub next_of_blocks : Params → Option ℕ → Option ℕ
next_of_blocks p last = option_map (λ x. suc x % period p) last

-- the place of the next data, while data goes on
abbrev pub next_of : Params → Sending → Option ℕ
next_of p (Octets a) = next_of_octets p a
next_of p (Blocks last) = next_of_blocks p last

-- the ticks since the first edge, that of the last block the last one
abbrev pub HasObservedC : Option ℕ → Params → List Observed → Type 0
HasObservedC None p observed = from_edge observed ≡ []
HasObservedC (Some x) p observed =
    (n : ℕ) × (length (from_edge observed) ≡ suc n) × (x ≡ n % period p)

-- the transmitter has observed these ticks since its reset
abbrev pub HasObserved : Sending → Params → List Observed → Type 0
HasObserved (Octets a) p observed = (is_b p.mode ≡ true) × HasObservedB a p observed
HasObserved (Blocks last) p observed = (is_b p.mode ≡ false) × HasObservedC last p observed

-- a tick in which this is observed has this order, and takes a transmitter that has observed these
-- ticks from one place to the other
pub record GoesOnTo (before after : Sending) (p : Params) (observed : List Observed) (h : Observed)
    (order : TxOrder) : Type 0 where
  pub due : order ≡ tx_order p (observed ++ h ∷ [])
  pub goes_on : HasObserved after p (observed ++ h ∷ [])
  pub follows : Follows p (next_of p before) order
  pub next : next_of p after ≡ next_after p order

-- the same of blocks, at this phase, whatever level is seen
pub record BlocksGoOn (before after : Option ℕ) (p : Params) (observed : List Observed)
    (phase : Option ℕ) (order : TxOrder) : Type 0 where
  pub due : HasObservedC before p observed → (low : Bool) → order
      ≡ order_c p (observed ++ (record { phase = phase; low = low }) ∷ [])
  pub goes_on : HasObservedC before p observed → (low : Bool) → HasObservedC after p
      (observed ++ (record { phase = phase; low = low }) ∷ [])
  pub follows : HasObservedC before p observed → FollowsC (next_of_blocks p before) order
  pub next : next_of_blocks p after ≡ next_after p order
