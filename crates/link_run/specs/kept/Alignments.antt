-- Where a transmitter of 8b/10b lanes stands after what it observed since its reset.
-- Code: a state and one place.
use Rattle.std.specs.Prelude.{◌≡◌, ℕ, suc, ◌+◌, ◌*◌, ◌%◌, ◌<◌, List, [], ◌∷◌, ◌++◌, length, Option, Some, None}
use Rattle.link_params.specs.declared.fields.Params.{Params}
use Rattle.link_params.specs.declared.orders.TxOrder.{TxOrder}
use Rattle.link_params.specs.Numbers.{period}
use Rattle.lane_b.specs.kept.Senders.{Follows, place_after_order}
use Rattle.link_run.specs.declared.alignment.Alignment.{Alignment}
use Rattle.link_run.specs.declared.alignment.Alignment.TheVariants.{Idle, Synchronizing, Aligning, Streaming}
use Rattle.link_model.specs.Orders.{Observed, after_low, since_boundary, tx_order}

-- the place in the multiframe of the next data octet, while data goes on
abbrev pub next_of : Params → Alignment → Option ℕ
next_of p Idle = None
next_of p Synchronizing = None
next_of p (Aligning x) = None
next_of p (Streaming x) = Some (suc x % period p)

-- the transmitter has observed these ticks since its reset
abbrev pub HasObserved : Alignment → Params → List Observed → Type 0
HasObserved Idle p observed = after_low observed ≡ None
HasObserved Synchronizing p observed = (later : List Observed) × (after_low observed ≡ Some later)
    × (since_boundary observed ≡ [])
HasObserved (Aligning x) p observed = (later : List Observed) × (after_low observed ≡ Some later)
    × (length (since_boundary observed) ≡ suc x) × (x < 4 * period p)
HasObserved (Streaming x) p observed = (later : List Observed) × (after_low observed ≡ Some later)
    × (n : ℕ) × (length (since_boundary observed) ≡ 4 * period p + suc n) × (x ≡ n % period p)

-- a tick in which this is observed has this order, and takes a transmitter that has observed these
-- ticks from one place to the other
pub record GoesOnTo (before after : Alignment) (p : Params) (observed : List Observed) (h : Observed)
    (order : TxOrder) : Type 0 where
  pub due : order ≡ tx_order p (observed ++ h ∷ [])
  pub goes_on : HasObserved after p (observed ++ h ∷ [])
  pub follows : Follows p (next_of p before) order
  pub next : next_of p after ≡ place_after_order p order
