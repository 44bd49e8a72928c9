-- What the transmitter sends in a tick, by its phases and by what it saw of SYNC~ since its reset
-- (JESD204B.01 clauses 5.3.3.1 code group synchronization and 5.3.3.5 initial lane alignment;
-- JESD204C.1, 64b/66b link layer).
-- Code: a counter.
use Rattle.std.specs.Prelude.{ℕ, ◌-◌, ◌*◌, ◌%◌, ◌==◌, nat_lt, Bool, false, if◌then◌else◌, List, [], ◌∷◌, length, Option, Some, None, is_some, unwrap_or}
use Rattle.link_params.specs.declared.fields.Params.{Params}
use Rattle.link_params.specs.declared.orders.TxOrder.{TxOrder}
use Rattle.link_params.specs.declared.orders.TxOrder.TheVariants.{Comma, Ilas, Data, Silent, Block}
use Rattle.link_params.specs.Laws.{is_b}
use Rattle.link_params.specs.Numbers.{period}

-- one tick of the transmitter: the phase of its clock, and whether it saw SYNC~ low
pub record Observed : Type 0 where
  pub phase : Option ℕ
  pub low : Bool

abbrev pub or_else : Option (List Observed) → Option (List Observed) → Option (List Observed)
or_else (Some x) o = Some x
or_else None o = o

-- the ticks after the last one in which SYNC~ was seen low; None where it never was
unfoldable pub after_low : List Observed → Option (List Observed)
after_low [] = None
after_low (h ∷ hs) = let here = if h.low then Some hs else None in or_else (after_low hs) here

abbrev pub is_boundary : Option ℕ → Bool
is_boundary None = false
is_boundary (Some x) = x == 0

-- the ticks from the first boundary on
unfoldable pub from_boundary : List Observed → List Observed
from_boundary [] = []
from_boundary (h ∷ hs) = if is_boundary h.phase then h ∷ hs else from_boundary hs

-- the ticks from the first boundary on that comes after the last tick in which SYNC~ was seen low
abbrev pub since_boundary : List Observed → List Observed
since_boundary hs = from_boundary (unwrap_or (after_low hs) [])

-- n ticks after that boundary: the alignment sequence, then data
abbrev pub after_boundary : Params → ℕ → TxOrder
after_boundary p n = if nat_lt n (4 * period p) then Ilas n else Data (n % period p)
    (n == 4 * period p)

-- 8b/10b lanes send /K/ until then
abbrev pub order_b : Params → List Observed → TxOrder
order_b p hs = let n = length (since_boundary hs) in if n == 0 then Comma else after_boundary p
    (n - 1)

-- the ticks from the first edge on
unfoldable pub from_edge : List Observed → List Observed
from_edge [] = []
from_edge (h ∷ hs) = if is_some h.phase then h ∷ hs else from_edge hs

-- 64b/66b lanes send zero bits until then, and blocks from that tick on
abbrev pub order_c : Params → List Observed → TxOrder
order_c p hs = let n = length (from_edge hs) in
    if n == 0 then Silent else Block ((n - 1) % period p) (n == 1)

-- the order of the last of all ticks since the reset
unfoldable pub tx_order : Params → List Observed → TxOrder
tx_order p hs = if is_b p.mode then order_b p hs else order_c p hs
