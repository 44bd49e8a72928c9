-- What the two ends of a lane of either kind keep.
-- Code: each end is that of one kind.
use Rattle.std.specs.Prelude.{◌≡◌, ◌<◌, ℕ, suc, ◌%◌, Bool, true, false, List, Option, option_map}
use Rattle.link_params.specs.declared.fields.Params.{Params}
use Rattle.link_params.specs.declared.fields.Timing.{Timing}
use Rattle.link_params.specs.declared.orders.TxOrder.{TxOrder}
use Rattle.link_params.specs.Lanes.{Handed, Taken}
use Rattle.link_params.specs.Laws.{is_b}
use Rattle.link_params.specs.Numbers.{period}
use Rattle.elastic_buffer.specs.kept.Queues.{Queue}
use Rattle.lane_b.specs.kept.Senders.{Follows as FollowsB, HasSent as HasSentB}
use Rattle.lane_b.specs.kept.Receivers.{HasTaken as HasTakenB}
use Rattle.lane_c.specs.kept.Senders.{Follows as FollowsC, HasSent as HasSentC}
use Rattle.lane_c.specs.kept.Receivers.{HasTaken as HasTakenC}
use Rattle.link_model.specs.Sends.{data_place}
use Rattle.lane_threads.specs.declared.tx_lane.TxLane.{TxLane}
use Rattle.lane_threads.specs.declared.tx_lane.TxLane.TheVariants as tx
use Rattle.lane_threads.specs.declared.rx_lane.RxLane.{RxLane}
use Rattle.lane_threads.specs.declared.rx_lane.RxLane.TheVariants as rx

-- ---- the transmitter end

-- a lane of this link was handed these since its reset
abbrev pub HasSent : TxLane → Params → ℕ → List Handed → Type 0
HasSent (tx.B x) p lane handed = (is_b p.mode ≡ true) × HasSentB x p lane handed
HasSent (tx.C x) p lane handed = (is_b p.mode ≡ false) × HasSentC x p handed

-- the link's parameters
abbrev pub params_in : TxLane → Params
params_in (tx.B x) = x.params
params_in (tx.C x) = x.params

-- the place of the data that comes next, while data goes on
abbrev pub next_in : TxLane → Option ℕ
next_in (tx.B x) = x.next
next_in (tx.C x) = x.next

-- the same after a tick with this order
abbrev pub next_after : Params → TxOrder → Option ℕ
next_after p order = option_map (λ x. suc x % period p) (data_place order)

-- an order that it can be given next
abbrev pub MayFollow : TxLane → TxOrder → Type 0
MayFollow (tx.B x) order = FollowsB x.params x.next order
MayFollow (tx.C x) order = FollowsC x.next order

-- an order that lanes of either kind can be given next: 8b/10b, or 64b/66b
abbrev pub FollowsOn : Bool → Params → Option ℕ → TxOrder → Type 0
FollowsOn true p next order = FollowsB p next order
FollowsOn false p next order = FollowsC next order

abbrev pub Follows : Params → Option ℕ → TxOrder → Type 0
Follows p next order = FollowsOn (is_b p.mode) p next order

-- octets that it can be handed as one number: one, or eight
abbrev pub IsSmall : TxLane → ℕ → Type 0
IsSmall (tx.B x) octets = octets < 256
IsSmall (tx.C x) octets = Unit {0}

-- the bits of a tick
abbrev pub tx_width : TxLane → ℕ
tx_width (tx.B x) = 10
tx_width (tx.C x) = 66

-- ---- the receiver end

-- a lane of this link took these since its hunt began, and gave so many entries
abbrev pub HasTaken : RxLane → Params → Timing → ℕ → List Taken → ℕ → Type 0
HasTaken (rx.B x) p t lane taken gave = (is_b p.mode ≡ true) × HasTakenB x p t lane taken gave
HasTaken (rx.C x) p t lane taken gave = (is_b p.mode ≡ false) × HasTakenC x p t lane taken gave

-- the elastic buffer
abbrev pub buffer_in : RxLane → Queue
buffer_in (rx.B x) = x.buffer
buffer_in (rx.C x) = x.buffer

-- the bits of a tick
abbrev pub rx_width : RxLane → ℕ
rx_width (rx.B x) = 10
rx_width (rx.C x) = 66
