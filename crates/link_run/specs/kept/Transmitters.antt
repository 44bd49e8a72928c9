-- What the transmitter of a run keeps of its history.
-- Code: a clock, a row of levels, a place, one frame, and a number a lane.
use Rattle.std.specs.Prelude.{◌≡◌, ℕ, ◌+◌, Bool, if◌then◌else◌, List, [], ◌∷◌, ◌++◌, length, None}
use Rattle.link_params.specs.declared.alarms.Device.TheVariants.{Tx}
use Rattle.link_params.specs.declared.orders.TxOrder.{TxOrder}
use Rattle.scenario.specs.Plans.{Plan}
use Rattle.link_run.specs.declared.sending.Sending.{Sending}
use Rattle.link_run.specs.declared.tx_tick.TxTick.{TxTick}
use Rattle.link_model.specs.kept.Before.{levels_after, observed_before}
use Rattle.link_model.specs.Edges.{off}
use Rattle.link_model.specs.Kinds.{moment_of}
use Rattle.link_model.specs.Moments.{History}
use Rattle.link_model.specs.Sends.{data_place, frames_before, observed, order_of}
use Rattle.link_run.specs.kept.Clocked.{Clocking, HasClocked}
use Rattle.link_run.specs.kept.Seen.{Fed, HasFed, HasSynced}
use Rattle.lane_threads.specs.kept.LaneEnds.{Follows, next_after}
use Rattle.link_run.specs.kept.Sendings.{HasObserved, next_of}

-- its clock, SYNC~ as it will see it, where it stands, the frame that began last, and what each
-- lane was handed last
pub record TxEnd : Type 0 where
  pub clock : Clocking
  pub sync : List Bool
  pub sending : Sending
  pub feed : Fed
  pub handed : List ℕ

-- the ticks of this history are over
pub record HasSentRun (now : TxEnd) (s : Plan) (h : History) : Type 0 where
  pub clock : HasClocked now.clock s (length h)
  pub device : now.clock.device ≡ Tx
  pub sync : HasSynced now.sync s.link.timing.sync_delay (levels_after h)
  pub sending : HasObserved now.sending s.link.params (observed_before s h)
  pub feed : HasFed now.feed s (frames_before h)

-- the tick after this history was sent, and SYNC~ has no level of it yet
pub record HasSentTick (now : TxEnd) (s : Plan) (h : History) : Type 0 where
  pub clock : HasClocked now.clock s (length h + 1)
  pub device : now.clock.device ≡ Tx
  pub sync : HasSynced now.sync s.link.timing.sync_delay (levels_after h)
  pub sending : HasObserved now.sending s.link.params (observed s h)
  pub feed : HasFed now.feed s (frames_before (h ++ moment_of s h ∷ []))
  pub handed : now.handed ≡ (moment_of s h).handed

-- a transmitter's next order, and where it stands with it
pub record Observes (order : TxOrder) (old now : Sending) (s : Plan) (h : History)
    (reset : Bool) : Type 0 where
  pub order_due : order ≡ order_of s h
  pub after : HasObserved now s.link.params (observed s h)
  pub follows : Follows s.link.params (if reset then None else next_of s.link.params old) order
  pub next : next_of s.link.params now ≡ next_after s.link.params order

-- what a transmitter says of the tick after this history, and what it keeps
pub record IsSentTick (tick : TxTick) (old now : TxEnd) (s : Plan) (h : History)
    (reset : Bool) : Type 0 where
  pub off : tick.off ≡ off s Tx (length h)
  pub observes : Observes tick.order old.sending now.sending s h reset
  pub place : tick.place ≡ data_place (moment_of s h).order
  pub after : HasSentTick now s h
