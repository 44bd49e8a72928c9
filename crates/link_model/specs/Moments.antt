-- The ticks of a run, and its history (this project's own).
-- Code: each part keeps what it needs of its own history.
use Rattle.std.specs.Prelude.{ℕ, Bool, List}
use Rattle.link_params.specs.declared.orders.TxOrder.{TxOrder}
use Rattle.link_params.specs.declared.orders.RxOrder.{RxOrder}
use Rattle.link_params.specs.declared.lane_report.LaneReport.{LaneReport}
use Rattle.link_params.specs.declared.cells.Mark.{Mark}
use Rattle.bring_up.specs.declared.stage.Stage.{Stage}
use Rattle.bring_up.specs.Decisions.{Decided}

-- a frame that leaves: the octet time of its first octet, its mark and its words
pub record Delivered : Type 0 where
  pub left : ℕ
  pub mark : Mark
  pub words : List ℕ

-- one tick
pub record Moment : Type 0 where
  pub order : TxOrder  -- what each transmitter lane was told to send
  pub entered : List ℕ  -- the octet times at which source frames began
  pub handed : List ℕ  -- the octets of each transmitter lane
  pub sent : List (List Bool)  -- the bits of each transmitter lane
  pub told : RxOrder  -- what each receiver lane was told
  pub taken : List (List Bool)  -- the bits of each receiver lane
  pub reports : List LaneReport  -- after these bits
  pub held : List ℕ  -- the entries in each elastic buffer after these bits
  pub decides : Bool  -- the tick is a release point
  pub decided : Decided
  pub stage : Stage  -- after the decision
  pub delivered : List Delivered

-- oldest tick first; the length is the tick that comes
abbrev pub History : Type 0
History = List Moment
