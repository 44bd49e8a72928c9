-- The ends of a lane over whole lists, for both kinds of lane. An item of a list is a tick: one
-- character of an 8b/10b lane, or one block of 66 bits of a 64b/66b lane.
-- Code: one tick at a time.
use Rattle.std.specs.Prelude.{ℕ, ◌&&◌, nat_le, Bool, List}
use Rattle.link_params.specs.declared.fields.Params.{Params}
use Rattle.link_params.specs.declared.fields.Timing.{Timing}
use Rattle.link_params.specs.declared.orders.TxOrder.{TxOrder}
use Rattle.link_params.specs.declared.orders.RxOrder.{RxOrder}
use Rattle.link_params.specs.declared.lane_report.LaneReport.{LaneReport}
use Rattle.link_params.specs.declared.cells.LaneCell.{LaneCell}
use Rattle.link_params.specs.declared.cells.Mark.{Mark}
use Rattle.link_params.specs.declared.cells.Mark.TheVariants.{Ok, Fixed, Bad}

-- the worse of two marks
abbrev pub worse : Mark → Mark → Mark
worse Ok m = m
worse Fixed Ok = Fixed
worse Fixed Fixed = Fixed
worse Fixed Bad = Bad
worse Bad m = Bad

-- one tick of a transmitter lane: its order, and the octets that it was handed, as one number
pub record Handed : Type 0 where
  pub order : TxOrder
  pub octets : ℕ

-- one tick of a receiver lane: its order and the bits that it took
pub record Taken : Type 0 where
  pub order : RxOrder
  pub word : List Bool

-- what a lane's elastic buffer holds of a tick since the start: a place of the alignment sequence, which is given and dropped,
-- or data
pub data Entry : Type 0 where
  Placed : Entry
  Held : LaneCell → Entry

-- a start at this offset is inside the window
abbrev pub is_inside : Timing → ℕ → Bool
is_inside t offset = nat_le t.w_lo offset && nat_le offset t.w_hi

-- what differs from mode to mode, for a link's parameters and timing and a lane: the words that a transmitter lane sends for
-- all that it was handed since its reset, and what a receiver lane reports, and which entries its buffer was given since its
-- start, after all that it took since its hunt
pub record LaneKind : Type 0 where
  pub sends : Params → ℕ → List Handed → List (List Bool)
  pub report : Params → Timing → ℕ → List Taken → LaneReport
  pub entries : Params → Timing → ℕ → List Taken → List Entry
