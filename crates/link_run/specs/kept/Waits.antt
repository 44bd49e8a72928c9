-- The cells that were taken from the ends of the lanes' rings and wait to be joined to frames.
-- Code: an array for each lane of the frame.
use Rattle.std.specs.Prelude.{◌≡◌, ◌<◌, ◌≤◌, ℕ, List, [], ◌∷◌, ◌++◌, length, get_or, slice_index, Option, None, Some}
use Rattle.rtrb.specs.Ring.{SameConsumer, known_items, received}
use Rattle.link_params.specs.declared.cells.LaneCell.{LaneCell}
use Rattle.scenario.specs.Plans.{Plan}
use Rattle.link_model.specs.Wiring.{lane_for}
use Rattle.lane_threads.specs.declared.cell_end.CellEnd.{CellEnd}
use Rattle.link_run.specs.Given.{cells_in}

-- the cells of a lane, the next one first, and for how many there is room
pub record Waits : Type 0 where
  pub cells : List LaneCell
  pub room : ℕ

abbrev pub no_waits : Waits
no_waits = record { cells = []; room = 0 }

-- the first ones of the cells that were known to be at an end were taken from it: all of them,
-- where none waited and there is room
pub record IsFilled (old now : Waits) (before after : CellEnd) : Type 0 where
  pub moved : List LaneCell
  pub known_before : known_items before.ring ≡ moved ++ known_items after.ring
  pub received_too : received after.ring ≡ received before.ring ++ moved
  pub ring : SameConsumer before.ring after.ring
  pub waiting : now.cells ≡ old.cells ++ moved
  pub all : old.cells ≡ [] → length (known_items before.ring) ≤ old.room
      → known_items after.ring ≡ []
  pub same_room : now.room ≡ old.room

-- lane by lane: the cells of an end wait at the place of its lane in the frame
pub record AreFilled (old now : List Waits) (before after : List CellEnd) (route : List ℕ)
    : Type 0 where
  pub count : length now ≡ length old
  pub end_count : length after ≡ length before
  pub each : (lane : ℕ) (w : Waits) (e : CellEnd) → lane < length before
      → IsFilled (get_or old (slice_index route lane) w) (get_or now (slice_index route lane) w)
      (get_or before lane e) (get_or after lane e)

-- the cells of n ticks from tick t on wait, in the order of the lanes of the frame, in room for m
-- ticks' cells
abbrev pub HaveWaiting : List Waits → Plan → ℕ → ℕ → Type 0
HaveWaiting waits s t n = (place : ℕ) (w : Waits) → place < length waits
    → (get_or waits place w).cells ≡ cells_in s (lane_for s place) t n

abbrev pub HaveRoom : List Waits → ℕ → Type 0
HaveRoom waits m = (lane : ℕ) (w : Waits) → lane < length waits → m ≤ (get_or waits lane w).room

-- the next cell
abbrev pub first_of : List LaneCell → Option LaneCell
first_of [] = None
first_of (x ∷ xs) = Some x

abbrev pub next_of : Waits → Option LaneCell
next_of w = first_of w.cells

-- it was taken
pub record IsNext (old now : Waits) : Type 0 where
  pub cell : LaneCell
  pub first : old.cells ≡ cell ∷ now.cells
  pub same_room : now.room ≡ old.room

-- from each lane
pub record AreNext (old now : List Waits) : Type 0 where
  pub count : length now ≡ length old
  pub each : (lane : ℕ) (w : Waits) → lane < length old
      → IsNext (get_or old lane w) (get_or now lane w)
