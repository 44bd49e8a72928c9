-- What the ends of the lanes' rings received and know of.
-- Code: a list of ends.
use Rattle.std.specs.Prelude.{◌≡◌, ◌<◌, ℕ, List, length, get_or}
use Rattle.rtrb.specs.Ring.{known_items, received}
use Rattle.scenario.specs.Plans.{Plan}
use Rattle.lane_threads.specs.declared.cell_end.CellEnd.{CellEnd}
use Rattle.lane_threads.specs.declared.lane_pair.LanePair.{LanePair}
use Rattle.lane_threads.specs.Segments.{IsOnePair}
use Rattle.link_run.specs.Given.{cells_in}

-- each lane and the end with its number come from one opening
pub record ArePairs (lanes : List LanePair) (ends : List CellEnd) : Type 0 where
  pub count : length ends ≡ length lanes
  pub each : (lane : ℕ) (d : LanePair) (e : CellEnd) → lane < length lanes
      → IsOnePair (get_or lanes lane d) (get_or ends lane e)

-- the ends received what the lanes gave before tick t, and know of what they gave in the n ticks
-- from it on
pub record HasCells (end : CellEnd) (s : Plan) (t n lane : ℕ) : Type 0 where
  pub received_are : received end.ring ≡ cells_in s lane 0 t
  pub known_are : known_items end.ring ≡ cells_in s lane t n

abbrev pub HaveCells : List CellEnd → Plan → ℕ → ℕ → Type 0
HaveCells ends s t n = (lane : ℕ) (e : CellEnd) → lane < length ends
    → HasCells (get_or ends lane e) s t n lane
