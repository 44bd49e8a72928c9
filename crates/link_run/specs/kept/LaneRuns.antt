-- What the lanes of a run went through, where they stand, and what their rings carried.
-- Code: a list of lanes, each with the producer of its ring.
use Rattle.std.specs.Prelude.{◌≡◌, ◌<◌, ℕ, ◌+◌, ◌==◌, if◌then◌else◌, List, length, get_or, set, slice_index, Option}
use Rattle.rtrb.specs.Ring.{SameProducer, sent}
use Rattle.link_params.specs.declared.fields.Params.{Params}
use Rattle.link_params.specs.Numbers.{width}
use Rattle.scenario.specs.Plans.{Plan}
use Rattle.link_model.specs.kept.LaneRuns.{LaneRun}
use Rattle.lane_threads.specs.declared.lane_pair.LanePair.{LanePair}
use Rattle.lane_threads.specs.kept.LaneEnds.{buffer_in, next_in, params_in, tx_width}
use Rattle.lane_threads.specs.kept.LaneRuns.{HasRunLane}
use Rattle.link_run.specs.Given.{cells_in, most_held}

-- lane by lane
abbrev pub HaveRunLanes : List LanePair → Plan → (ℕ → LaneRun) → Type 0
HaveRunLanes now s runs = (length now ≡ s.link.params.l)
    × ((lane : ℕ) (d : LanePair) → lane < s.link.params.l
    → HasRunLane (get_or now lane d).lane s lane (runs lane))

-- each lane's transmitter end has these parameters, and its next data this place
abbrev pub AreAt : List LanePair → Params → Option ℕ → Type 0
AreAt now p next = (lane : ℕ) (d : LanePair) → lane < length now
    → (params_in (get_or now lane d).lane.tx ≡ p) × (next_in (get_or now lane d).lane.tx ≡ next)

-- each lane's transmitter end has as many bits in a tick as its link
abbrev pub HaveWidths : List LanePair → Type 0
HaveWidths now = (lane : ℕ) (d : LanePair) → lane < length now
    → tx_width (get_or now lane d).lane.tx ≡ width (params_in (get_or now lane d).lane.tx)

-- each lane's elastic buffer holds an entry
abbrev pub HaveEntries : List LanePair → Type 0
HaveEntries now = (lane : ℕ) (d : LanePair) → lane < length now
    → 0 < length (buffer_in (get_or now lane d).lane.rx).cells

-- the lane with this number changes, the others stay
abbrev pub with_lane : (ℕ → LaneRun) → ℕ → LaneRun → ℕ → LaneRun
with_lane runs lane x l = if l == lane then x else runs l

-- ---- what the rings carried

-- a lane gave in the first `given` ticks, and what it held in the first `held` ticks was counted
pub record HasRing (a : LanePair) (s : Plan) (given held lane : ℕ) : Type 0 where
  pub cells : sent a.ring ≡ cells_in s lane 0 given
  pub count : a.room + length (sent a.ring) ≡ s.ticks
  pub most : a.fullest ≡ most_held s lane held

abbrev pub HaveRings : List LanePair → Plan → ℕ → ℕ → Type 0
HaveRings now s given held = (lane : ℕ) (d : LanePair) → lane < length now
    → HasRing (get_or now lane d) s given held lane

-- ---- what stays

-- b is a but for the octets of the next segment
pub record IsSameLane (a b : LanePair) : Type 0 where
  pub lane : b.lane ≡ a.lane
  pub fullest : b.fullest ≡ a.fullest
  pub room : b.room ≡ a.room
  pub ring : b.ring ≡ a.ring

pub record AreSameLanes (old now : List LanePair) : Type 0 where
  pub count : length now ≡ length old
  pub each : (lane : ℕ) (d : LanePair) → lane < length old
      → IsSameLane (get_or old lane d) (get_or now lane d)

-- tick i of the next segment has these octets, those of transmitter lane 0 first, each lane's those
-- of the transmitter lane to which it is wired; those of other ticks stay
pub record ArePut (old now : List LanePair) (wire : List ℕ) (i : ℕ) (handed : List ℕ) : Type 0 where
  pub put : (lane : ℕ) (d : LanePair) → lane < length old
      → (get_or now lane d).octets.items
      ≡ set (get_or old lane d).octets.items i (slice_index handed (slice_index wire lane))

-- ring, room and count of entries stay, whatever becomes of the lane
pub record KeepsRing (a b : LanePair) : Type 0 where
  pub fullest : b.fullest ≡ a.fullest
  pub room : b.room ≡ a.room
  pub ring : b.ring ≡ a.ring

pub record KeepRings (old now : List LanePair) : Type 0 where
  pub count : length now ≡ length old
  pub each : (lane : ℕ) (d : LanePair) → lane < length old
      → KeepsRing (get_or old lane d) (get_or now lane d)

-- each lane has the ring that it had
pub record AreOnRings (old now : List LanePair) : Type 0 where
  pub count : length now ≡ length old
  pub each : (lane : ℕ) (d : LanePair) → lane < length old
      → SameProducer (get_or old lane d).ring (get_or now lane d).ring
