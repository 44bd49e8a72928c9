-- What the steps of a segment do to a lane.
-- Code: a lane, its octets and its ring.
use Rattle.std.specs.Prelude.{◌≡◌, ◌≤◌, ℕ, ◌+◌, Bool, false, if◌then◌else◌, [], ◌++◌, length, max, slice_index}
use Rattle.rtrb.specs.Ring.{SameProducer, sent}
use Rattle.lane_c.specs.kept.Receivers.{IsArmedOn}
use Rattle.scenario.specs.Plans.{Plan}
use Rattle.link_model.specs.Kinds.{kind_of}
use Rattle.link_model.specs.kept.LaneRuns.{LaneRun, given_by, stepped}
use Rattle.lane_threads.specs.declared.lane_pair.LanePair.{LanePair}
use Rattle.lane_threads.specs.declared.step.Step.{Step}
use Rattle.lane_threads.specs.Segments.{pushed}
use Rattle.lane_threads.specs.kept.LaneEnds.{buffer_in, next_after, next_in, params_in}
use Rattle.lane_threads.specs.kept.LaneRuns.{HasRunLane}

-- nothing but the lane itself changed
abbrev pub KeepsRest : LanePair → LanePair → Type 0
KeepsRest a b = (b.octets.items ≡ a.octets.items) × (b.fullest ≡ a.fullest) × (b.room ≡ a.room)
    × (b.ring ≡ a.ring)

-- an entry was given, or none
pub record IsReady (gives : Bool) (a b : LanePair) : Type 0 where
  pub goes_on : (s : Plan) (lane : ℕ) (x : LaneRun) → HasRunLane a.lane s lane x
      → HasRunLane b.lane s lane (record x { gave = if gives then x.gave + 1 else x.gave })
  pub sends : (s : Plan) (lane : ℕ) (x : LaneRun) → HasRunLane a.lane s lane x
      → sent b.ring ≡ sent a.ring
      ++ (if gives then pushed (given_by (kind_of s.link.params) s (λ _. x) lane) else [])
  pub count : b.room + length (sent b.ring) ≡ a.room + length (sent a.ring)
  pub room : a.room ≤ b.room + (if gives then 1 else 0)
  pub tx : b.lane.tx ≡ a.lane.tx
  pub octets : b.octets.items ≡ a.octets.items
  pub fullest : b.fullest ≡ a.fullest
  pub ring : SameProducer a.ring b.ring

-- tick n of a segment was sent and taken
pub record HasTicked (step : Step) (n : ℕ) (a b : LanePair) : Type 0 where
  pub goes_on : (s : Plan) (lane : ℕ) (x : LaneRun) → HasRunLane a.lane s lane x
      → (step.rx.hunt ≡ false → IsArmedOn x.taken step.rx)
      → HasRunLane b.lane s lane (stepped (kind_of s.link.params) s lane x step.tx
      (slice_index a.octets.items n) step.rx)
  pub next : next_in b.lane.tx ≡ next_after (params_in a.lane.tx) step.tx
  pub same : params_in b.lane.tx ≡ params_in a.lane.tx
  pub octets : b.octets.items ≡ a.octets.items
  pub fullest : b.fullest ≡ max a.fullest (length (buffer_in b.lane.rx).cells)
  pub room : b.room ≡ a.room
  pub ring : b.ring ≡ a.ring
