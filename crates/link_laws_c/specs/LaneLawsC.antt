-- The lane laws of 64b/66b lanes, and the laws over a run that follow from them (JESD204C.1,
-- 64b/66b link layer: block, multiblock and extended multiblock synchronization, and data).
-- Code: none of this is computed.
use Rattle.std.specs.Prelude.{◌≡◌, false}
use Rattle.link_params.specs.Laws.{is_b}
use Rattle.lane_c.specs.Received.{lanes_c}
use Rattle.scenario.specs.Plans.{Plan}
use Rattle.link_laws.specs.Premises.{lock_pattern}
use Rattle.link_laws.specs.LaneLaws.{LaneLaws}
use Rattle.link_laws.specs.Laws.{Bound, Depth, Fullest, IsPlanRead, Latency, Marks, Outside}
use Rattle.link_laws_c.specs.CheckedC.{checked_c}

-- the lane laws hold of the run of each plan that was read, with CRC-12 and with FEC
abbrev pub LaneLawsC : Type 0
LaneLawsC = (s : Plan) → IsPlanRead s → is_b s.link.params.mode ≡ false
    → LaneLaws lanes_c lock_pattern s

-- each frame of a release leaves the link's latency after it entered, with its words
abbrev pub LatencyC : Type 0
LatencyC = (s : Plan) → IsPlanRead s → is_b s.link.params.mode ≡ false
    → Latency lanes_c lock_pattern s

-- an undisturbed link delivers within its bound
abbrev pub BoundC : Type 0
BoundC = (s : Plan) → IsPlanRead s → is_b s.link.params.mode ≡ false → Bound lanes_c lock_pattern s

-- each buffer has room, and an entry where it is to give one
abbrev pub DepthC : Type 0
DepthC = (s : Plan) → IsPlanRead s → is_b s.link.params.mode ≡ false → Depth lanes_c s

-- what the report tells as the fullest buffer is within what it tells as the depth
abbrev pub FullestC : Type 0
FullestC = (s : Plan) → IsPlanRead s → is_b s.link.params.mode ≡ false → Fullest lanes_c s

-- a lane outside its window raises an alarm, and nothing is released
abbrev pub OutsideC : Type 0
OutsideC = (s : Plan) → IsPlanRead s → is_b s.link.params.mode ≡ false
    → Outside lanes_c lock_pattern s

-- each delivered frame has the mark that its octets are due
abbrev pub MarksC : Type 0
MarksC = (s : Plan) → IsPlanRead s → is_b s.link.params.mode ≡ false → Marks lanes_c checked_c s
