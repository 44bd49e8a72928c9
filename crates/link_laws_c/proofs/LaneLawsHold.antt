-- The lane laws of 64b/66b lanes, and the laws over a run that follow from them.
use Rattle.std.proofs.Common.{◌≡◌, ℕ, false, inl, inr}
use Rattle.link_params.specs.Laws.{is_b}
use Rattle.scenario.specs.Plans.{Plan}
use Rattle.lane_c.specs.Received.{lanes_c}
use Rattle.link_laws.specs.Premises.{Undamaged, lock_pattern}
use Rattle.link_laws.specs.LaneLaws.{IsCarrying, LaneData}
use Rattle.link_laws.specs.Laws.{IsPlanRead}
use Rattle.link_laws_c.specs.LaneLawsC.{BoundC, DepthC, FullestC, LaneLawsC, LatencyC, OutsideC}
use Rattle.link_model.proofs.FactsC.{facts-c}
use Rattle.link_laws.proofs.BoundLone.{bound-from-lanes}
use Rattle.link_laws.proofs.FullestBuffer.{fullest-from-depth}
use Rattle.link_laws.proofs.HeldEntries.{depth-by}
use Rattle.link_laws.proofs.Latency.{latency-from-lanes}
use Rattle.link_laws.proofs.Outside.{outside-from-lanes}
use Rattle.link_laws_c.proofs.BurstMultiblocks.{reads-bursts}
use Rattle.link_laws_c.proofs.Held.{InSessionC}
use Rattle.link_laws_c.proofs.LaneCarries.{carrying, carrying-clean}
use Rattle.link_laws_c.proofs.LaneLocks.{lane-lock}
use Rattle.link_laws_c.proofs.LaneStarts.{lane-start}
use Rattle.link_laws_c.proofs.SenderOfLock.{lane-sender}

data-of : (s : Plan) (h t lane : ℕ) → InSessionC s h t lane → Undamaged s h t
    → IsCarrying lanes_c s h lane t
data-of s h t lane c (inl clean) = carrying-clean s h t lane c clean
data-of s h t lane c (inr burst) = carrying s h t lane c (reads-bursts s h t lane c burst)

pub lane-data : (s : Plan) → IsPlanRead s → is_b s.link.params.mode ≡ false
    → LaneData lanes_c lock_pattern s
lane-data s read mode h lane t below session lone damage armed =
    data-of s h t lane
    (record {
      read = read;
      mode = mode;
      below = below;
      session = session;
      lone = lone;
      damage =
          damage;
    }) damage

pub lane-laws-c : LaneLawsC
lane-laws-c s read mode = record {
  lock = lane-lock s read mode;
  start = lane-start s read mode;
  carried = lane-data s read mode;
  sender = lane-sender s read;
}

pub latency-c : LatencyC
latency-c s read mode = latency-from-lanes lanes_c lock_pattern s read (lane-laws-c s read mode)

pub bound-c : BoundC
bound-c s read mode = bound-from-lanes latency-from-lanes lanes_c lock_pattern s read
    (lane-laws-c s read mode)

pub depth-c : DepthC
depth-c s read mode = depth-by lanes_c s (facts-c s.link.params s.link.timing mode) read

pub fullest-c : FullestC
fullest-c s read mode = fullest-from-depth lanes_c s (depth-c s read mode)

pub outside-c : OutsideC
outside-c s read mode = outside-from-lanes lanes_c lock_pattern s read (lane-laws-c s read mode)
