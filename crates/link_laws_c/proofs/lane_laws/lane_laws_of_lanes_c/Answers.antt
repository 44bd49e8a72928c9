use Rattle.link_laws_c.proofs.LaneLawsHold.{bound-c, depth-c, fullest-c, lane-laws-c, latency-c, outside-c}
use Rattle.link_laws_c.proofs.MarkedCells.{marks-c}
use Rattle.link_laws_c.proofs.lane_laws.lane_laws_of_lanes_c.Goals as goal

pub returns : goal.returns
returns c = record {
  lane_laws = lane-laws-c;
  latency = latency-c;
  bound = bound-c;
  depth = depth-c;
  fullest = fullest-c;
  outside = outside-c;
  marks = marks-c;
}
