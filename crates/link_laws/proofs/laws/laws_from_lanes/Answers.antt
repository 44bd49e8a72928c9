use Rattle.link_laws.proofs.BoundLone.{bound-from-lanes}
use Rattle.link_laws.proofs.Latency.{latency-from-lanes}
use Rattle.link_laws.proofs.Outside.{outside-from-lanes}
use Rattle.link_laws.proofs.laws.laws_from_lanes.Goals as goal

pub returns : goal.returns
returns c = record {
  latency = latency-from-lanes;
  bound = bound-from-lanes latency-from-lanes;
  outside = outside-from-lanes;
}
