-- The laws of each run of 8b/10b lanes.
use Rattle.lane_b.specs.Received.{lanes_b}
use Rattle.link_laws.specs.LawsB.{RunsByLawsB}
use Rattle.link_laws.specs.Premises.{lock_pattern}
use Rattle.link_laws.proofs.BoundLone.{bound-from-lanes}
use Rattle.link_laws.proofs.FullestBuffer.{fullest-from-depth}
use Rattle.link_laws.proofs.HeldEntries.{depth-b}
use Rattle.link_laws.proofs.Imitation.{no-imitation, none-across}
use Rattle.link_laws.proofs.LaneLawsB.{lane-laws-b}
use Rattle.link_laws.proofs.Latency.{latency-from-lanes}
use Rattle.link_laws.proofs.MarkedEntries.{marks-b}
use Rattle.link_laws.proofs.Outside.{outside-from-lanes}

pub runs-by-laws : RunsByLawsB
runs-by-laws s read mode =
    let lanes = lane-laws-b s read mode lock_pattern in record {
      latency = latency-from-lanes lanes_b lock_pattern s read lanes;
      bound = bound-from-lanes latency-from-lanes lanes_b lock_pattern s read lanes;
      depth = depth-b s read mode;
      fullest = fullest-from-depth lanes_b s (depth-b s read mode);
      outside = outside-from-lanes lanes_b lock_pattern s read lanes;
      marks = marks-b s read mode;
      no_imitation = no-imitation s read mode;
      across_resets = none-across s read mode;
      lanes = lanes;
    }
