use Rattle.link_laws.proofs.LaneLawsB.{lane-laws-b}
use Rattle.link_laws.proofs.RunsByLaws.{runs-by-laws}
use Rattle.link_laws.proofs.laws_b.laws_of_lanes_b.Goals as goal

pub returns : goal.returns
returns c = record {
  run = runs-by-laws;
  lanes = λ s pattern read mode. lane-laws-b s read mode pattern;
}
