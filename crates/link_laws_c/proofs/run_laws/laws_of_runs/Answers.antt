use Rattle.link_laws_c.proofs.RunsByLaws.{runs-by-laws}
use Rattle.link_laws_c.proofs.run_laws.laws_of_runs.Goals as goal

pub returns : goal.returns
returns c = record { laws = runs-by-laws }
