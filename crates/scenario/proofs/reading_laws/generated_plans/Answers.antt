use Rattle.scenario.proofs.GeneratedLaws.{generates-legal-plans}
use Rattle.scenario.proofs.reading_laws.generated_plans.Goals as goal

pub returns : goal.returns
returns c = generates-legal-plans
