use Rattle.scenario.proofs.ReadingLaws.{reads-legal-plans, reads-plans}
use Rattle.scenario.proofs.reading_laws.readings.Goals as goal

pub returns : goal.returns
returns c = record { plans = reads-plans; legal = reads-legal-plans }
