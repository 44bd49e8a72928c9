use Rattle.link_bench.proofs.CauseLemmas.{complete}
use Rattle.link_bench.proofs.RunRead.{runs_are_lawful}
use Rattle.link_bench.proofs.top.bench.Goals as goal

pub returns-clause-complete : goal.returns-clause-complete
returns-clause-complete g c = complete _ _ _ _ c.answer-status.ensures.causes

pub returns-clause-laws : goal.returns-clause-laws
returns-clause-laws g c = runs_are_lawful
