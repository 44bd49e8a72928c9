use Rattle.std.proofs.Common.{refl}
use Rattle.scenario.specs.Generated.{generated}
use Rattle.link_bench.specs.declared.asked.Asked.TheVariants.{Generated}
use Rattle.link_bench.proofs.CauseLemmas.{plan-done}
use Rattle.link_bench.proofs.KeptLemmas.{kept-where}
use Rattle.link_bench.proofs.generated.do_generated.Goals as goal

pub returns-clause-cause : goal.returns-clause-cause
returns-clause-cause g c = λ left reads_failed.
    plan-done (generated c.args.number) c.run_link.result.0 _ _ (refl, refl)
    (c.run_link.ensures.written (generated c.args.number) c.in-Ok.ensures.plan)

pub returns-clause-keeps : goal.returns-clause-keeps
returns-clause-keeps g c = λ left reads_failed.
    kept-where (Generated c.args.number) c.run_link.result.0 c.args.workers _ _
    c.run_link.result.1
    (c.run_link.ensures.kept (generated c.args.number) c.in-Ok.ensures.plan)
    c.run_link.ensures.dropped
