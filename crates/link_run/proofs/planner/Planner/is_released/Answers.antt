use Rattle.std.proofs.Common.{suc, sym, subst}
use Rattle.link_model.proofs.RunTicks.{run-suc}
use Rattle.link_model.specs.Kinds.{kind_of, run_of}
use Rattle.link_run.specs.kept.ReceiverRuns.{HasReceivedRun}
use Rattle.link_run.proofs.planner.Planner.is_released.Goals as goal

pub returns : goal.returns
returns c = λ plan t received.
    c.is_run.ensures plan (run_of plan t) (subst (HasReceivedRun c.self.inside.rx plan)
    (run-suc (kind_of plan.link.params) plan t)
    (subst (λ v. HasReceivedRun v.rx plan (run_of plan (suc t))) (sym c.self.view_is) received))
