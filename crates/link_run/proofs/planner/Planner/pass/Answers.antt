use Rattle.std.proofs.Common.{◌∙◌, sym, ap, subst}
use Rattle.bring_up.specs.Decisions.{is_hunting}
use Rattle.link_model.proofs.RunTicks.{run-suc}
use Rattle.link_model.specs.Kinds.{kind_of, run_of}
use Rattle.link_run.specs.kept.ReceiverRuns.{HasReceivedRun, HasToldTick}
use Rattle.link_run.specs.kept.Transmitters.{HasSentRun, HasSentTick}
use Rattle.link_run.proofs.planner.Planner.pass.Goals as goal

pub returns-clause-passed : goal.returns-clause-passed
returns-clause-passed c = λ plan t link sent_view told_view no.
    let h = run_of plan t in
    let view = sym c.self.view_is in
    let sent = subst (λ v. HasSentTick v.tx plan h) view sent_view in
    let told = subst (λ v. HasToldTick v.rx plan h) view told_view in
    let ended = c.rest.ensures plan h told no in
    let low = c.is_low.ensures ∙ ap is_hunting (c.stage.ensures plan h ended.stands) in
    let more = sym (run-suc (kind_of plan.link.params) plan t) in
    record {
      same_link = ap (λ v. v.link) c.self.view_is ∙ link;
      sent = subst (HasSentRun c.end.new.self plan) more (c.end.ensures.ended plan h sent low);
      told = subst (HasReceivedRun c.rest.new.self plan) more ended.stands;
    }
