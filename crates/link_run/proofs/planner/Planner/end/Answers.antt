use Rattle.std.proofs.Common.{◌∙◌, sym, ap, subst}
use Rattle.bring_up.specs.Decisions.{is_hunting}
use Rattle.link_model.proofs.RunTicks.{run-suc}
use Rattle.link_model.specs.Kinds.{kind_of, run_of}
use Rattle.link_run.specs.kept.ReceiverRuns.{HasToldTick}
use Rattle.link_run.specs.kept.Transmitters.{HasSentRun, HasSentTick}
use Rattle.link_run.proofs.planner.Planner.end.Goals as goal

pub end-decision-requires-clause-told : goal.end-decision-requires-clause-told
end-decision-requires-clause-told c = λ plan is.
    subst (λ v. HasToldTick v.rx plan (run_of plan c.args.t)) (sym c.self.view_is)
    (c.requires.told plan is)

pub returns-clause-sent : goal.returns-clause-sent
returns-clause-sent c = λ plan is sent_view due.
    let h = run_of plan c.args.t in
    let sent = subst (λ v. HasSentTick v.tx plan h) (sym c.self.view_is) sent_view in
    let over = c.end-decision.ensures plan is due in
    let low = c.is_low.ensures ∙ ap is_hunting (c.stage.ensures plan h over.stands) in
    subst (HasSentRun c.end.new.self plan)
    (sym (run-suc (kind_of plan.link.params) plan c.args.t)) (c.end.ensures.ended plan h sent low)
