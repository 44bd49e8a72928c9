use Rattle.std.proofs.Common.{◌∙◌, sym, ap, subst}
use Rattle.bring_up.specs.Decisions.{is_running}
use Rattle.link_model.proofs.RxHistory.{standing-next}
use Rattle.link_run.specs.kept.ReceiverRuns.{HasToldTick, decisions_left}
use Rattle.link_run.proofs.receiver.Receiver.is_running.Goals as goal

pub returns : goal.returns
returns c = λ s h told_view.
    let told = subst (λ x. HasToldTick x s h) (sym c.self.view_is) told_view in
    c.is_run.ensures
    ∙ ap is_running (c.stage.ensures s.link.params s.link.timing (decisions_left s h) told.control
    ∙ ap (λ x. x.stage) (sym (standing-next s h)))
