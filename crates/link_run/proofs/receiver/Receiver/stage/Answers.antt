use Rattle.std.proofs.Common.{◌∙◌, [], ◌∷◌, ◌++◌, sym, subst}
use Rattle.link_model.specs.kept.Before.{decisions_before}
use Rattle.link_run.specs.kept.ReceiverRuns.{HasReceivedRun}
use Rattle.link_model.specs.Kinds.{kind_of, moment_of}
use Rattle.link_model.proofs.RxHistory.{stage-standing}
use Rattle.link_run.proofs.receiver.Receiver.stage.Goals as goal

pub returns : goal.returns
returns c = λ s h stands_view.
    let stands = subst (λ x. HasReceivedRun x s (h ++ moment_of s h ∷ [])) (sym c.self.view_is)
    stands_view in
    c.stage.ensures s.link.params s.link.timing (decisions_before s (h ++ moment_of s h ∷ []))
    stands.control ∙ sym (stage-standing (kind_of s.link.params) s h)
