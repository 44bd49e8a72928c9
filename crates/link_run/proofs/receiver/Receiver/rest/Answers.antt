use Rattle.std.proofs.Common.{◌≡◌, ◌∙◌, ◌+◌, false, [], ◌∷◌, ◌++◌, length, sym, ap, subst, arith, append-nil}
use Rattle.bring_up.specs.kept.Controls.{HasDecided}
use Rattle.link_run.specs.kept.Clocked.{HasClocked}
use Rattle.link_model.specs.Kinds.{kind_of, moment_of}
use Rattle.link_model.specs.Run.{decided_in}
use Rattle.link_model.specs.Hunts.{is_hunt, standing}
use Rattle.link_run.specs.kept.ReceiverRuns.{HasToldTick, decisions_left}
use Rattle.link_model.proofs.NextMoment.{decided-next}
use Rattle.link_model.proofs.RxHistory.{ends-in-hunt-more}
use Rattle.link_model.proofs.TxHistory.{length-more}
use Rattle.link_run.proofs.PlanSteps.{decisions-more}
use Rattle.link_run.proofs.receiver.Receiver.rest.Goals as goal

pub returns : goal.returns
returns c = λ s h told_view no.
    let told = subst (λ x. HasToldTick x s h) (sym c.self.view_is) told_view in
    let decided = decided-next (kind_of s.link.params) s h
    ∙ ap (λ b. decided_in s (standing s h) b (moment_of s h).reports) no in
    let one : length h + 1 ≡ length (h ++ moment_of s h ∷ []) =
    omega (arith, length-more h (moment_of s h)) in
    record {
      decision_is = ap (λ x. x.decision) (sym decided);
      alarms = c.clear.ensures ∙ ap (λ x. x.alarms) (sym decided);
      stands = record {
        clock = subst (λ n. HasClocked c.self.inside.clock s n) one told.clock;
        device = told.device;
        control = subst (λ l. HasDecided c.self.inside.control s.link.params s.link.timing l)
            (sym (append-nil (decisions_left s h)) ∙ sym (decisions-more s h false (sym no)))
            told.control;
        hunts = ap is_hunt (ap (λ x. x.decision) (sym decided))
            ∙ sym (ends-in-hunt-more h (moment_of s h));
        lanes = told.lanes;
      };
    }
