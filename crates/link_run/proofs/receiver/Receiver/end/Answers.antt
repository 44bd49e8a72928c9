use Rattle.std.proofs.Common.{◌≡◌, ◌∙◌, ◌+◌, true, [], ◌∷◌, ◌++◌, length, sym, ap, subst, arith}
use Rattle.bring_up.specs.kept.Controls.{HasDecided}
use Rattle.link_run.specs.kept.Clocked.{HasClocked}
use Rattle.link_model.specs.Kinds.{kind_of, moment_of, run_of}
use Rattle.link_model.specs.Run.{decided_in}
use Rattle.link_model.specs.Hunts.{is_hunt, standing}
use Rattle.link_run.specs.kept.ReceiverRuns.{Decides}
use Rattle.link_model.proofs.NextMoment.{decided-next}
use Rattle.link_model.proofs.RxHistory.{ends-in-hunt-more}
use Rattle.link_model.proofs.TxHistory.{length-more}
use Rattle.link_run.proofs.PlanSteps.{decisions-more}
use Rattle.link_run.proofs.receiver.Receiver.end.Goals as goal

pub returns-then-not-decides : goal.returns-then-not-decides
returns-then-not-decides c = λ s is decides.
    c.rest.ensures s (run_of s c.args.t) (c.requires.told s is) (sym decides ∙ c.if-not-decides.true)

pub returns : goal.returns
returns c = λ s is decides.
    let h = run_of s c.args.t in
    let here = c.if-not-decides.false in
    let did = subst (λ x. Decides c.decide-decision.result c.args.self.now x s h)
    (sym c.self.view_is) (c.decide-decision.ensures s is) in
    let before = c.requires.told s is in
    let decided = decided-next (kind_of s.link.params) s h ∙ ap (λ b. decided_in s (standing s h) b (moment_of s h).reports)
    (sym decides ∙ here) in
    let one : length h + 1 ≡ length (h ++ moment_of s h ∷ []) =
    omega (arith, length-more h (moment_of s h)) in
    record {
      decision_is = did.decision_due ∙ ap (λ x. x.decision) (sym decided);
      alarms = did.alarms ∙ ap (λ x. x.alarms) (sym decided);
      stands = record {
        clock = subst (λ x. HasClocked x s (length (h ++ moment_of s h ∷ []))) (sym did.same_clock)
            (subst (λ n. HasClocked c.args.self.now.clock s n) one before.clock);
        device = ap (λ x. x.device) did.same_clock ∙ before.device;
        control = subst (λ l. HasDecided c.self.inside.control s.link.params s.link.timing l)
            (sym (decisions-more s h true (sym here ∙ decides))) did.control;
        hunts = c.is_hunt-self-inside.ensures
            ∙ ap is_hunt (did.decision_due ∙ ap (λ x. x.decision) (sym decided))
            ∙ sym (ends-in-hunt-more h (moment_of s h));
        lanes = did.lanes;
      };
    }
