use Rattle.std.proofs.Common.{◌≡◌, ◌∙◌, [], true, sym, ap, subst, refl}
use Rattle.bring_up.specs.kept.Controls.{HasDecided}
use Rattle.link_model.specs.Hunts.{ends_in_hunt}
use Rattle.link_run.proofs.PlanFacts.{plan-facts}
use Rattle.link_run.proofs.receiver.Receiver.open.Goals as goal

hunts-first : ends_in_hunt [] ≡ true
unfolding ends_in_hunt
hunts-first = refl

pub returns : goal.returns
returns c = record {
  begins = λ s is same.
      let facts = plan-facts c.args.s.now s is in
      record {
        clock = c.new.ensures.begins s same (facts.jitters ∙ sym c.deref.ensures.value);
        device = c.new.ensures.device;
        control = subst (λ k. HasDecided c.new-2.result k.params k.timing [])
            (sym same) c.new-2.ensures;
        hunts = sym hunts-first;
        lanes = sym c.in-Ok.reports.ok.0 ∙ c.in-Ok.ensures.len ∙ c.lanes.ensures.value
            ∙ ap (λ p. p.l) c.shape.ensures.same ∙ ap (λ k. k.params.l) (sym same);
      };
}
