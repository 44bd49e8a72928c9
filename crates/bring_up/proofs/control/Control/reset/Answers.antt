use Rattle.std.proofs.Common.{refl, ap, ◌∙◌}
use Rattle.bring_up.specs.Decisions.{standing_from}
use Rattle.bring_up.specs.kept.Controls.{Controller}
use Rattle.bring_up.proofs.control.Control.reset.Goals as goal

pub returns : goal.returns
unfolding standing_from
returns c = λ p t before h. record {
  params = ap (λ (s : Controller). s.params) c.self.view_is ∙ h.params;
  timing = ap (λ (s : Controller). s.timing) c.self.view_is ∙ h.timing;
  stage = refl;
  count = refl;
}
