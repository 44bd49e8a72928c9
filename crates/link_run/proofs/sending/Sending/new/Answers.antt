use Rattle.std.proofs.Common.{refl, ap, ◌∙◌, inl, inr}
use Rattle.link_params.specs.Laws.{is_b}
use Rattle.link_model.specs.Orders.{from_edge}
use Rattle.link_run.proofs.sending.Sending.new.Goals as goal

pub returns-in-CCrc : goal.returns-in-CCrc
unfolding from_edge
returns-in-CCrc c = record {
  begins = λ p same. (
    elim c.in-CCrc.is [ inl e ↦ ap is_b (same ∙ e) | inr e ↦ ap is_b (same ∙ e) ],
    refl,
  );
  next = λ p. refl;
}
