-- The kind of lane of a link meets the facts of a kind of lane.
use Rattle.std.proofs.Common.{inl, inr}
use Rattle.std.proofs.lemmas.Bool.{cases_Bool}
use Rattle.link_params.specs.declared.fields.Params.{Params}
use Rattle.link_params.specs.declared.fields.Timing.{Timing}
use Rattle.link_params.specs.Laws.{is_b}
use Rattle.link_model.specs.Kinds.{kind_of}
use Rattle.link_model.proofs.FactsB.{facts-b}
use Rattle.link_model.proofs.FactsC.{facts-c}
use Rattle.link_model.proofs.KindFacts.{KindFacts}

pub facts-of : (p : Params) (t : Timing) → KindFacts (kind_of p) p t
facts-of p t = elim (cases_Bool (is_b p.mode)) [
  | inl b ↦ rw b (facts-b p t b)
  | inr c ↦ rw c (facts-c p t c)
]
