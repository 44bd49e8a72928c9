use Rattle.code_8b10b.proofs.Characters.{no_slip, chain_is_spelled, no_imitation}
use Rattle.code_8b10b.proofs.Places.{finds_least_place, finds_no_place}
use Rattle.code_8b10b.proofs.laws.comma_places.Goals as goal

pub returns : goal.returns
returns c = record {
  least = finds_least_place;
  none = finds_no_place;
  no_slip = no_slip;
  chain = chain_is_spelled;
  no_imitation = no_imitation;
}
