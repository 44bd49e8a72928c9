use Rattle.char_replace.proofs.RoundTrip.{restores_octets}
use Rattle.char_replace.proofs.laws.replacement_laws.Goals as goal

pub returns : goal.returns
returns c = restores_octets
