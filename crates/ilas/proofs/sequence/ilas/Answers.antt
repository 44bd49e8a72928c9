use Rattle.ilas.proofs.Places.{char_at_each_place}
use Rattle.ilas.proofs.sequence.ilas.Goals as goal

pub returns : goal.returns
returns c = char_at_each_place
