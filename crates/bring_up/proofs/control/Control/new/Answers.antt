use Rattle.std.proofs.Common.{refl}
use Rattle.bring_up.specs.Decisions.{standing_from}
use Rattle.bring_up.proofs.control.Control.new.Goals as goal

pub returns : goal.returns
unfolding standing_from
returns c = record { params = refl; timing = refl; stage = refl; count = refl }
