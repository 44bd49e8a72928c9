use Rattle.std.proofs.Common.{refl}
use Rattle.jesd_base.specs.Bits.{bits}
use Rattle.code_8b10b.specs.Commas.{found, least_place}
use Rattle.code_8b10b.proofs.hunt.Hunt.new.Goals as goal

pub returns : goal.returns
unfolding bits found least_place
returns c = record { last = refl; nothing = refl }
