use Rattle.std.proofs.Common.{refl}
use Rattle.jesd_base.specs.Bits.{bits, ones}
use Rattle.lane_scramble.specs.Scrambling.{scrambled, start58}
use Rattle.lane_scramble.proofs.scr58.Scr58.new.Goals as goal

pub returns-clause-scrambled : goal.returns-clause-scrambled
unfolding bits ones scrambled start58
returns-clause-scrambled c = record { last = refl }

pub returns-clause-descrambled : goal.returns-clause-descrambled
unfolding bits ones start58
returns-clause-descrambled c = record { last = refl }
