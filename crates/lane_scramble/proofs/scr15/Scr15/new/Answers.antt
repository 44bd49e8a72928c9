use Rattle.std.proofs.Common.{refl}
use Rattle.jesd_base.specs.Bits.{bits, ones, zeros}
use Rattle.lane_scramble.specs.Scrambling.{scrambled, start15}
use Rattle.lane_scramble.proofs.scr15.Scr15.new.Goals as goal

pub returns-clause-scrambled : goal.returns-clause-scrambled
unfolding bits ones zeros scrambled start15
returns-clause-scrambled c = record { last = refl }

pub returns-clause-descrambled : goal.returns-clause-descrambled
unfolding bits ones zeros start15
returns-clause-descrambled c = record { last = refl }
