use Rattle.std.proofs.Common.{arith}
use Rattle.lane_scramble.proofs.TapLemmas.{octet-scrambled, octet-descrambled}
use Rattle.lane_scramble.proofs.scr15.with_taps.Goals as goal

pub returns-clause-scrambled : goal.returns-clause-scrambled
returns-clause-scrambled c = octet-scrambled c.args.last c.args.octet (omega arith)

pub returns-clause-descrambled : goal.returns-clause-descrambled
returns-clause-descrambled c = octet-descrambled c.args.last c.args.octet (omega arith)
