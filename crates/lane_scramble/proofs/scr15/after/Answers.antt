use Rattle.std.proofs.Common.{arith}
use Rattle.lane_scramble.proofs.TapLemmas.{last-fifteen}
use Rattle.lane_scramble.proofs.scr15.after.Goals as goal

pub returns : goal.returns
returns c = rw c.from.ensures (last-fifteen c.args.last c.args.octet (omega arith))
