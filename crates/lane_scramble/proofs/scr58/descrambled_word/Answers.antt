use Rattle.std.proofs.Common.{arith}
use Rattle.lane_scramble.proofs.TapLemmas.{word-descrambled}
use Rattle.lane_scramble.proofs.scr58.descrambled_word.Goals as goal

pub returns : goal.returns
returns c = word-descrambled c.args.before c.args.y (omega arith)
