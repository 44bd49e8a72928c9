use Rattle.std.proofs.Common.{arith}
use Rattle.lane_scramble.proofs.TapLemmas.{word-scrambled}
use Rattle.lane_scramble.proofs.scr58.scrambled_word.Goals as goal

pub returns : goal.returns
returns c = word-scrambled c.args.before c.args.x (omega arith)
