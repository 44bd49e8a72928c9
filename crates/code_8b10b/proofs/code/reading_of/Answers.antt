use Rattle.std.proofs.Common.{arith}
use Rattle.std.proofs.lemmas.Grind.{common_steps}
use Rattle.code_8b10b.specs.kept.Entries.{char_in, reading_in}
use Rattle.code_8b10b.proofs.code.reading_of.Goals as goal

pub returns-in-0 : goal.returns-in-0
unfolding reading_in char_in
returns-in-0 c = grind (arith, common_steps)

pub returns-in-1 : goal.returns-in-1
unfolding reading_in char_in
returns-in-1 c = grind (arith, common_steps)

pub returns-in_default : goal.returns-in_default
unfolding reading_in char_in
returns-in_default c = grind (arith, common_steps)
