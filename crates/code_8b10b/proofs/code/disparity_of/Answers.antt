use Rattle.std.proofs.Common.{rules}
use Rattle.code_8b10b.specs.kept.Entries.{disparity_in}
use Rattle.code_8b10b.proofs.code.disparity_of.Goals as goal

pub returns-then-entry-lt2048 : goal.returns-then-entry-lt2048
unfolding disparity_in
returns-then-entry-lt2048 c = search rules

pub returns-else-entry-lt2048 : goal.returns-else-entry-lt2048
unfolding disparity_in
returns-else-entry-lt2048 c = search rules
