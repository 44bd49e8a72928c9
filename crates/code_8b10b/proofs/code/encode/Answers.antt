use Rattle.std.proofs.Common.{rules}
use Rattle.code_8b10b.specs.kept.Entries.{spelled_by}
use Rattle.code_8b10b.proofs.code.encode.Goals as goal

pub returns-then-entry-eq0 : goal.returns-then-entry-eq0
unfolding spelled_by
returns-then-entry-eq0 c = rw (← c.spelling_entry-entry.ensures) (search rules)

pub returns-then-entry-lt1024 : goal.returns-then-entry-lt1024
unfolding spelled_by
returns-then-entry-lt1024 c = rw (← c.spelling_entry-entry.ensures) (search rules)

pub returns-else-entry-lt1024 : goal.returns-else-entry-lt1024
unfolding spelled_by
returns-else-entry-lt1024 c = rw (← c.spelling_entry-entry.ensures) (search rules)
