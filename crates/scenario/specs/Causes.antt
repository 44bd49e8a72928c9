-- The numbers of the causes (this project's own format).
-- Code: an enum, and its numbers at the line alone.
use Rattle.std.specs.Prelude.{ℕ}
use Rattle.scenario.specs.declared.cause.Cause.{Cause}
use Rattle.scenario.specs.declared.cause.Cause.TheVariants as cause

-- the number of a cause in the line of a refused input
abbrev pub cause_number : Cause → ℕ
cause_number cause.NoRecord = 1
cause_number cause.Version = 2
cause_number cause.Misplaced = 3
cause_number cause.UnknownKind = 4
cause_number cause.FieldCount = 5
cause_number cause.Form = 6
cause_number cause.Range = 7
cause_number cause.Law = 8
cause_number cause.RunSize = 9
cause_number cause.TooMany = 10
cause_number cause.Missing = 11
