use Rattle.code_8b10b.proofs.Readings.{one_reading}
use Rattle.code_8b10b.proofs.code.decode.Goals as goal

pub returns-clause-reading : goal.returns-clause-reading
returns-clause-reading c = rw (c.reading_of.ensures, c.reading_entry-entry.ensures.reading) (one_reading c.args.rd c.args.bits c.requires).0
