use Rattle.std.proofs.Common.{arith}
use Rattle.crc12.proofs.TableLemmas.{table-entry}
use Rattle.crc12.proofs.check.entry.Goals as goal

pub returns : goal.returns
returns c = table-entry c.args.byte c.args.behind (omega arith) c.requires
