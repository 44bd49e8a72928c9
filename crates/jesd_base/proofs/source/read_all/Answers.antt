use Rattle.std.proofs.Common.{arith, length-append}
use Rattle.std.proofs.lemmas.List.{length-take}
use Rattle.jesd_base.proofs.StreamLemmas.{gave-append}
use Rattle.jesd_base.proofs.source.read_all.Goals as goal

-- memory ran out: the bytes of the last buffer were taken too
pub returns-then-is_err-clause-most : goal.returns-then-is_err-clause-most
returns-then-is_err-clause-most g c = (_, grind (arith, length-append, length-take), gave-append _ _ _ _ _ c.reading.invariant.given c.in-Ok.ensures.next)
