use Rattle.link_run.proofs.FlipLemmas.{HasToggled}
use Rattle.link_run.proofs.flips.invert.Given as goal

abbrev pub invariant-loop-bit : goal.invariant-loop-bit
invariant-loop-bit l = HasToggled l.fn.bits.items l.bits.items l.fn.flip.first l.bit
