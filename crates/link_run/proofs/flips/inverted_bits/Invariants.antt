use Rattle.link_run.proofs.FlipLemmas.{HasInverted}
use Rattle.link_run.proofs.flips.inverted_bits.Given as goal

abbrev pub invariant-loop-flip : goal.invariant-loop-flip
invariant-loop-flip l = HasInverted l.flips l.lane l.flip-index l.bits.items
