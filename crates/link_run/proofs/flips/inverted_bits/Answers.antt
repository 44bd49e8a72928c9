use Rattle.std.proofs.Common.{arith}
use Rattle.link_run.proofs.FlipLemmas.{inverted-all, inverted-more, inverted-none, inverted-other}
use Rattle.link_run.proofs.flips.inverted_bits.Goals as goal
use Rattle.link_run.proofs.flips.inverted_bits.Goals.{then-flip-lane+in_ok-invert, else-flip-lane}

pub loop-flip-init : goal.loop-flip-init
loop-flip-init c = inverted-none c.args.flips.now c.args.lane c.new-bits.result.items
    c.new-bits.ensures.items

pub invert-requires-clause-ascending : goal.invert-requires-clause-ascending
invert-requires-clause-ascending c = c.loop-flip.invariant.ascending

pub loop-flip-preserved : goal.loop-flip-preserved
loop-flip-preserved c = elim c.if-flip-lane.branch [
  | then-flip-lane+in_ok-invert w ↦
      rw w.bits-is
      (inverted-more c.args.flips.now c.args.lane c.loop-flip.flip-index c.loop-flip.bits.items
      w.invert.new.bits.items (record { lane = 0; first = 0; count = 0 })
      c.loop-flip-test.true w.if-flip-lane.true w.in_ok-invert.ensures.ascending
      w.in_ok-invert.ensures.members c.loop-flip.invariant)
  | else-flip-lane w ↦
      rw w.bits-is
      (inverted-other c.args.flips.now c.args.lane c.loop-flip.flip-index c.loop-flip.bits.items
      (record { lane = 0; first = 0; count = 0 })
      c.loop-flip-test.true w.if-flip-lane.false c.loop-flip.invariant)
]

pub returns-clause-ascending : goal.returns-clause-ascending
returns-clause-ascending c = c.loop-flip.invariant.ascending

pub returns-clause-inverted : goal.returns-clause-inverted
returns-clause-inverted c s n same within =
    inverted-all c.args.flips.now c.args.lane n c.loop-flip.flip-index c.loop-flip.bits.items s
    (omega arith) c.loop-flip.invariant same within
