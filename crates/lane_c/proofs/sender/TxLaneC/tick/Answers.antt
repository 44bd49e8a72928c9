use Rattle.std.proofs.Common.{refl, ap, arith}
use Rattle.lane_c.specs.Sent.{is_block, octets_sent}
use Rattle.lane_c.proofs.SenderSteps.{tick-block, tick-sent, tick-silent}
use Rattle.lane_c.proofs.sender.TxLaneC.tick.Goals as goal

pub returns-in-Block-clause-bits : goal.returns-in-Block-clause-bits
returns-in-Block-clause-bits c = λ p lane handed h.
    tick-block c.args.self.now p lane handed (record {
      order = c.args.order;
      octets =
          c.args.octets;
    }) c.block.result (ap is_block c.in-Block.is) h
    (c.block.ensures.due (octets_sent handed))

pub returns-in-Block-clause-sent : goal.returns-in-Block-clause-sent
returns-in-Block-clause-sent c = λ p handed h.
    tick-sent c.args.self.now c.block.new.self p handed
    (record { order = c.args.order; octets = c.args.octets })
    (ap is_block c.in-Block.is) h c.block.ensures.same _ c.block.ensures.next
    (c.block.ensures.goes_on (octets_sent handed))

pub returns-in_default : goal.returns-in_default
returns-in_default c =
    let s = tick-silent c.args.self.now c.args.order c.args.octets c.requires
    c.in_default.not-Block in
    record { bits = s.bits; below = omega arith; sent = s.sent; next = s.next; same = refl }
