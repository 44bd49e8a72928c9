use Rattle.std.proofs.Common.{subst}
use Rattle.lane_threads.specs.kept.LaneEnds.{HasSent}
use Rattle.lane_threads.specs.declared.tx_lane.TxLane.{TxLane}
use Rattle.lane_threads.proofs.tx_lane.TxLane.clear.Goals as goal

pub returns-in-C-clause-sent : goal.returns-in-C-clause-sent
returns-in-C-clause-sent c = λ p lane handed was.
    let old = subst (λ (x : TxLane). HasSent x p lane handed) c.in-C.is was in
    (old.0, c.clear-in-C.ensures.sent p handed old.1)
