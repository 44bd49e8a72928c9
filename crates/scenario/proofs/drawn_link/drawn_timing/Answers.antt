use Rattle.std.proofs.Common.{◌≤◌, ◌+◌, ◌/◌, arith}
use Rattle.scenario.proofs.LegalLemmas.{timely}
use Rattle.scenario.proofs.drawn_link.drawn_timing.Goals as goal

pub returns-clause-legal : goal.returns-clause-legal
returns-clause-legal c =
    let p = c.args.shape.now in
    let n = c.period-period.ensures in
    let w = c.draw-w_hi.ensures.below in
    let half : 1 + c.draw-w_hi.result ≤ c.period-period.result / 2 = omega (arith, w) in
    rw (c.wait.ensures.value, n.value) (timely p c.draw-late.result c.draw-sync_delay.result
    (1 + c.draw-w_hi.result) (rw n.value at n.low) (rw n.value at n.high)
    (rw n.value at c.draw-late.ensures.below) (rw n.value at c.draw-sync_delay.ensures.below)
    (omega arith) (rw n.value at half))
