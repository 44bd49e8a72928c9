use Rattle.std.proofs.Common.{arith}
use Rattle.link_model.proofs.EdgeTicks.{paced_by}
use Rattle.link_run.proofs.device_clock.DeviceClock.new.Goals as goal

pub tick_of-requires-clause-paced : goal.tick_of-requires-clause-paced
tick_of-requires-clause-paced c = paced_by c.args.link.now c.shape.result c.period-period.result
    c.shape.ensures.same c.period-period.ensures.value c.period-period.ensures.low
    c.period-period.ensures.high c.timing-timing.ensures.legal

pub invariant_of-result : goal.invariant_of-result
invariant_of-result c =
    let paced = paced_by c.args.link.now c.shape.result c.period-period.result c.shape.ensures.same
    c.period-period.ensures.value c.period-period.ensures.low c.period-period.ensures.high
    c.timing-timing.ensures.legal in
    let near = c.tick_of.ensures.near in
    (paced, omega arith)
