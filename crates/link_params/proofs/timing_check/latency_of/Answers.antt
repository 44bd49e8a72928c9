use Rattle.std.proofs.Common.{◌≡◌, ◌+◌, ◌%◌, arith}
use Rattle.link_params.specs.Numbers.{period, tx_edge, rx_edge}
use Rattle.link_params.proofs.StepFacts.{lat_ticks-is}
use Rattle.link_params.proofs.timing_check.latency_of.Goals as goal

pub returns-clause-value : goal.returns-clause-value
returns-clause-value c =
    let p = c.args.shape.now in
    let t = c.args.timing.now in
    let h = c.least_in_step.ensures in
    let w = c.wait.ensures.value in
    let n = c.period.ensures.value in
    let a = c.ticks_of.ensures.value in
    let b = c.ticks_of-2.ensures.value in
    let step : (c.least_in_step.result + tx_edge t) % period p ≡ (rx_edge t + t.rbd) % period p = rw (a, b, n) at h.in_step in
    lat_ticks-is p t c.least_in_step.result (omega arith) (omega arith) (omega arith) step
