use Rattle.std.proofs.Common.{◌<◌, ◌%◌, arith}
use Rattle.link_params.proofs.StepFacts.{in_step}
use Rattle.link_params.proofs.timing_check.least_in_step.Goals as goal

pub returns-clause-in_step : goal.returns-clause-in_step
returns-clause-in_step c =
    let low : c.args.ahead % c.args.period < c.args.period = omega arith in
    in_step c.args.period c.args.least c.args.behind (c.args.ahead % c.args.period) low
