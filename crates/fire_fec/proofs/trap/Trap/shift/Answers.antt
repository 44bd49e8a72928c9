use Rattle.std.proofs.Common.{◌∙◌, ap}
use Rattle.fire_fec.specs.kept.Taking.{times_power}
use Rattle.fire_fec.proofs.Blocks.{times_power-over_x}
use Rattle.fire_fec.proofs.trap.Trap.shift.Goals as goal

pub returns-clause-divided : goal.returns-clause-divided
returns-clause-divided g c =
    ap (times_power 1) c.over_x-self-inside.ensures.over
    ∙ times_power-over_x c.self.inside.rest c.self.invariant ∙ c.self.view_is
