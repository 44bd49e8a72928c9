use Rattle.std.proofs.Common.{sym}
use Rattle.fire_fec.proofs.Blocks.{times_power-one}
use Rattle.fire_fec.proofs.Carried.{over_x_small, times_over_x}
use Rattle.fire_fec.proofs.Free.{over_times_x, times_x_small}
use Rattle.fire_fec.proofs.laws.shifts.Goals as goal

pub returns-clause-times : goal.returns-clause-times
returns-clause-times c = λ r small. (sym (times_power-one r small), times_x_small r small)

pub returns-clause-undo : goal.returns-clause-undo
returns-clause-undo c = λ r small.
    (over_times_x r small, times_over_x r small, over_x_small r small)
