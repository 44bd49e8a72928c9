use Rattle.std.proofs.Common.{refl}
use Rattle.lane_b.specs.kept.Counts.{number, misplaced_after}
use Rattle.lane_b.specs.Loss.{some_rest}
use Rattle.lane_b.proofs.loss.Loss.new.Goals as goal

pub returns : goal.returns
unfolding number misplaced_after some_rest
returns c = record { last = refl; misplaced = refl; lost = refl }
