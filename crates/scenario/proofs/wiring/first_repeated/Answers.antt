use Rattle.std.proofs.Common.{◌≡◌, ◌∙◌, ◌+◌, ◌&&◌, ◌==◌, ℕ, Bool, true, not, nat_lt, List, [], length, take, drop, slice_index, if◌then◌else◌, Option, Some, sym, ap, refl, arith}
use Rattle.std.specs.List.{list_any}
use Rattle.scenario.specs.Check.{lowest}
use Rattle.scenario.specs.Reads.{are_lanes}
use Rattle.scenario.proofs.LaneOrders.{lanes-step}
use Rattle.scenario.proofs.wiring.first_repeated.Goals as goal

pub loop-at-init : goal.loop-at-init
loop-at-init c = refl
