use Rattle.std.proofs.Common.{◌≡◌, ◌<◌, ◌≤◌, ◌+◌, length}
use Rattle.link_params.specs.Runs.{later}
use Rattle.lane_b.proofs.RunSteps.{GoesSo, TellsSame}
use Rattle.lane_b.proofs.receiver.RxLaneB.run_to_change.Given as goal

abbrev pub invariant-loop-i : goal.invariant-loop-i
invariant-loop-i l =
    (l.next ≡ later l.order l.period l.i) × (l.next.offset < l.period)
    × (length l.self.buffer.cells ≤ length l.fn.self.buffer.cells + l.i)
    × (l.self.buffer.depth ≡ l.fn.self.buffer.depth)
    × GoesSo l.fn.self l.self l.order l.words l.i
    × TellsSame l.fn.self l.order l.words l.i
