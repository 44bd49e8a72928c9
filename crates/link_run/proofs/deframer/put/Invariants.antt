use Rattle.std.proofs.Common.{map}
use Rattle.link_run.specs.kept.Waits.{next_of}
use Rattle.link_run.proofs.NextCells.{AreTaken}
use Rattle.link_run.proofs.RowOctets.{IsPutting}
use Rattle.link_run.proofs.deframer.put.Given as goal

abbrev pub invariant-loop-lane : goal.invariant-loop-lane
invariant-loop-lane l =
    IsPutting l.fn.rows l.rows (map next_of l.fn.waiting) l.room l.at l.count l.lane l.worst
    × AreTaken l.fn.waiting l.waiting l.lane
