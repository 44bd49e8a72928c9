use Rattle.link_run.proofs.RowOctets.{AreMoving}
use Rattle.link_run.proofs.deframer.move_each.Given as goal

abbrev pub invariant-loop-lane : goal.invariant-loop-lane
invariant-loop-lane l = AreMoving l.fn.rows l.rows l.room l.from l.count l.lane
