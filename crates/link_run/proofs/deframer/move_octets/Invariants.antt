use Rattle.std.proofs.Common.{◌+◌}
use Rattle.std.specs.Prelude.{slice_index}
use Rattle.link_run.specs.kept.FrameRows.{IsWritten}
use Rattle.link_run.proofs.deframer.move_octets.Given as goal

abbrev pub invariant-loop-i : goal.invariant-loop-i
invariant-loop-i l =
    IsWritten l.fn.rows l.rows l.start l.i (λ i. slice_index l.fn.rows (l.start + l.from + i))
