use Rattle.std.proofs.Common.{◌≡◌, length}
use Rattle.link_run.proofs.RowOctets.{IsCopied}
use Rattle.link_run.proofs.deframer.Deframer.write_frame.Given as goal

abbrev pub invariant-loop-lane : goal.invariant-loop-lane
invariant-loop-lane l =
    (length l.octets ≡ length l.fn.octets)
    × IsCopied l.self-inside.rows.items l.octets l.self-inside.room l.size l.i l.lane
