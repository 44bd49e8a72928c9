use Rattle.std.proofs.Common.{◌≡◌, ◌≤◌, ◌+◌, ◌*◌, true}
use Rattle.link_run.specs.Rows.{WasHanded}
use Rattle.link_run.proofs.TickRows.{leaving_rows}
use Rattle.link_run.proofs.reporting.add_frame_rows.Given as goal

abbrev pub invariant-loop-i : goal.invariant-loop-i
invariant-loop-i g l = record {
  within : l.i ≤ l.i-end;
  next : l.next ≡ l.end + l.i * l.size;
  same : l.report ≡ l.fn.report;
  handed : WasHanded g.row.W.Denot g.W.Rows.Took g.W.Rows.shape g.W.Rows.faults l.fn.rows l.rows
      true (leaving_rows l.fn.report.params l.end l.frames.frames l.frames.at l.i);
}
