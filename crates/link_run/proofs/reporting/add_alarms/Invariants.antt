use Rattle.std.proofs.Common.{◌≡◌, ◌≤◌, [], true, if◌then◌else◌, length, map, take}
use Rattle.scenario.specs.declared.report_row.Row.TheVariants as row
use Rattle.link_model.specs.Report.{bares}
use Rattle.link_run.specs.Rows.{WasHanded}
use Rattle.link_run.specs.kept.TickCounts.{with_alarms}
use Rattle.link_run.proofs.reporting.add_alarms.Given as goal

abbrev pub invariant-loop-i : goal.invariant-loop-i
invariant-loop-i g l = record {
  end : l.i-end ≡ length l.alarms;
  within : l.i ≤ l.i-end;
  counts : l.report ≡ record l.fn.report {
    totals = with_alarms l.fn.report.totals l.i;
  };
  handed : WasHanded g.row.W.Denot g.W.Rows.Took g.W.Rows.shape g.W.Rows.faults l.fn.rows l.rows
      true (if l.fn.report.short then [] else bares (map (row.Alarm l.t) (take l.i l.alarms)));
}
