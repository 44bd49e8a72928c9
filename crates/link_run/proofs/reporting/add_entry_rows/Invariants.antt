use Rattle.std.proofs.Common.{◌≡◌, ◌<◌, ◌+◌, ◌-◌, ◌*◌, ◌%◌, [], true, if◌then◌else◌, length, Some}
use Rattle.link_params.specs.Numbers.{octets_per_tick}
use Rattle.scenario.specs.Plans.{Plan, plan_of}
use Rattle.link_model.specs.Report.{enter_rows, prints_all}
use Rattle.link_run.specs.Rows.{WasHanded}
use Rattle.link_run.proofs.TickRows.{entered_first}
use Rattle.link_run.proofs.reporting.add_entry_rows.Given as goal

abbrev pub decreases-loop-next : goal.decreases-loop-next
decreases-loop-next g l = l.per_tick - l.next

abbrev pub invariant-loop-next : goal.invariant-loop-next
invariant-loop-next g l =
    let entered = entered_first l.s.shape l.t l.place l.next in
    record {
      counts : l.report ≡ record l.fn.report {
        totals = record l.fn.report.totals {
          entered = l.fn.report.totals.entered + length entered;
        };
      };
      at : (octets_per_tick l.s.shape * l.place + l.next) % l.s.shape.f ≡ 0;
      below : l.next < l.per_tick + l.size;
      handed : (plan : Plan) → plan_of l.s ≡ Some plan
          → WasHanded g.row.W.Denot g.W.Rows.Took g.W.Rows.shape g.W.Rows.faults l.fn.rows l.rows
          true (if l.fn.report.short then [] else (if prints_all plan.print
          then enter_rows plan l.fn.report.totals.entered entered else []));
    }
