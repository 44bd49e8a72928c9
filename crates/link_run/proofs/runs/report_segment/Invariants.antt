use Rattle.std.proofs.Common.{◌≡◌, ◌+◌, length, true, Some}
use Rattle.scenario.specs.Plans.{Plan, plan_of}
use Rattle.link_model.specs.Kinds.{run_of}
use Rattle.link_run.specs.Rows.{WasHanded}
use Rattle.link_run.specs.kept.Reported.{AreFew, HasReported, handed_so_far}
use Rattle.link_run.proofs.LinkRuns.{IsReported}
use Rattle.link_run.proofs.SegmentFacts.{HasPart}
use Rattle.link_run.proofs.runs.report_segment.Given as goal

abbrev pub invariant-loop-i : goal.invariant-loop-i
invariant-loop-i g l = record {
  same : IsReported l.fn.state l.state;
  stands : (plan : Plan) → plan_of l.s ≡ Some plan
      → HasPart l.state plan l.from (l.from + length l.fn.state.last.segment.steps) l.i;
  reported : (plan : Plan) → plan_of l.s ≡ Some plan
      → HasReported l.report plan (run_of plan (l.from + l.i));
  few : AreFew l.report.totals (l.from + l.i);
  params : (l.report.params ≡ l.fn.report.params) × (l.report.short ≡ l.fn.report.short);
  shape : g.W.Rows.shape l.rows ≡ g.W.Rows.shape l.fn.rows;
  handed : (plan : Plan) (start : g.row.W.Denot) → plan_of l.s ≡ Some plan
      → WasHanded g.row.W.Denot g.W.Rows.Took g.W.Rows.shape g.W.Rows.faults start l.fn.rows true
      (handed_so_far l.fn.report.short plan (run_of plan l.from))
      → WasHanded g.row.W.Denot g.W.Rows.Took g.W.Rows.shape g.W.Rows.faults start l.rows true
      (handed_so_far l.fn.report.short plan (run_of plan (l.from + l.i)));
}
