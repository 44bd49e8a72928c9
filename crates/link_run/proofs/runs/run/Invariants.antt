use Rattle.std.proofs.Common.{◌≡◌, ◌-◌, ◌≤◌, true, Some}
use Rattle.scenario.specs.Plans.{Plan, plan_of}
use Rattle.link_model.specs.Kinds.{run_of}
use Rattle.link_run.specs.Rows.{WasHanded}
use Rattle.link_run.specs.kept.LinkStates.{HasRun}
use Rattle.link_run.specs.kept.Reported.{AreFew, HasReported, handed_so_far}
use Rattle.link_run.proofs.runs.run.Given as goal

abbrev pub invariant-loop-t : goal.invariant-loop-t
invariant-loop-t g l = record {
  within : l.t ≤ l.s.ticks;
  link : l.s.link ≡ Some l.state.link;
  same : l.state.link ≡ l.fn.state.link;
  stands : (plan : Plan) → plan_of l.s ≡ Some plan → HasRun l.state plan l.from l.t;
  reported : (plan : Plan) → plan_of l.s ≡ Some plan → HasReported l.report plan (run_of plan l.from);
  few : AreFew l.report.totals l.from;
  params : (l.report.params ≡ l.s.shape) × (l.report.short ≡ l.fn.report.short);
  handed : (plan : Plan) → plan_of l.s ≡ Some plan
      → WasHanded g.row.W.Denot g.W.Rows.Took g.W.Rows.shape g.W.Rows.faults l.fn.rows l.rows true
      (handed_so_far l.fn.report.short plan (run_of plan l.from));
}

abbrev pub decreases-loop-t : goal.decreases-loop-t
decreases-loop-t g l = l.s.ticks - l.t
