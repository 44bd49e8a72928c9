use Rattle.std.proofs.Common.{◌≡◌, ℕ, suc, None, Some, if◌then◌else◌, length}
use Rattle.scenario.specs.Plans.{Plan, plan_of}
use Rattle.link_run.specs.kept.LaneRuns.{AreSameLanes}
use Rattle.link_run.specs.kept.Segments.{FollowOn}
use Rattle.link_run.specs.kept.Sendings.{next_of}
use Rattle.link_run.proofs.PlanSteps.{IsPlanning}
use Rattle.link_run.proofs.planner.Planner.plan.Given as goal

abbrev pub invariant-loop-n : goal.invariant-loop-n
invariant-loop-n l = record {
  planned : (plan : Plan) → plan_of l.s ≡ Some plan
      → (m : ℕ) × (l.n ≡ suc m) × IsPlanning l.segment l.self l.lanes plan l.t m;
  count : length l.segment.steps ≡ l.n;
  follows : FollowOn l.segment.steps l.fn.self.link.params
      (if l.happened.tx_reset then None else next_of l.fn.self.link.params l.fn.self.tx.sending)
      (next_of l.fn.self.link.params l.self.tx.sending) (length l.segment.steps);
  lanes : AreSameLanes l.fn.lanes l.lanes;
  room : l.segment.room ≡ l.fn.segment.room;
  link : l.self.link ≡ l.fn.self.link;
}
