use Rattle.std.proofs.Common.{sym, arith}
use Rattle.link_model.specs.Run.{run}
use Rattle.link_run.proofs.EventLemmas.{passed-none, plan-ascends}
use Rattle.link_run.proofs.planner.Planner.open.Goals as goal

pub returns-clause-begins : goal.returns-clause-begins
unfolding run
returns-clause-begins c = λ plan is link. record {
  stands = record {
    same_link = sym link;
    sent = c.in_ok-open.ensures.begins plan is link;
    told = c.in_ok-open-2.ensures.begins plan is link;
  };
  next_is = sym (passed-none plan.events 0 0 (plan-ascends c.args.s.now plan is) (omega arith));
}
