-- What an input says that was read for `run`, and what its scenario obeys.
use Rattle.std.proofs.Common.{◌≡◌, ◌∙◌, ℕ, Option, Some, None, Ok, Err, List, IsTrue, is_some, refl, sym}
use Rattle.std.specs.Prelude.{Result}
use Rattle.link_params.specs.Laws.{broken_law}
use Rattle.link_params.specs.Links.{Link}
use Rattle.link_params.specs.TimingLaws.{broken_timing}
use Rattle.scenario.specs.declared.kind.Job.{Job}
use Rattle.scenario.specs.declared.kind.Job.TheVariants as job
use Rattle.scenario.specs.declared.scenario_type.Scenario.{Scenario}
use Rattle.scenario.specs.Answer.{Answers}
use Rattle.scenario.specs.Plans.{Plan, plan_of, plan_with}
use Rattle.scenario.specs.laws.ReadingLaws.{IsLegalPlan}
use Rattle.scenario.specs.Reads.{Seen, Refusal, reads}
use Rattle.scenario.proofs.ReadingLaws.{frame-size, reads-legal-plans, reads-plans}
use Rattle.link_run.proofs.FeedLemmas.{fits, same_params}
use Rattle.link_run.proofs.PlanFacts.{plan-facts}
use Rattle.link_laws.specs.Laws.{IsPlanRead}
use Rattle.link_laws_c.specs.RunLaws.{RunLaws}
use Rattle.link_laws_c.proofs.RunsByLaws.{runs-by-laws}
use Rattle.scenario.specs.Generated.{generated}
use Rattle.link_bench.specs.Lawful.{RunsAreLawful}
use Rattle.link_bench.specs.kept.Scenarios.{IsReady}
use Rattle.scenario.proofs.GeneratedLaws.{generates-legal-plans}

-- ---- a scenario that was read for a job is ready for it

link-some : (o : Option Link) (s : Scenario) (plan : Plan) → plan_with o s ≡ Some plan
    → IsTrue (is_some o)
link-some None s plan e = cc e
link-some (Some k) s plan e = refl

ready-run : (due : Result Seen Refusal) (bytes : List ℕ) (s : Scenario) → reads job.Run bytes ≡ due
    → Answers due (Ok s) → IsReady job.Run s
ready-run (Ok seen) bytes s e a =
    let (plan, is) = reads-plans bytes seen e in
    link-some s.link s plan (sym a.plan ∙ is)
ready-run (Err b) bytes s e a = absurd a

pub ready : (j : Job) (bytes : List ℕ) (s : Scenario) → Answers (reads j bytes) (Ok s) → IsReady j s
ready job.Map bytes s a = tt
ready job.Unmap bytes s a = tt
ready job.Run bytes s a = ready-run (reads job.Run bytes) bytes s refl a

-- ---- what a plan was read to be

legal-read : (plan : Plan) → IsLegalPlan plan → IsPlanRead plan
legal-read plan legal = record {
  laws = legal.laws;
  timing = legal.timing;
  events = legal.events;
  jitters = legal.jitters;
  wire = legal.wire;
  route = legal.route;
  frames = λ n. record { whole = legal.size n; below = λ r inside. legal.words n r };
}

pub runs_are_lawful : RunsAreLawful
runs_are_lawful = record {
  of_inputs = λ bytes seen plan e is.
      runs-by-laws plan (legal-read plan (reads-legal-plans bytes seen plan e is));
  of_numbers = λ number.
      runs-by-laws (generated number) (legal-read (generated number) (generates-legal-plans number));
}

-- the plan of a scenario, whose link obeys its laws
pub scenario-read : (s : Scenario) (plan : Plan) → plan_of s ≡ Some plan
    → broken_law plan.link.params ≡ None → broken_timing plan.link.params plan.link.timing ≡ None
    → IsPlanRead plan
scenario-read s plan is laws timing =
    let same = same_params s plan is in
    let facts = plan-facts s plan is in
    record {
      laws = laws;
      timing = timing;
      events = rw (facts.events, facts.ticks, same) s.events_fit;
      jitters = rw facts.jitters s.jitters_fit;
      wire = rw (facts.wire, same) s.wire_lanes;
      route = rw (facts.route, same) s.route_lanes;
      frames = λ n. record {
        whole = frame-size plan n;
        below = λ r inside. fits s plan plan.link.params n r _ is (sym same) refl;
      };
    }

-- the laws of a link hold of its run
pub scenario-laws : (s : Scenario) (plan : Plan) (k : Link) → plan_of s ≡ Some plan
    → s.link ≡ Some k → broken_law k.params ≡ None → broken_timing k.params k.timing ≡ None
    → RunLaws plan
scenario-laws s plan k is linked laws timing =
    let facts = plan-facts s plan is in
    let both : Some k ≡ Some plan.link = sym linked ∙ facts.link in
    let same : k ≡ plan.link = cc both in
    runs-by-laws plan (scenario-read s plan is (rw (← same) laws) (rw (← same) timing))
