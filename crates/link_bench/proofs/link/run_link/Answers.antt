use Rattle.std.proofs.Common.{◌∙◌, ap}
use Rattle.scenario.specs.declared.scenario_type.Scenario.{Scenario}
use Rattle.scenario.specs.Plans.{plan_of}
use Rattle.link_run.specs.Rows.{is_done}
use Rattle.link_bench.proofs.CauseLemmas.{run-written}
use Rattle.link_bench.proofs.KeptLemmas.{keeps-done}
use Rattle.link_bench.proofs.RunRead.{scenario-laws}
use Rattle.link_bench.proofs.link.run_link.Goals as goal

pub returns-in_default-open-clause-laws : goal.returns-in_default-open-clause-laws
returns-in_default-open-clause-laws g c = λ plan is.
    scenario-laws c.args.scenario plan c.in-Some.link is c.in-Some.is
    c.shape-shape.ensures.legal c.timing-timing.ensures.legal

pub returns-clause-laws : goal.returns-clause-laws
returns-clause-laws g c = λ plan is.
    scenario-laws c.args.scenario plan c.in-Some.link is c.in-Some.is
    c.shape-shape.ensures.legal c.timing-timing.ensures.legal

pub returns-clause-written : goal.returns-clause-written
returns-clause-written g c = λ plan is.
    run-written c.run-status.result plan c.args.short _ _ _ _
    (c.run-status.ensures.written plan
    (ap (λ (s : Scenario). plan_of s) c.in-Ok.ensures.same.0 ∙ is))

pub returns-clause-kept : goal.returns-clause-kept
returns-clause-kept g c = λ plan is done.
    let opened = c.in-Ok.ensures.same in
    let same = c.run-status.ensures.same in
    record {
      bench = c.run-status.new.self;
      kept_is = keeps-done (is_done c.run-status.result) c.run-status.new.self c.keep.result
          c.keep.ensures done;
      has_run = record {
        plan_is = ap (λ (s : Scenario). plan_of s) (same.0 ∙ opened.0) ∙ is;
        workers_are = same.1 ∙ opened.1;
        has_run = c.run-status.ensures.ran;
        lanes = c.run-status.ensures.lanes plan
            (ap (λ (s : Scenario). plan_of s) opened.0 ∙ is) done;
      };
    }
