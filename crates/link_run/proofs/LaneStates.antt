-- Lanes that went through the same.
use Rattle.std.proofs.Common.{◌≡◌, ◌∙◌, ◌<◌, Bool, get_or, ℕ, List, [], length, Some, unwrap_or, is_some, if◌then◌else◌, sym, ap, subst, refl}
use Rattle.link_params.specs.declared.alarms.Device.TheVariants.{Tx}
use Rattle.link_params.specs.Links.{Link}
use Rattle.scenario.specs.declared.scenario_type.Scenario.{Scenario}
use Rattle.scenario.specs.Plans.{Plan, plan_of}
use Rattle.link_model.proofs.LaneHistory.{ready-handed, same-runs}
use Rattle.link_model.specs.kept.Before.{dead_before, delay_before}
use Rattle.link_model.specs.Edges.{is_reset}
use Rattle.link_model.specs.kept.LaneRuns.{LaneRun, lane_ready, lane_run}
use Rattle.link_model.specs.Moments.{History}
use Rattle.link_run.proofs.FeedLemmas.{some_plan}
use Rattle.link_run.proofs.PlanFacts.{plan-facts}
use Rattle.link_run.specs.kept.Happened.{AreAsBefore, as_of}
use Rattle.lane_threads.specs.declared.lane_pair.LanePair.{LanePair}
use Rattle.lane_threads.specs.kept.LaneRuns.{HasRunLane}
use Rattle.link_run.specs.kept.LaneRuns.{HaveRunLanes}

pub have-same : (now : List LanePair) (s : Plan) (f g : ℕ → LaneRun)
    → ((lane : ℕ) → lane < s.link.params.l → f lane ≡ g lane) → HaveRunLanes now s f → HaveRunLanes now s g
have-same now s f g same h = (
  h.0,
  λ lane d below. subst (HasRunLane (get_or now lane d).lane s lane) (same lane below)
      (h.1 lane d below),
)

some-same : (k l : Link) → Some k ≡ Some l → k ≡ l
some-same k l e = ap (λ o. unwrap_or o k) e

-- a scenario with a link has a plan
pub plan-there : (s : Scenario) (k : Link) → s.link ≡ Some k
    → (plan : Plan) × (plan_of s ≡ Some plan)
plan-there s k is = some_plan s (ap is_some is)

-- the lanes are as before the tick
pub as-before : (s : Plan) (h : History) (t : ℕ) → length h ≡ t
    → AreAsBefore s t (λ lane. lane_run s h lane)
as-before s h t e = λ lane. (ap (delay_before s lane) e, ap (dead_before s lane) e, refl)

-- once the events of the tick have happened
pub ready-is : (s : Plan) (h : History) (t lane : ℕ) (reset : Bool) → length h ≡ t
    → reset ≡ is_reset s Tx (length h)
    → record (as_of s t lane (lane_run s h lane)) {
      handed =
          if reset then [] else (lane_run s h lane).handed;
    } ≡ lane_ready s h lane
ready-is s h t lane reset e is =
    same-runs _ _ (ap (λ b. if b then [] else (lane_run s h lane).handed) is
    ∙ sym (ready-handed s h lane)) refl refl (rw e refl) (rw e refl) refl refl refl

-- the link of a plan is that of its scenario
pub link-of : (s : Scenario) (k : Link) (plan : Plan) → s.link ≡ Some k → plan_of s ≡ Some plan
    → k ≡ plan.link
link-of s k plan is of = let facts = plan-facts s plan of in
    some-same k plan.link (sym is ∙ facts.link)
