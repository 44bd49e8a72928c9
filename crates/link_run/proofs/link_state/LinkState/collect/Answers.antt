use Rattle.std.proofs.Common.{◌≡◌, ◌∙◌, ◌<◌, ◌≤◌, ◌+◌, ◌-◌, ℕ, suc, Bool, List, get_or, arith, sym, ap, subst}
use Rattle.std.specs.Prelude.{IfSome}
use Rattle.lane_threads.specs.declared.step.Step.{Step}
use Rattle.lane_threads.specs.Segments.{no_step}
use Rattle.scenario.specs.Plans.{Plan}
use Rattle.link_model.specs.Kinds.{run_of}
use Rattle.link_run.specs.declared.ticked.Ticked.{Ticked}
use Rattle.link_run.specs.kept.Collected.{CanCollect, Collecting, Collects, HasCollected}
use Rattle.link_run.specs.kept.LinkStates.{HasSegment, LinkView, alarms_in}
use Rattle.link_run.specs.kept.Reported.{IsSeen}
use Rattle.link_run.specs.kept.Waits.{HaveWaiting}
use Rattle.link_run.proofs.SegmentFacts.{can-collect, cells-left, has-segment-next, hunt-is, hunt_in, is-seen, legal-link, runs-is, small-place, with_collecting}
use Rattle.link_run.proofs.link_state.LinkState.collect.Goals as goal
use Rattle.link_run.proofs.link_state.LinkState.collect.Goals.{After-take}

-- the tick was collected
took-of : (c : After-take) (s : Plan) (t m : ℕ) → HasSegment c.args.self.now s t m c.args.i
    → c.args.i ≤ m → Collects c.take.new.self s (t + c.args.i) (m - c.args.i)
took-of c s t m h within =
    let i = c.args.i in
    let v : LinkView = c.args.self.now in
    let same = ap (λ (x : LinkView). x.collecting) c.self.view_is in
    let link = ap (λ (x : LinkView). x.link) c.self.view_is ∙ h.same_link in
    c.take.ensures.took s (t + i) (m - i)
    (legal-link _ s link c.shape-shape.ensures.legal c.timing-timing.ensures.legal)
    (subst (λ (x : Collecting). HasCollected x s (t + i)) (sym same) h.collected)
    (subst (λ (x : Collecting). HaveWaiting x.waiting s (t + i) (suc (m - i))) (sym same)
    (cells-left v s t m i h within))
    (ap (λ (xs : List Step). (get_or xs i no_step).rx.hunt)
    (c.steps.ensures ∙ ap (λ (x : LinkView). x.last.segment.steps) c.self.view_is)
    ∙ hunt-is v s t m i h within)
    (c.runs-runs.ensures ∙ runs-is v s t m i h within)

pub seen-seen-requires-clause-edges : goal.seen-seen-requires-clause-edges
seen-seen-requires-clause-edges c =
    let (s, t, m, h) = c.requires.has in
    let steps = h.over.has_steps.count in
    let edges = h.over.has_steps.edge_count in
    let inside = c.requires.inside in
    omega arith

pub take-requires : goal.take-requires
take-requires c =
    let (s, t, m, h) = c.requires.has in
    let i = c.args.i in
    let v : LinkView = c.args.self.now in
    let inside = c.requires.inside in
    let count = h.over.has_steps.count in
    let within : i ≤ m = omega arith in
    let same = ap (λ (x : LinkView). x.collecting) c.self.view_is in
    let link = ap (λ (x : LinkView). x.link) c.self.view_is ∙ h.same_link in
    let legal = legal-link _ s link c.shape-shape.ensures.legal c.timing-timing.ensures.legal in
    let hunts : (get_or c.steps.result.now i no_step).rx.hunt ≡ hunt_in v i =
    ap (λ (xs : List Step). (get_or xs i no_step).rx.hunt)
    (c.steps.ensures ∙ ap (λ (x : LinkView). x.last.segment.steps) c.self.view_is) in
    record {
      can = subst (λ (x : Collecting). CanCollect x (get_or c.steps.result.now i no_step).rx.hunt
          c.runs-runs.result) (sym same)
          (subst (λ (b : Bool). CanCollect v.collecting b c.runs-runs.result) (sym hunts)
          (subst (CanCollect v.collecting (hunt_in v i)) (sym c.runs-runs.ensures)
          (can-collect v s t m i legal h within)));
    }

pub returns-clause-seen : goal.returns-clause-seen
returns-clause-seen c = λ s t m h within.
    let v : LinkView = c.args.self.now in
    let now : Collecting = c.take.new.self in
    subst (λ (x : Ticked). IsSeen x (alarms_in v c.args.i) now.gathering.frames now.gathering.at s
    (run_of s (t + c.args.i))) (sym c.seen-seen.ensures)
    (is-seen v now s t m c.args.i h within (took-of c s t m h within))

pub returns-clause-goes_on : goal.returns-clause-goes_on
returns-clause-goes_on c = λ s t m h within.
    let v : LinkView = c.args.self.now in
    let now : Collecting = c.take.new.self in
    subst (λ (x : LinkView). HasSegment (with_collecting x now) s t m (suc c.args.i))
    (sym c.self.view_is) (has-segment-next v now s t m c.args.i h within (took-of c s t m h within))

pub returns-clause-place : goal.returns-clause-place
returns-clause-place c =
    let (s, t, m, h) = c.requires.has in
    let v : LinkView = c.args.self.now in
    let inside = c.requires.inside in
    let count = h.over.has_steps.count in
    let link = ap (λ (x : LinkView). x.link) c.self.view_is ∙ h.same_link in
    let legal = legal-link _ s link c.shape-shape.ensures.legal c.timing-timing.ensures.legal in
    subst (λ (x : Ticked). IfSome x.place (λ p. p < 1024)) (sym c.seen-seen.ensures)
    (small-place v s t m c.args.i legal h (omega arith))

pub returns-clause-same : goal.returns-clause-same
returns-clause-same c = ap (λ (x : LinkView). let y : LinkView =
    record x { collecting = c.take.new.self } in y) c.self.view_is

pub returns-clause-ends : goal.returns-clause-ends
returns-clause-ends c =
    c.take.ensures.ends ∙ ap (λ (x : LinkView). x.collecting.ends) c.self.view_is
