use Rattle.std.proofs.Common.{◌≡◌, ◌∙◌, ◌≤◌, ◌+◌, ℕ, suc, length, if◌then◌else◌, None, Some, arith, sym, ap, subst}
use Rattle.link_params.specs.Laws.{broken_law}
use Rattle.link_params.specs.Links.{Link}
use Rattle.link_params.specs.Numbers.{period}
use Rattle.link_params.specs.TimingLaws.{broken_timing}
use Rattle.scenario.specs.Plans.{Plan, plan_of}
use Rattle.link_model.specs.Kinds.{run_of}
use Rattle.link_model.specs.kept.LaneRuns.{lane_ready}
use Rattle.link_run.specs.contracts.link_state.LinkState.{the_view as view_of}
use Rattle.link_run.specs.declared.ended.Ended.{Ended}
use Rattle.link_run.specs.kept.Collected.{Collecting, IsLegalLink}
use Rattle.link_run.specs.kept.Ends.{HaveCells}
use Rattle.link_run.specs.kept.LaneRuns.{AreAt}
use Rattle.link_run.specs.kept.LinkStates.{HasCarriedOn, HasRun, IsBefore, LinkView}
use Rattle.link_run.specs.kept.Segments.{IsCarried, IsPlanned}
use Rattle.link_run.specs.kept.Sendings.{next_of}
use Rattle.link_run.proofs.Carrying.{can-carry}
use Rattle.link_run.proofs.LaneStates.{link-of, plan-there}
use Rattle.link_run.proofs.LinkRuns.{HasTaken, IsReady, carried-on, collecting-met, has-next, has-taken, is-ready, planned-carried, with_carried}
use Rattle.link_run.proofs.PlanFacts.{plan-facts}
use Rattle.link_run.proofs.SameLanes.{have-widths}
use Rattle.link_run.proofs.FeedLemmas.{are-orders}
use Rattle.link_run.proofs.link_state.LinkState.run.Given.{Over}
use Rattle.link_run.proofs.link_state.LinkState.run.Goals as goal
use Rattle.link_run.proofs.link_state.LinkState.run.Goals.{After-self-2, After-plan, After-carry}

-- the events of the first tick have happened
ready-then : (g : Over) (c : After-self-2 g) (s : Plan) → plan_of c.args.s.now ≡ Some s
    → IsReady c.happen-happened.result (view_of c.self-2.inside) s c.args.t
ready-then g c s is =
    let (from, had) = c.requires.stands s is in
    subst (λ v. IsReady c.happen-happened.result v s c.args.t) (sym c.self-2.view_is)
    (is-ready c.happen-happened.result c.meet.new.self c.happen-happened.new.self s c.args.t
    (c.meet.ensures.ran s c.args.t had.ran) (c.happen-happened.ensures s is))

legal-then : (g : Over) (c : After-self-2 g) (s : Plan) → plan_of c.args.s.now ≡ Some s → IsLegalLink s
legal-then g c s is =
    let link = ap (λ (v : LinkView). v.link) c.self.view_is
    ∙ link-of c.args.s.now c.args.self.now.link s c.requires.link is in
    record {
      laws = subst (λ (k : Link). broken_law k.params ≡ None) link c.shape-shape.ensures.legal;
      timing = subst (λ (k : Link). broken_timing k.params k.timing ≡ None) link
          c.timing-timing.ensures.legal;
    }

-- the ticks of the segment were planned
carried-then : (g : Over) (c : After-plan g) (s : Plan) (m : ℕ) → plan_of c.args.s.now ≡ Some s
    → IsLegalLink s → IsReady c.happen-happened.result (view_of c.self-2.inside) s c.args.t
    → IsPlanned c.plan.new.segment c.plan.new.self c.plan.new.lanes s c.args.t m
    → length c.plan.new.segment.steps ≡ suc m
    → IsCarried c.plan.new.lanes c.plan.new.segment s c.args.t m
    (if c.happen-happened.result.tx_reset then None
    else next_of s.link.params c.self-2.inside.planner.tx.sending)
    (next_of s.link.params c.plan.new.self.tx.sending)
carried-then g c s m is legal ready planned count =
    planned-carried (view_of c.self-2.inside) c.happen-happened.result s c.args.t m
    c.plan.new.lanes c.plan.new.segment c.plan.new.self legal
    (are-orders c.args.s.now s is).0 ready c.plan.ensures.lanes planned count c.plan.ensures.follows

-- and the lanes ran to the last one
on-then : (g : Over) (c : After-carry g) (s : Plan) (m : ℕ)
    → IsReady c.happen-happened.result (view_of c.self-2.inside) s c.args.t
    → IsPlanned c.plan.new.segment c.plan.new.self c.plan.new.lanes s c.args.t m
    → IsCarried c.plan.new.lanes c.plan.new.segment s c.args.t m
    (if c.happen-happened.result.tx_reset then None
    else next_of s.link.params c.self-2.inside.planner.tx.sending)
    (next_of s.link.params c.plan.new.self.tx.sending)
    → HasCarriedOn (with_carried (view_of c.self-2.inside) c.plan.new.self c.carry.new.self
    c.plan.new.segment c.carry.new.side) s c.args.t m
on-then g c s m ready planned carried =
    let (runs, rings, at) = c.carry.ensures.ran s c.args.t m _ _ carried in
    carried-on (view_of c.self-2.inside) c.happen-happened.result s c.args.t m c.plan.new.lanes
    c.carry.new.self c.plan.new.segment c.plan.new.self c.carry.new.side ready c.plan.ensures.link
    c.plan.ensures.room c.plan.ensures.lanes planned c.carry.ensures.rings c.carry.ensures.side.1
    runs rings at

-- the cells of the segment before were taken
taken-then : (g : Over) (c : After-carry g) (s : Plan) (from : ℕ) → plan_of c.args.s.now ≡ Some s
    → IsReady c.happen-happened.result (view_of c.self-2.inside) s c.args.t
    → HasRun c.args.self.now s from c.args.t → HasTaken c.carry.new.side s from c.args.t
taken-then g c s from is ready had =
    let old : LinkView = c.args.self.now in
    let happened = c.happen-happened.ensures s is in
    let same = ap (λ (v : LinkView). v.collecting) c.self-2.view_is
    ∙ ap (λ (v : LinkView). v.collecting) happened.same in
    has-taken old c.self-2.inside.collector c.carry.new.side s from c.args.t had
    (ready.sized.pairs.count ∙ ready.lanes.0)
    (λ n ran. subst (λ (k : Collecting). HaveCells k.ends s from n) (sym same)
    (c.meet.ensures.knows s from n ran had.cells))
    (subst (λ (k : Collecting). k ≡ record old.collecting { ends = k.ends }) (sym same)
    (collecting-met old c.meet.new.self c.meet.ensures.same))
    c.carry.ensures.side.0 c.carry.ensures.side.1

pub meet-requires : goal.meet-requires
meet-requires g c =
    let (s, is) = plan-there c.args.s.now c.args.self.now.link c.requires.link in
    let (from, had) = c.requires.stands s is in
    record { pairs = had.ran.sized.pairs }

pub happen-happened-requires-clause-link : goal.happen-happened-requires-clause-link
happen-happened-requires-clause-link g c =
    c.requires.link ∙ ap (λ k. Some k) (sym (ap (λ (v : LinkView). v.link) c.meet.ensures.same))

pub happen-happened-requires-clause-stands : goal.happen-happened-requires-clause-stands
happen-happened-requires-clause-stands g c = λ s is.
    let (from, had) = c.requires.stands s is in
    c.meet.ensures.ran s c.args.t had.ran

pub plan-requires-clause-link : goal.plan-requires-clause-link
plan-requires-clause-link g c =
    let (s, is) = plan-there c.args.s.now c.args.self.now.link c.requires.link in
    let ready = ready-then g (goal.at.plan-requires-clause-link g c).After-self-2 s is in
    (plan-facts c.args.s.now s is).link ∙ ap (λ k. Some k) (sym ready.sized.same_planning)

pub plan-requires-clause-room : goal.plan-requires-clause-room
plan-requires-clause-room g c =
    let (s, is) = plan-there c.args.s.now c.args.self.now.link c.requires.link in
    let ready = ready-then g (goal.at.plan-requires-clause-room g c).After-self-2 s is in
    subst (λ (k : Link). period k.params ≤ c.self-2.inside.latest.segment.room)
    (sym ready.sized.same_planning) ready.sized.room

pub plan-requires-clause-count : goal.plan-requires-clause-count
plan-requires-clause-count g c =
    let (s, is) = plan-there c.args.s.now c.args.self.now.link c.requires.link in
    let ready = ready-then g (goal.at.plan-requires-clause-count g c).After-self-2 s is in
    ready.lanes.0 ∙ ap (λ (k : Link). k.params.l) (sym ready.sized.same_planning)

pub plan-requires-clause-widths : goal.plan-requires-clause-widths
plan-requires-clause-widths g c =
    let (s, is) = plan-there c.args.s.now c.args.self.now.link c.requires.link in
    let ready = ready-then g (goal.at.plan-requires-clause-widths g c).After-self-2 s is in
    have-widths c.self-2.inside.lanes s (lane_ready s (run_of s c.args.t)) _ ready.lanes
    ready.at_next

pub plan-requires-clause-at : goal.plan-requires-clause-at
plan-requires-clause-at g c =
    let (s, is) = plan-there c.args.s.now c.args.self.now.link c.requires.link in
    let ready = ready-then g (goal.at.plan-requires-clause-at g c).After-self-2 s is in
    subst (λ (k : Link). AreAt c.self-2.inside.lanes k.params
    (if c.happen-happened.result.tx_reset then None
    else next_of k.params c.self-2.inside.planner.tx.sending)) (sym ready.sized.same_planning)
    ready.at_next

pub plan-requires-clause-happened : goal.plan-requires-clause-happened
plan-requires-clause-happened g c = λ s is.
    let ready = ready-then g (goal.at.plan-requires-clause-happened g c).After-self-2 s is in
    (ready.tx_reset, ready.rx_reset, ready.next)

pub plan-requires-clause-stands : goal.plan-requires-clause-stands
plan-requires-clause-stands g c = λ s is.
    (ready-then g (goal.at.plan-requires-clause-stands g c).After-self-2 s is).planned

pub carry-requires-clause-can : goal.carry-requires-clause-can
carry-requires-clause-can g c κs within =
    let (s, is) = plan-there c.args.s.now c.args.self.now.link c.requires.link in
    let before = goal.at.carry-requires-clause-can g c in
    let ready = ready-then g before.After-self-2 s is in
    let legal = legal-then g before.After-self-2 s is in
    let (m, count, planned) = c.plan.ensures.planned s is in
    can-carry c.plan.new.lanes c.plan.new.segment s c.args.t m _ _
    (carried-then g before.After-plan s m is legal ready planned count)

-- the segment is short
short-then : (g : Over) (c : After-plan g) (s : Plan) → plan_of c.args.s.now ≡ Some s
    → (m : ℕ) × (length c.plan.new.segment.steps ≡ suc m)
    × (c.args.t + length c.plan.new.segment.steps ≤ c.args.s.now.ticks)
short-then g c s is =
    let (m, count, planned) = c.plan.ensures.planned s is in
    let within = planned.one.within in
    let ticks = (plan-facts c.args.s.now s is).ticks in
    (m, count, omega arith)

pub overflow_cast-count : goal.overflow_cast-count
overflow_cast-count g c =
    let (s, is) = plan-there c.args.s.now c.args.self.now.link c.requires.link in
    let (m, count, within) = short-then g (goal.at.overflow_cast-count g c).After-plan s is in
    let few = c.args.s.now.few_ticks in
    omega arith

pub end-requires-clause-link : goal.end-requires-clause-link
end-requires-clause-link g c =
    let (s, is) = plan-there c.args.s.now c.args.self.now.link c.requires.link in
    let ready = ready-then g (goal.at.end-requires-clause-link g c).After-self-2 s is in
    (plan-facts c.args.s.now s is).link ∙ ap (λ k. Some k) (sym ready.sized.same_link)

pub end-requires-clause-can : goal.end-requires-clause-can
end-requires-clause-can g c = λ s is.
    let before = goal.at.end-requires-clause-can g c in
    let ready = ready-then g before.After-self-2 s is in
    let legal = legal-then g before.After-self-2 s is in
    let (m, count, planned) = c.plan.ensures.planned s is in
    let size = c.len-count.ensures in
    let carried = carried-then g before.After-plan s m is legal ready planned count in
    (c.args.t, m, omega arith, on-then g before.After-carry s m ready planned carried)

pub returns-clause-ran : goal.returns-clause-ran
returns-clause-ran g c = λ s from is had.
    let before = goal.at.returns-clause-ran g c in
    let t = c.args.t in
    let ready = ready-then g before.After-self-2 s is in
    let legal = legal-then g before.After-self-2 s is in
    let (m, count, planned) = c.plan.ensures.planned s is in
    let carried = carried-then g before.After-plan s m is legal ready planned count in
    let on = on-then g before.After-carry s m ready planned carried in
    let happened = c.happen-happened.ensures s is in
    let size = c.len-count.ensures in
    let last = ap (λ (v : LinkView). v.last) c.self-2.view_is
    ∙ ap (λ (v : LinkView). v.last) happened.same
    ∙ ap (λ (v : LinkView). v.last) c.meet.ensures.same in (
      m,
      omega arith,
      has-next
          (with_carried (view_of c.self-2.inside) c.plan.new.self c.carry.new.self
          c.plan.new.segment c.carry.new.side)
          c.end.new.self s from t m on c.end.ensures.same
          (c.end.ensures.ended s t m is (omega arith) on)
          (subst (λ (e : Ended). IsBefore e s from t) (sym last) had.before)
          (taken-then g before.After-carry s from is ready had),
    )

pub returns-clause-within : goal.returns-clause-within
returns-clause-within g c =
    let (s, is) = plan-there c.args.s.now c.args.self.now.link c.requires.link in
    let (m, count, within) = short-then g (goal.at.returns-clause-within g c).After-plan s is in
    let size = c.len-count.ensures in
    omega arith

pub returns-clause-some : goal.returns-clause-some
returns-clause-some g c =
    let (s, is) = plan-there c.args.s.now c.args.self.now.link c.requires.link in
    let (m, count, within) = short-then g (goal.at.returns-clause-some g c).After-plan s is in
    let size = c.len-count.ensures in
    omega arith

pub overflow_sub-count : goal.overflow_sub-count
overflow_sub-count g c =
    let (s, is) = plan-there c.args.s.now c.args.self.now.link c.requires.link in
    let (m, count, within) = short-then g (goal.at.overflow_sub-count g c).After-plan s is in
    let size = c.len-count.ensures in
    omega arith

pub overflow_add-t : goal.overflow_add-t
overflow_add-t g c =
    let (s, is) = plan-there c.args.s.now c.args.self.now.link c.requires.link in
    let (m, count, within) = short-then g (goal.at.overflow_add-t g c).After-plan s is in
    let size = c.len-count.ensures in
    let few = c.args.s.now.few_ticks in
    omega arith

pub returns-clause-same : goal.returns-clause-same
returns-clause-same g c =
    let (s, is) = plan-there c.args.s.now c.args.self.now.link c.requires.link in
    let happened = c.happen-happened.ensures s is in
    ap (λ (x : LinkView). x.link) c.end.ensures.same
    ∙ ap (λ (x : LinkView). x.link) c.self-2.view_is
    ∙ ap (λ (x : LinkView). x.link) happened.same
    ∙ ap (λ (x : LinkView). x.link) c.meet.ensures.same
