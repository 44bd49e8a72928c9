use Rattle.std.proofs.Common.{◌≡◌, ◌∙◌, ◌+◌, ℕ, suc, [], ◌∷◌, ◌++◌, None, Some, is_some, arith, sym, ap, subst, refl}
use Rattle.std.specs.Prelude.{IsTrue}
use Rattle.link_params.specs.Laws.{broken_law}
use Rattle.link_params.specs.Links.{Link}
use Rattle.link_params.specs.TimingLaws.{broken_timing}
use Rattle.bring_up.specs.Decisions.{is_running}
use Rattle.scenario.specs.Plans.{Plan, plan_of}
use Rattle.link_model.proofs.RunTicks.{run-suc}
use Rattle.link_model.specs.Kinds.{kind_of, moment_of, run_of}
use Rattle.link_model.specs.kept.LaneRuns.{lane_stepped}
use Rattle.link_run.specs.contracts.link_state.LinkState.{the_view as view_of}
use Rattle.link_run.specs.kept.Collected.{IsLegalLink}
use Rattle.link_run.specs.kept.LaneRuns.{HaveRings, HaveRunLanes}
use Rattle.link_run.specs.kept.LinkStates.{HasCarriedOn, LinkView}
use Rattle.link_run.specs.kept.ReceiverRuns.{HasReceivedRun, HasToldTick, IsEnded}
use Rattle.link_run.specs.kept.Segments.{Planning}
use Rattle.link_run.specs.kept.Transmitters.{HasSentRun, HasSentTick}
use Rattle.link_run.proofs.LaneStates.{link-of, plan-there}
use Rattle.link_run.proofs.LinkRuns.{can-give, has-ended, pairs-on, rings-still, runs-still}
use Rattle.link_run.proofs.link_state.LinkState.end.Goals as goal
use Rattle.link_run.proofs.link_state.LinkState.end.Goals.{After-is_released-self-inside}

-- the receiver has decided
over-then : (c : After-is_released-self-inside) (s : Plan) (from m : ℕ) → plan_of c.args.s.now ≡ Some s
    → c.args.t ≡ from + m → HasCarriedOn (view_of c.self.inside) s from m
    → IsEnded c.end-self-inside.result c.end-self-inside.new.self.rx s (run_of s (from + m))
over-then c s from m is at on =
    subst (λ n. IsEnded c.end-self-inside.result c.end-self-inside.new.self.rx s (run_of s n)) at
    (c.end-self-inside.ensures.ended s is (c.decides-decides.ensures ∙ on.planned.decides_is
    ∙ ap (λ n. (moment_of s (run_of s n)).decides) (sym at)))

-- and the transmitter has ended the tick
sent-then : (c : After-is_released-self-inside) (s : Plan) (from m : ℕ) → plan_of c.args.s.now ≡ Some s
    → c.args.t ≡ from + m → HasCarriedOn (view_of c.self.inside) s from m
    → HasSentRun c.end-self-inside.new.self.tx s (run_of s (suc (from + m)))
sent-then c s from m is at on =
    subst (λ n. HasSentRun c.end-self-inside.new.self.tx s (run_of s (suc n))) at
    (c.end-self-inside.ensures.sent s is
    (subst (λ n. HasSentTick c.self.inside.planner.tx s (run_of s n)) (sym at) on.planned.sent)
    (c.decides-decides.ensures ∙ on.planned.decides_is
    ∙ ap (λ n. (moment_of s (run_of s n)).decides) (sym at)))

-- once its alarms were handed out it stands as before
told-then : (c : After-is_released-self-inside) (s : Plan) (from m : ℕ) → plan_of c.args.s.now ≡ Some s
    → c.args.t ≡ from + m → HasCarriedOn (view_of c.self.inside) s from m
    → HasReceivedRun c.take_alarms.new.self.rx s (run_of s (suc (from + m)))
told-then c s from m is at on =
    let stands = (over-then c s from m is at on).stands in
    let told : HasReceivedRun c.take_alarms.new.self.rx s
    (run_of s (from + m) ++ moment_of s (run_of s (from + m)) ∷ []) =
    subst (λ (p : Planning). HasReceivedRun p.rx s
    (run_of s (from + m) ++ moment_of s (run_of s (from + m)) ∷ []))
    (sym c.take_alarms.ensures.same) (record {
      clock = stands.clock;
      device = stands.device;
      control = stands.control;
      hunts = stands.hunts;
      lanes = stands.lanes;
    }) in
    subst (HasReceivedRun c.take_alarms.new.self.rx s)
    (sym (run-suc (kind_of s.link.params) s (from + m))) told

released-then : (c : After-is_released-self-inside) (s : Plan) (from m : ℕ) → plan_of c.args.s.now ≡ Some s
    → c.args.t ≡ from + m → HasCarriedOn (view_of c.self.inside) s from m
    → c.is_released-self-inside.result ≡ is_running (moment_of s (run_of s (from + m))).stage
released-then c s from m is at on =
    c.is_released-self-inside.ensures s (from + m) (told-then c s from m is at on)

pub end-self-inside-requires-clause-link : goal.end-self-inside-requires-clause-link
end-self-inside-requires-clause-link c = subst (λ o. IsTrue (is_some o)) (sym c.requires.link) refl

pub end-self-inside-requires-clause-told : goal.end-self-inside-requires-clause-told
end-self-inside-requires-clause-told c = λ s is.
    let (from, m, at, had) = c.requires.can s is in
    let on = subst (λ v. HasCarriedOn v s from m) (sym c.self.view_is) had in
    subst (λ n. HasToldTick c.self.inside.planner.rx s (run_of s n)) (sym at) on.planned.told

pub end-self-inside-requires-clause-lanes : goal.end-self-inside-requires-clause-lanes
end-self-inside-requires-clause-lanes c = λ s is.
    let (from, m, at, had) = c.requires.can s is in
    let on = subst (λ v. HasCarriedOn v s from m) (sym c.self.view_is) had in
    subst (λ n. HaveRunLanes c.self.inside.lanes s (lane_stepped (kind_of s.link.params) s
    (run_of s n))) (sym at) on.lanes

pub give-requires : goal.give-requires
give-requires c =
    let (s, is) = plan-there c.args.s.now c.args.self.now.link c.requires.link in
    let (from, m, at, had) = c.requires.can s is in
    let on = subst (λ v. HasCarriedOn v s from m) (sym c.self.view_is) had in
    let link = ap (λ (v : LinkView). v.link) c.self.view_is
    ∙ link-of c.args.s.now c.args.self.now.link s c.requires.link is in
    let legal : IsLegalLink s = record {
      laws = subst (λ (k : Link). broken_law k.params ≡ None) link c.shape-shape.ensures.legal;
      timing = subst (λ (k : Link). broken_timing k.params k.timing ≡ None) link
          c.timing-timing.ensures.legal;
    } in
    let before = goal.at.give-requires c in
    let within = on.planned.one.within in
    let e : from + suc m ≡ suc (from + m) = omega arith in
    can-give c.self.inside.lanes s (from + m) legal within on.lanes
    (subst (HaveRings c.self.inside.lanes s (from + m)) e on.rings)
    (sym (released-then before.After-is_released-self-inside s from m is at on) ∙ c.if-self.true)

pub returns-then-self-clause-ended : goal.returns-then-self-clause-ended
returns-then-self-clause-ended c = λ s from m is at had.
    let before = goal.at.returns-then-self-clause-ended c in
    let on = subst (λ v. HasCarriedOn v s from m) (sym c.self.view_is) had in
    let over = over-then before.After-is_released-self-inside s from m is at on in
    let sent = sent-then before.After-is_released-self-inside s from m is at on in
    let released = released-then before.After-is_released-self-inside s from m is at on in
    let e : from + suc m ≡ suc (from + m) = omega arith in
    let rings = subst (HaveRings c.self.inside.lanes s (from + m)) e on.rings in
    let (runs, gave) = c.give.ensures.gave s (from + m) on.lanes rings
    (sym released ∙ c.if-self.true) in
    let told = told-then before.After-is_released-self-inside s from m is at on in
    let took = c.take_alarms.ensures.same in
    let same = c.end-self-inside.ensures.same in
    has-ended (view_of c.self.inside) _ c.end-self-inside.new.self.rx s from m on
    (ap (λ (p : Planning). p.link) took ∙ ap (λ (p : Planning). p.link) same)
    (ap (λ (p : Planning). p.next) took ∙ ap (λ (p : Planning). p.next) same)
    (ap (λ (p : Planning). p.tx.sending) took ∙ c.end-self-inside.ensures.sending) over
    c.take_alarms.ensures.alarms told
    (subst (λ (p : Planning). HasSentRun p.tx s (run_of s (suc (from + m)))) (sym took) sent) released runs gave
    (pairs-on c.self.inside.lanes c.give.new.self c.self.inside.collector.ends c.give.ensures.rings
    on.sized.pairs)
    (c.give.ensures.at s.link.params _ on.at_next)

pub returns-else-self-clause-ended : goal.returns-else-self-clause-ended
returns-else-self-clause-ended c = λ s from m is at had.
    let before = goal.at.returns-else-self-clause-ended c in
    let on = subst (λ v. HasCarriedOn v s from m) (sym c.self.view_is) had in
    let over = over-then before.After-is_released-self-inside s from m is at on in
    let sent = sent-then before.After-is_released-self-inside s from m is at on in
    let released = released-then before.After-is_released-self-inside s from m is at on in
    let e : from + suc m ≡ suc (from + m) = omega arith in
    let rings = subst (HaveRings c.self.inside.lanes s (from + m)) e on.rings in
    let halts = sym released ∙ c.if-self.false in
    let told = told-then before.After-is_released-self-inside s from m is at on in
    let took = c.take_alarms.ensures.same in
    let same = c.end-self-inside.ensures.same in
    has-ended (view_of c.self.inside) _ c.end-self-inside.new.self.rx s from m on
    (ap (λ (p : Planning). p.link) took ∙ ap (λ (p : Planning). p.link) same)
    (ap (λ (p : Planning). p.next) took ∙ ap (λ (p : Planning). p.next) same)
    (ap (λ (p : Planning). p.tx.sending) took ∙ c.end-self-inside.ensures.sending) over
    c.take_alarms.ensures.alarms told
    (subst (λ (p : Planning). HasSentRun p.tx s (run_of s (suc (from + m)))) (sym took) sent) released
    (runs-still c.self.inside.lanes s (from + m) halts on.lanes)
    (rings-still c.self.inside.lanes s (from + m) halts rings) on.sized.pairs on.at_next
