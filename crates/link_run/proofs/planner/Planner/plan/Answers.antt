use Rattle.std.proofs.Common.{List, ◌≡◌, ◌∙◌, ◌<◌, ◌≤◌, ◌+◌, ℕ, suc, false, Option, None, if◌then◌else◌, length, add-one, arith, sym, ap, subst, refl}
use Rattle.link_params.specs.declared.alarms.Device.TheVariants.{Tx, Rx}
use Rattle.link_params.specs.Links.{Link}
use Rattle.link_params.specs.Numbers.{period}
use Rattle.link_model.specs.Kinds.{run_of}
use Rattle.link_run.specs.kept.Happened.{are_past}
use Rattle.link_run.specs.kept.LaneRuns.{ArePut}
use Rattle.link_run.specs.kept.ReceiverRuns.{HasToldTick}
use Rattle.link_run.specs.kept.Segments.{FollowOn, HasPlannedTick, StandAt}
use Rattle.link_run.specs.kept.Sendings.{next_of}
use Rattle.link_run.proofs.EventLemmas.{plan-ascends}
use Rattle.link_run.proofs.LaneStates.{link-of, plan-there}
use Rattle.link_run.proofs.PlanFacts.{plan-facts}
use Rattle.link_run.proofs.PlanSteps.{Fits, calm-reset, count-tick, fit-all, follow-none, follow-tick, have-params, plan-first, plan-more, same-again}
use Rattle.link_run.proofs.SameLanes.{same-widths}
use Rattle.link_run.proofs.planner.Planner.plan.Goals as goal

pub most_ticks-most-requires-clause-next : goal.most_ticks-most-requires-clause-next
most_ticks-most-requires-clause-next c = λ plan is. (c.requires.happened plan is).2

pub loop-n-init : goal.loop-n-init
loop-n-init c =
    let old = c.args.self.now in
    let view = c.self.view_is in
    let empty = ap (λ g. g.steps) c.begin.ensures in
    let first : Option ℕ =
    if c.args.happened.now.tx_reset then None else next_of old.link.params old.tx.sending in
    let least = c.most_ticks-most.ensures.some in
    let most : c.most_ticks-most.result ≤ period old.link.params =
    subst (λ (k : Link). c.most_ticks-most.result ≤ period k.params) (ap (λ v. v.link) view)
    c.most_ticks-most.ensures.short in
    let some : 0 < period old.link.params = omega arith in
    let (any, made) = plan-there c.args.s.now old.link c.requires.link in
    let link_any = link-of c.args.s.now old.link any c.requires.link made in
    let tick_any = c.plan_tick.ensures.planned any made in
    record {
      planned = λ plan is.
          let happened = c.requires.happened plan is in
          let link = link-of c.args.s.now old.link plan c.requires.link is in
          let ticks = (plan-facts c.args.s.now plan is).ticks in
          let tick = c.plan_tick.ensures.planned plan is in (
            0,
            refl,
            plan-first c.begin.new.self c.plan_tick.new.segment c.set_gives.new.self _
                c.plan_tick.new.self c.args.lanes.now c.plan_tick.new.lanes
                c.args.happened.now.tx_reset c.is_running.result plan c.args.t empty
                (ap (λ g. g.edges) c.begin.ensures) (omega arith)
                (subst (λ (k : Link). 0 < period k.params) link some) tick
                (c.plan_tick.ensures.room.2 ∙ ap (λ g. g.rx_reset) c.begin.ensures ∙ happened.1)
                (c.plan_tick.ensures.same.0 ∙ ap (λ v. v.link) view ∙ link)
                (c.plan_tick.ensures.same.1 ∙ happened.2)
                (c.is_running.ensures plan (run_of plan c.args.t)
                (subst (λ v. HasToldTick v.rx plan (run_of plan c.args.t)) (sym c.self-2.view_is)
                tick.told))
                c.plan_tick.ensures.lanes
                (subst (λ (w : List ℕ). ArePut c.args.lanes.now c.plan_tick.new.lanes w 0
                c.plan_tick.new.self.tx.handed) (sym (plan-facts c.args.s.now plan is).wire)
                (subst (λ (n : ℕ). ArePut c.args.lanes.now c.plan_tick.new.lanes
                c.args.s.now.wire.items n c.plan_tick.new.self.tx.handed) (ap length empty)
                c.plan_tick.ensures.octets))
                (fit-all c.args.lanes.now old.link.params 0 (λ lane d below. (c.requires.at lane d below).0) some)
                c.set_gives.ensures,
          );
      count = ap (λ g. length g.steps) c.set_gives.ensures
          ∙ count-tick _ _ _ _ _ any c.args.t tick_any ∙ ap suc (ap length empty);
      follows =
          subst (λ g. FollowOn g.steps old.link.params first
          (next_of old.link.params c.plan_tick.new.self.tx.sending) (length g.steps))
          (sym c.set_gives.ensures)
          (follow-tick _ _ _ c.plan_tick.new.self c.args.happened.now.tx_reset any c.args.t
          old.link.params first first (ap (λ (k : Link). k.params) link_any) tick_any
          (follow-none c.begin.new.self.steps old.link.params first empty)
          (ap (λ v. if c.args.happened.now.tx_reset then None else
          next_of old.link.params v.tx.sending) (sym view)));
      lanes = c.plan_tick.ensures.lanes;
      room = ap (λ g. g.room) c.set_gives.ensures ∙ c.plan_tick.ensures.room.0
          ∙ ap (λ g. g.room) c.begin.ensures;
      link = c.plan_tick.ensures.same.0 ∙ ap (λ v. v.link) view;
    }

pub plan_tick-requires-in-loop-n-clause-widths : goal.plan_tick-requires-in-loop-n-clause-widths
plan_tick-requires-in-loop-n-clause-widths c =
    same-widths c.args.lanes.now c.loop-n.lanes c.loop-n.invariant.lanes c.requires.widths

pub plan_tick-requires-in-loop-n-clause-stands : goal.plan_tick-requires-in-loop-n-clause-stands
plan_tick-requires-in-loop-n-clause-stands c = λ plan is.
    let (m, at, x) = c.loop-n.invariant.planned plan is in
    let up = plan-ascends c.args.s.now plan is in
    let still = sym c.decides.ensures ∙ c.if-decides.false in
    let here : suc (c.args.t + m) ≡ c.args.t + c.loop-n.n = omega arith in
    let calm = c.most_ticks-most.ensures.calm plan is c.loop-n.n (omega arith) (omega arith) in (
      subst (StandAt c.pass.new.self plan) here
          (c.pass.ensures.passed plan (c.args.t + m) x.same_link x.planned.sent x.planned.told
          (sym x.planned.decides_is ∙ still)),
      sym (calm-reset plan Tx (c.args.t + c.loop-n.n) up calm),
      sym (calm-reset plan Rx (c.args.t + c.loop-n.n) up calm),
    )

pub loop-n-preserved : goal.loop-n-preserved
loop-n-preserved c =
    let old = c.args.self.now in
    let p = old.link.params in
    let next = c.plan_tick-in-loop-n.ensures in
    let first : Option ℕ =
    if c.args.happened.now.tx_reset then None else next_of p old.tx.sending in
    let most : c.most_ticks-most.result ≤ period p =
    subst (λ (k : Link). c.most_ticks-most.result ≤ period k.params) (ap (λ v. v.link) c.self.view_is)
    c.most_ticks-most.ensures.short in
    let short : c.loop-n.n < period p = omega arith in
    let fits = fit-all c.loop-n.lanes p c.loop-n.n
    (have-params c.args.lanes.now c.loop-n.lanes p first c.requires.at c.loop-n.invariant.lanes)
    short in
    let (any, made) = plan-there c.args.s.now old.link c.requires.link in
    let link_any = link-of c.args.s.now old.link any c.requires.link made in
    let tick_any = next.planned any made in
    record {
      planned = λ plan is.
          let (m, at, x) = c.loop-n.invariant.planned plan is in
          let link = link-of c.args.s.now old.link plan c.requires.link is in
          let ticks = (plan-facts c.args.s.now plan is).ticks in
          let within = c.most_ticks-most.ensures.within in
          let calm = c.most_ticks-most.ensures.calm plan is c.loop-n.n (omega arith) (omega arith) in
          let short_here : c.loop-n.n < period plan.link.params =
          subst (λ (k : Link). c.loop-n.n < period k.params) link short in (
            suc m,
            omega arith,
            plan-more c.loop-n.segment c.plan_tick-in-loop-n.new.segment c.loop-n.self
                c.pass.new.self c.plan_tick-in-loop-n.new.self c.loop-n.lanes
                c.plan_tick-in-loop-n.new.lanes plan c.args.t m x
                (sym c.decides.ensures ∙ c.if-decides.false) (plan-ascends c.args.s.now plan is)
                (omega arith) (subst (λ (n : ℕ). n < period plan.link.params) at short_here)
                (subst (λ (n : ℕ). are_past plan (c.args.t + n) ≡ are_past plan (c.args.t + n + 1))
                at calm)
                (subst (λ (n : ℕ). HasPlannedTick c.loop-n.segment
                c.plan_tick-in-loop-n.new.segment c.pass.new.self c.plan_tick-in-loop-n.new.self
                false plan (c.args.t + n)) at (next.planned plan is))
                next.room.1 next.room.2 (next.same.1 ∙ c.pass.ensures.same.1)
                (next.same.0 ∙ c.pass.ensures.same.0) next.lanes
                (subst (λ (w : List ℕ). ArePut c.loop-n.lanes c.plan_tick-in-loop-n.new.lanes w
                (suc m) c.plan_tick-in-loop-n.new.self.tx.handed)
                (sym (plan-facts c.args.s.now plan is).wire)
                (subst (λ (n : ℕ). ArePut c.loop-n.lanes c.plan_tick-in-loop-n.new.lanes
                c.args.s.now.wire.items n c.plan_tick-in-loop-n.new.self.tx.handed)
                (c.loop-n.invariant.count ∙ at) next.octets))
                (subst (Fits c.loop-n.lanes) at fits),
          );
      count = count-tick _ _ _ _ _ any _ tick_any ∙ ap suc c.loop-n.invariant.count
          ∙ sym (add-one c.loop-n.n);
      follows =
          follow-tick _ _ _ _ false any _ p first
          (next_of p c.loop-n.self.tx.sending) (ap (λ (k : Link). k.params) link_any) tick_any
          c.loop-n.invariant.follows (ap (next_of p) (sym c.pass.ensures.sending));
      lanes = same-again _ _ _ c.loop-n.invariant.lanes next.lanes;
      room = next.room.0 ∙ c.loop-n.invariant.room;
      link = next.same.0 ∙ c.pass.ensures.same.0 ∙ c.loop-n.invariant.link;
    }
