use Rattle.std.proofs.Common.{◌≡◌, ◌+◌, ◌-◌, ◌∙◌, ap, sym, subst, not, is_some, true}
use Rattle.std.specs.List.{list_any}
use Rattle.link_params.specs.declared.alarms.Device.TheVariants.{Tx, Rx}
use Rattle.scenario.specs.declared.plan.Event.{Event}
use Rattle.link_model.specs.Edges.{resets}
use Rattle.link_run.specs.kept.LaneRuns.{HaveRunLanes}
use Rattle.link_run.proofs.EventLemmas.{after, after-happens, fit-plan, have-plan, part-is, passed, plan-ascends, reset-is}
use Rattle.link_run.proofs.PlanFacts.{plan-facts}
use Rattle.link_run.proofs.events.happen.Goals as goal

pub end_of-next-requires-clause-from : goal.end_of-next-requires-clause-from
end_of-next-requires-clause-from c =
    let some : is_some c.args.s.now.link ≡ true = c.is_none.ensures ∙ ap not c.if-is_none.false in
    let plan = have-plan c.args.s.now.link c.args.s.now some in
    let f = plan-facts c.args.s.now plan.0 plan.1 in
    let v = c.as_slice-events.ensures.value in
    c.requires.from plan.0 plan.1 ∙ ap (passed c.args.t) (f.events ∙ sym v)

pub apply_all-requires : goal.apply_all-requires
apply_all-requires c =
    let some : is_some c.args.s.now.link ≡ true = c.is_none.ensures ∙ ap not c.if-is_none.false in
    let plan = have-plan c.args.s.now.link c.args.s.now some in
    let ran = c.requires.ran plan.0 plan.1 in
    let f = plan-facts c.args.s.now plan.0 plan.1 in
    let v = c.as_slice-events.ensures.value in
    let g = c.args.s.now in
    record {
      ran = (
        plan.0,
        ran.0,
        ran.1,
        λ lane. (ran.2 lane).2,
        rw v (fit-plan g.events.items g.shape plan.0.link.params g.ticks c.args.from
            (c.end_of-next.result - c.args.from) (g.same_shape plan.0.link f.link) g.events_fit),
      );
    }

pub returns-clause-tx : goal.returns-clause-tx
returns-clause-tx c plan is =
    let f = plan-facts c.args.s.now plan is in
    let part = part-is c.as_slice-events.result.now plan.events c.args.t c.args.from
    c.end_of-next.result (c.as_slice-events.ensures.value ∙ sym f.events)
    (c.requires.from plan is) c.end_of-next.ensures.end in
    c.has_reset.ensures ∙ ap (list_any (λ (e : Event). resets Tx e.what)) part
    ∙ reset-is plan Tx c.args.t (plan-ascends c.args.s.now plan is)

pub returns-clause-rx : goal.returns-clause-rx
returns-clause-rx c plan is =
    let f = plan-facts c.args.s.now plan is in
    let part = part-is c.as_slice-events.result.now plan.events c.args.t c.args.from
    c.end_of-next.result (c.as_slice-events.ensures.value ∙ sym f.events)
    (c.requires.from plan is) c.end_of-next.ensures.end in
    c.has_reset-2.ensures ∙ ap (list_any (λ (e : Event). resets Rx e.what)) part
    ∙ reset-is plan Rx c.args.t (plan-ascends c.args.s.now plan is)

pub returns-clause-next : goal.returns-clause-next
returns-clause-next c plan is =
    let f = plan-facts c.args.s.now plan is in
    c.end_of-next.ensures.end
    ∙ ap (passed (c.args.t + 1)) (c.as_slice-events.ensures.value ∙ sym f.events)

pub returns-clause-lanes : goal.returns-clause-lanes
returns-clause-lanes c plan runs is run before =
    let f = plan-facts c.args.s.now plan is in
    let part = part-is c.as_slice-events.result.now plan.events c.args.t c.args.from
    c.end_of-next.result (c.as_slice-events.ensures.value ∙ sym f.events)
    (c.requires.from plan is) c.end_of-next.ensures.end in
    after-happens c.apply_all.new.lanes plan c.args.t runs (plan-ascends c.args.s.now plan is)
    before
    (subst (λ es. HaveRunLanes c.apply_all.new.lanes plan (λ lane. after es lane (runs lane))) part
    (c.apply_all.ensures.goes_on plan runs run))
