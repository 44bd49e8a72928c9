use Rattle.std.proofs.Common.{◌≡◌, take, subst, arith}
use Rattle.std.proofs.lemmas.List.{take_all}
use Rattle.link_params.specs.declared.alarms.Device.TheVariants.{Tx}
use Rattle.scenario.specs.declared.plan.Event.{Event}
use Rattle.scenario.specs.declared.plan.What.TheVariants.{Reset}
use Rattle.link_run.specs.kept.LaneRuns.{HaveRunLanes}
use Rattle.link_run.proofs.EventLemmas.{after, applied-more, applied-none}
use Rattle.link_run.proofs.events.apply_all.Goals as goal

pub apply-requires : goal.apply-requires
apply-requires c =
    let r = c.requires.ran in
    let i = c.loop-event.event-index in
    let d : Event = record { tick = 0; what = Reset Tx } in
    record {
      ran = (
        r.0,
        λ lane. after (take i c.args.events.now) lane (r.1 lane),
        c.loop-event.invariant.goes_on r.0 r.1 r.2,
        λ lane. r.3 lane,
        r.4 i d c.loop-event-test.true,
      );
    }

pub loop-event-init : goal.loop-event-init
loop-event-init c = applied-none c.args.lanes.now

pub loop-event-preserved : goal.loop-event-preserved
loop-event-preserved c =
    let d : Event = record { tick = 0; what = Reset Tx } in
    applied-more c.args.lanes.now c.loop-event.lanes c.apply.new.lanes c.args.events.now
    c.loop-event.event-index d c.loop-event-test.true
    c.apply.ensures.goes_on c.apply.ensures.at c.apply.ensures.rings c.apply.ensures.count c.loop-event.invariant

pub returns-clause-goes_on : goal.returns-clause-goes_on
returns-clause-goes_on c s runs run =
    let all : take c.loop-event.event-index c.args.events.now ≡ c.args.events.now =
    take_all c.loop-event.event-index c.args.events.now (omega arith) in
    subst (λ es. HaveRunLanes c.loop-event.lanes s (λ lane. after es lane (runs lane))) all
    (c.loop-event.invariant.goes_on s runs run)
