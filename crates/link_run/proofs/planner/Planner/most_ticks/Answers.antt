use Rattle.std.proofs.Common.{◌∙◌, ◌+◌, arith, sym, ap}
use Rattle.link_params.specs.declared.alarms.Device.TheVariants.{Tx}
use Rattle.scenario.specs.declared.plan.Event.{Event}
use Rattle.scenario.specs.declared.plan.What.TheVariants.{Reset}
use Rattle.link_run.proofs.EventLemmas.{plan-ascends}
use Rattle.link_run.proofs.LaneStates.{plan-there}
use Rattle.link_run.proofs.PlanFacts.{plan-facts}
use Rattle.link_run.proofs.PlanSteps.{got-calm, got-later}
use Rattle.link_run.proofs.planner.Planner.most_ticks.Goals as goal

pub overflow_sub-result : goal.overflow_sub-result
overflow_sub-result c =
    let (s, is) = plan-there c.args.s.now c.args.self.now.link c.requires.link in
    let at = c.in-Some.ensures.lookup in
    let later = got-later s c.as_slice.result.now c.self.inside.next c.args.t c.in-Some.event.now
    (c.as_slice.ensures.value ∙ sym (plan-facts c.args.s.now s is).events)
    (ap (λ v. v.next) c.self.view_is ∙ c.requires.next s is) (plan-ascends c.args.s.now s is)
    at.3.0 at.1 in
    omega arith

pub returns-in-Some-clause-some : goal.returns-in-Some-clause-some
returns-in-Some-clause-some c =
    let (s, is) = plan-there c.args.s.now c.args.self.now.link c.requires.link in
    let at = c.in-Some.ensures.lookup in
    let later = got-later s c.as_slice.result.now c.self.inside.next c.args.t c.in-Some.event.now
    (c.as_slice.ensures.value ∙ sym (plan-facts c.args.s.now s is).events)
    (ap (λ v. v.next) c.self.view_is ∙ c.requires.next s is) (plan-ascends c.args.s.now s is)
    at.3.0 at.1 in
    omega arith

pub returns-in-Some-clause-calm : goal.returns-in-Some-clause-calm
returns-in-Some-clause-calm c = λ s is i some below.
    let at = c.in-Some.ensures.lookup in
    let tick = ap (λ (x : Event). x.tick) at.1 in
    got-calm s c.as_slice.result.now c.self.inside.next c.args.t c.in-Some.event.now.tick i
    c.in-Some.event.now (c.as_slice.ensures.value ∙ sym (plan-facts c.args.s.now s is).events)
    (ap (λ v. v.next) c.self.view_is ∙ c.requires.next s is) (plan-ascends c.args.s.now s is)
    (λ inside. omega arith) some (omega arith)

pub returns-in-None-clause-calm : goal.returns-in-None-clause-calm
returns-in-None-clause-calm c = λ s is i some below.
    let past = c.in-None.ensures.lookup.3 in
    let any : Event = record { tick = 0; what = Reset Tx } in
    got-calm s c.as_slice.result.now c.self.inside.next c.args.t (c.args.t + i + 1) i any
    (c.as_slice.ensures.value ∙ sym (plan-facts c.args.s.now s is).events)
    (ap (λ v. v.next) c.self.view_is ∙ c.requires.next s is) (plan-ascends c.args.s.now s is)
    (λ inside. absurd (omega arith)) some (omega arith)
