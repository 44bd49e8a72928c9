use Rattle.std.proofs.Common.{◌≡◌, ◌+◌, arith, inl, inr}
use Rattle.std.proofs.lemmas.Bool.{cases_lt}
use Rattle.link_params.specs.declared.alarms.Device.TheVariants.{Tx}
use Rattle.scenario.specs.declared.plan.Event.{Event}
use Rattle.scenario.specs.declared.plan.What.TheVariants.{Reset}
use Rattle.link_run.proofs.EventLemmas.{passed, ascending, before-passed, from-passed, passed-le, passed-more}
use Rattle.link_run.proofs.events.end_of.Goals as goal

pub loop-end-init : goal.loop-end-init
loop-end-init c =
    let more = passed-more c.args.events.now 0 c.args.t
    (ascending c.args.events.now c.requires.ordered) in
    let from : c.args.from ≡ passed c.args.t c.args.events.now = c.requires.from in
    (omega arith, omega arith)

pub loop-end-preserved : goal.loop-end-preserved
loop-end-preserved c =
    let xs = c.args.events.now in
    let t = c.args.t in
    let d : Event = record { tick = 0; what = Reset Tx } in
    let low = c.loop-end.invariant.0 in
    let high = c.loop-end.invariant.1 in
    let here = c.if-events-end.true in
    elim (cases_lt c.loop-end.end (passed (t + 1) xs)) [
      | inl before ↦ (omega arith, omega arith)
      | inr past ↦
          let late = from-passed xs 0 (t + 1) c.loop-end.end d (ascending xs c.requires.ordered)
          past c.loop-end-test.true in
          absurd (omega arith)
    ]

pub returns-else-events-end-clause-end : goal.returns-else-events-end-clause-end
returns-else-events-end-clause-end c =
    let xs = c.args.events.now in
    let t = c.args.t in
    let d : Event = record { tick = 0; what = Reset Tx } in
    let up = ascending xs c.requires.ordered in
    let low = c.loop-end.invariant.0 in
    let high = c.loop-end.invariant.1 in
    elim (cases_lt c.loop-end.end (passed (t + 1) xs)) [
      | inl before ↦
          let all = passed-le xs 0 (t + 1) up in
          let early = before-passed xs 0 (t + 1) c.loop-end.end d up before in
          let late = from-passed xs 0 t c.loop-end.end d up low (omega arith) in
          absurd (c.if-events-end.false (omega arith))
      | inr past ↦ omega arith
    ]

pub returns-else-events-end-clause-within : goal.returns-else-events-end-clause-within
returns-else-events-end-clause-within c =
    let high = c.loop-end.invariant.1 in
    let all = passed-le c.args.events.now 0 (c.args.t + 1)
    (ascending c.args.events.now c.requires.ordered) in
    omega arith
