use Rattle.std.proofs.Common.{◌∙◌, Some, sym, ap}
use Rattle.link_params.specs.Links.{Link}
use Rattle.scenario.specs.Plans.{plan_of}
use Rattle.link_run.specs.Ran.{BenchView}
use Rattle.link_run.specs.kept.Printing.{Printing}
use Rattle.link_run.proofs.SegmentFacts.{have-run}
use Rattle.link_run.proofs.WrittenRows.{alarms-of, handed-as, on-ok}
use Rattle.link_run.proofs.bench.Bench.play.Goals as goal

pub run-requires-clause-stands : goal.run-requires-clause-stands
run-requires-clause-stands g c κs within =
    (c.self.invariant.2 (ap (λ (b : BenchView). b.ran) c.self.view_is ∙ c.requires.fresh)).4

pub run-requires-clause-shape : goal.run-requires-clause-shape
run-requires-clause-shape g c κs within = λ p is.
    let fresh = c.self.invariant.2
    (ap (λ (b : BenchView). b.ran) c.self.view_is ∙ c.requires.fresh) in
    c.requires.shape p is ∙ sym (ap (λ (b : BenchView). b.scenario.shape) c.self.view_is)
    ∙ sym fresh.0 ∙ sym (ap (λ (r : Printing). r.params) c.set_short.ensures)

pub invariant_of-self : goal.invariant_of-self
invariant_of-self g c = (
  c.self.invariant.0 ∙ ap (λ (k : Link). Some k) (sym c.run.ensures.same),
  c.self.invariant.1,
  λ bad. absurd (cc bad),
)

pub returns-clause-handed : goal.returns-clause-handed
returns-clause-handed g c = λ plan is.
    let of = ap (λ (b : BenchView). plan_of b.scenario) c.self.view_is ∙ is in
    handed-as c.args.rows.now c.run.new.rows plan _ _ _ _ c.outcome.ensures.whole
    (ap (λ (r : Printing). r.short) c.set_short.ensures) (c.run.ensures.handed plan of)

pub returns-clause-alarms : goal.returns-clause-alarms
returns-clause-alarms g c = λ plan is.
    let of = ap (λ (b : BenchView). plan_of b.scenario) c.self.view_is ∙ is in
    alarms-of c.run.result c.outcome.result _ c.outcome.ensures.whole c.outcome.ensures.alarms
    (c.run.ensures.totals plan of)

pub returns-clause-lanes : goal.returns-clause-lanes
returns-clause-lanes g c = λ plan is whole.
    let of = ap (λ (b : BenchView). plan_of b.scenario) c.self.view_is ∙ is in
    let ran = on-ok c.run.result (c.run.ensures.ran plan of) (sym c.outcome.ensures.whole ∙ whole) in
    have-run _ plan plan.ticks ran.ran ran.cells
