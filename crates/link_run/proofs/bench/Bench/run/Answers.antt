use Rattle.std.proofs.Common.{◌∙◌, false, is_ok, refl, sym, subst, ap, arith}
use Rattle.scenario.specs.Plans.{plan_of}
use Rattle.link_run.specs.Ran.{BenchView}
use Rattle.link_run.specs.Rows.{HasWritten, is_whole, rows_handed}
use Rattle.link_run.specs.kept.Lines.{Writing}
use Rattle.link_run.specs.kept.Printing.{Printing}
use Rattle.link_run.proofs.SegmentFacts.{have-run}
use Rattle.link_run.proofs.TakenRows.{took-none}
use Rattle.link_run.proofs.WrittenRows.{Begins, IsFlushed, WasTaken, alarms-of, done-whole, handed-as, has-plan, has-written, on-err, on-ok, took-since, took-some, written-as}
use Rattle.link_run.proofs.bench.Bench.run.Goals as goal

pub run-ran-requires-clause-stands : goal.run-ran-requires-clause-stands
run-ran-requires-clause-stands g c κs within =
    (c.self.invariant.2 (ap (λ (b : BenchView). b.ran) c.self.view_is ∙ c.requires.fresh)).4

pub shape_of-self-inside : goal.shape_of-self-inside
shape_of-self-inside g c =
    let fresh = c.self.invariant.2
    (ap (λ (b : BenchView). b.ran) c.self.view_is ∙ c.requires.fresh) in
    let p = has-plan c.self.inside.scenario c.self.inside.state.link c.self.invariant.0 in
    let some = took-some _ _ _ _ (took-since _ _ _ _ (c.run-ran.ensures.handed p.plan p.is)
    (refl, refl, took-none _ fresh.3 refl)) in
    sym (c.flush.ensures.names.0 ∙ some.taken.0)

pub returns-clause-written : goal.returns-clause-written
returns-clause-written g c = λ plan is.
    let fresh = c.self.invariant.2
    (ap (λ (b : BenchView). b.ran) c.self.view_is ∙ c.requires.fresh) in
    let of = ap (λ (b : BenchView). plan_of b.scenario) c.self.view_is ∙ is in
    let now = c.run-ran.new.rows in
    let after = c.flush.new.self.out.now in
    let start : Writing = record {
      scenario = c.self.inside.scenario;
      bytes = c.self.inside.lines.bytes;
      written = g.K.Sink.written c.args.out.now;
      failed = false;
      faults = g.K.Sink.faults c.args.out.now;
    } in
    let ran : Writing = record {
      scenario = now.s.now;
      bytes = now.lines.now.bytes;
      written = g.K.Sink.written now.out.now;
      failed = now.failed;
      faults = g.K.Sink.faults now.out.now;
    } in
    let begins : Begins start plan = record { empty = fresh.3; fine = refl; plan = of } in
    let handed = handed-as _ _ plan _ _ _ _ c.outcome.ensures.whole
    (ap (λ (r : Printing). r.short) c.set_short.ensures) (c.run-ran.ensures.handed plan of) in
    let since = took-since _ _ _ _ handed (refl, refl, took-none _ fresh.3 refl) in
    let taken : WasTaken start ran (is_whole c.outcome.result) (rows_handed plan c.args.short) =
    record {
      all = λ whole. (since.all whole).2;
      prefix = λ whole. ((since.prefix whole).count, (since.prefix whole).part.2);
      rose = handed.failed;
    } in
    let e = c.flush.ensures in
    let r = c.flush.result in
    let flushed : IsFlushed ran (g.K.Sink.written after) (g.K.Sink.faults after) (is_ok r) = record {
      fine = λ ok. (on-ok r e.fine ok).0;
      all = λ ok. on-ok r e.all ok;
      prefix = λ bad fine. on-err r (e.prefix fine) bad;
      rose = λ bad fine. on-err r (e.rose fine) bad;
      kept = λ bad. ap (λ x. g.K.Sink.written x.out.now) (e.kept bad);
      count = e.count;
    } in
    let alarms = alarms-of c.run-ran.result c.outcome.result _ c.outcome.ensures.whole
    c.outcome.ensures.alarms (c.run-ran.ensures.totals plan of) in
    let written = written-as c.status.result c.outcome.result (is_ok r) plan c.args.short
    start.written (g.K.Sink.written after) start.faults (g.K.Sink.faults after) c.status.ensures
    (has-written c.outcome.result (is_ok r) plan c.args.short start ran (g.K.Sink.written after)
    (g.K.Sink.faults after) alarms begins taken flushed) in
    let some = took-some _ _ _ _ (took-since _ _ _ _ (c.run-ran.ensures.handed plan of)
    (refl, refl, took-none _ fresh.3 refl)) in
    let last = c.out-1.given.1 (sym (c.flush.ensures.names.1 ∙ some.taken.1)) in
    subst (λ k. HasWritten c.status.result plan c.args.short start.written (g.K.Sink.written k)
    start.faults (g.K.Sink.faults k)) (sym last) written

pub returns-clause-count : goal.returns-clause-count
returns-clause-count g c =
    let fresh = c.self.invariant.2
    (ap (λ (b : BenchView). b.ran) c.self.view_is ∙ c.requires.fresh) in
    let p = has-plan c.self.inside.scenario c.self.inside.state.link c.self.invariant.0 in
    let handed = c.run-ran.ensures.handed p.plan p.is in
    let some = took-some _ _ _ _ (took-since _ _ _ _ handed (refl, refl, took-none _ fresh.3 refl)) in
    let last = c.out-1.given.1 (sym (c.flush.ensures.names.1 ∙ some.taken.1)) in
    let faults = ap (λ k. g.K.Sink.faults k) last in
    omega (arith, handed.count, c.flush.ensures.count, faults)

pub returns-clause-lanes : goal.returns-clause-lanes
returns-clause-lanes g c = λ plan is done.
    let of = ap (λ (b : BenchView). plan_of b.scenario) c.self.view_is ∙ is in
    let whole = done-whole c.status.result c.outcome.result (is_ok c.flush.result) c.status.ensures
    done in
    let ran = on-ok c.run-ran.result (c.run-ran.ensures.ran plan of)
    (sym c.outcome.ensures.whole ∙ whole) in
    have-run _ plan plan.ticks ran.ran ran.cells
