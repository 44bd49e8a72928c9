use Rattle.std.proofs.Common.{◌≡◌, false, true, ◌+◌, ◌∷◌, [], drop, take, refl, arith, ap, sym}
use Rattle.scenario.specs.declared.report_row.Row.TheVariants as row
use Rattle.link_model.specs.Report.{bare}
use Rattle.link_run.specs.kept.Printing.{Printing}
use Rattle.link_run.proofs.HandedRows.{handed-failed, shown-cut, shown-then}
use Rattle.link_run.proofs.TickRows.{alarm-rows-more, alarm-rows-rest, alarm_rows}
use Rattle.link_run.proofs.reporting.add_alarms.Goals as goal

pub returns-in_err-alarm-clause-handed : goal.returns-in_err-alarm-clause-handed
returns-in_err-alarm-clause-handed g c =
    let short = c.args.report.now.short in
    let same = ap (λ (v : Printing). v.short) c.loop-i.invariant.counts in
    let alarms = c.args.alarms.now in
    let i = c.loop-i.i in
    let t = c.args.t in
    handed-failed c.from_residual.result c.from_residual.ensures.0
    (shown-cut short (alarm_rows t (take (i + 1) alarms)) (alarm_rows t (drop (i + 1) alarms)) _
    (alarm-rows-rest alarms t (i + 1))
    (shown-then {whole = false} short c.loop-i.report.short (alarm_rows t (take i alarms))
    (bare (row.Alarm t c.get.result) ∷ []) _ same
    (sym (alarm-rows-more alarms [] t i c.get.result c.get.ensures))
    c.loop-i.invariant.handed c.in_err-alarm.ensures.handed))

pub loop-i-preserved : goal.loop-i-preserved
loop-i-preserved g c = record {
  end = c.loop-i.invariant.end;
  within = (let below = c.loop-i-test.true in omega arith);
  counts =
      let had = c.loop-i.invariant.counts in
      let n = c.args.report.now.totals.alarms in
      let sum : n + c.loop-i.i + 1 ≡ n + (c.loop-i.i + 1) = omega arith in
      rw (c.in_ok-alarm.ensures.counts, had, sum) refl;
  handed =
      let short = c.args.report.now.short in
      let same = ap (λ (v : Printing). v.short) c.loop-i.invariant.counts in
      let alarms = c.args.alarms.now in
      let i = c.loop-i.i in
      let t = c.args.t in
      shown-then {whole = true} short c.loop-i.report.short (alarm_rows t (take i alarms))
      (bare (row.Alarm t c.get.result) ∷ []) _ same
      (sym (alarm-rows-more alarms [] t i c.get.result c.get.ensures))
      c.loop-i.invariant.handed c.in_ok-alarm.ensures.handed;
}
