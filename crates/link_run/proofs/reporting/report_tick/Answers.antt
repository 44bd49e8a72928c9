use Rattle.std.proofs.Common.{◌≡◌, ℕ, false, true, ◌+◌, ◌*◌, ◌∙◌, ap, length, map, refl, sym}
use Rattle.link_params.specs.declared.alarms.Device.TheVariants.{Tx, Rx}
use Rattle.link_params.specs.declared.fields.Params.{Params}
use Rattle.link_params.specs.Numbers.{octets_per_tick}
use Rattle.scenario.specs.declared.report_row.Totals.{Totals}
use Rattle.link_model.specs.Report.{bares, decision_rows, off_alarm, totals}
use Rattle.link_model.specs.Sends.{frames_before}
use Rattle.link_run.specs.kept.Gathered.{Whole}
use Rattle.link_run.specs.kept.Printing.{Printing}
use Rattle.link_run.specs.kept.TickCounts.{entered_at, with_alarms, with_marks}
use Rattle.link_run.proofs.FeedLemmas.{same_params, some_plan}
use Rattle.link_run.proofs.HandedRows.{handed-failed, shown-cut, shown-then}
use Rattle.link_run.proofs.TickRows.{Tick, alarm_rows, bare_totals, entered_rows, few-counts, from_alarms, from_decision, from_entries, from_rx_off, from_tx_off, left_rows, reset_rows, seen-counts, seen-rows, seen_counts}
use Rattle.link_run.proofs.reporting.report_tick.Goals as goal

pub returns-in_err-add_reset-clause-handed : goal.returns-in_err-add_reset-clause-handed
returns-in_err-add_reset-clause-handed g c = λ plan h is had at seen.
    let x = c.args.seen.now in
    let alarms = c.args.alarms.now in
    let k : Tick = record {
      s = plan;
      t = c.args.t;
      end = octets_per_tick plan.link.params * (c.args.t + 1);
      n = frames_before h;
      x = x;
      alarms = alarms;
      frames = c.args.frames.now.frames;
      begun = c.args.frames.now.at;
    } in
    let eq = seen-rows k h seen at refl refl in
    handed-failed c.from_residual.result c.from_residual.ensures.0
    (shown-cut c.args.report.now.short (reset_rows k) (from_tx_off k) _ eq c.in_err-add_reset.ensures.handed)

pub returns-in_err-add_off-clause-handed : goal.returns-in_err-add_off-clause-handed
returns-in_err-add_off-clause-handed g c = λ plan h is had at seen.
    let x = c.args.seen.now in
    let alarms = c.args.alarms.now in
    let k : Tick = record {
      s = plan;
      t = c.args.t;
      end = octets_per_tick plan.link.params * (c.args.t + 1);
      n = frames_before h;
      x = x;
      alarms = alarms;
      frames = c.args.frames.now.frames;
      begun = c.args.frames.now.at;
    } in
    let eq = seen-rows k h seen at refl refl in
    handed-failed c.from_residual-in_err-add_off.result c.from_residual-in_err-add_off.ensures.0
    (shown-then {whole = false} c.args.report.now.short c.add_reset.new.report.short (reset_rows k) (from_tx_off k) _
    (ap (λ (r : Printing). r.short) c.in_ok-add_reset.ensures.same) eq
    c.in_ok-add_reset.ensures.handed
    (shown-cut c.add_reset.new.report.short (alarm_rows c.args.t (off_alarm Tx x.tx_off)) (from_rx_off k) _ refl c.in_err-add_off.ensures.handed))

pub returns-in_err-add_off-2-clause-handed : goal.returns-in_err-add_off-2-clause-handed
returns-in_err-add_off-2-clause-handed g c = λ plan h is had at seen.
    let x = c.args.seen.now in
    let alarms = c.args.alarms.now in
    let k : Tick = record {
      s = plan;
      t = c.args.t;
      end = octets_per_tick plan.link.params * (c.args.t + 1);
      n = frames_before h;
      x = x;
      alarms = alarms;
      frames = c.args.frames.now.frames;
      begun = c.args.frames.now.at;
    } in
    let eq = seen-rows k h seen at refl refl in
    handed-failed c.from_residual-in_err-add_off-2.result c.from_residual-in_err-add_off-2.ensures.0
    (shown-then {whole = false} c.args.report.now.short c.add_reset.new.report.short (reset_rows k) (from_tx_off k) _
    (ap (λ (r : Printing). r.short) c.in_ok-add_reset.ensures.same) eq
    c.in_ok-add_reset.ensures.handed
    (shown-then {whole = false} c.add_reset.new.report.short c.add_off.new.report.short (alarm_rows c.args.t (off_alarm Tx x.tx_off)) (from_rx_off k) _
    (ap (λ (r : Printing). r.short) c.in_ok-add_off.ensures.counts) refl
    c.in_ok-add_off.ensures.handed
    (shown-cut c.add_off.new.report.short (alarm_rows c.args.t (off_alarm Rx x.rx_off)) (from_entries k) _ refl c.in_err-add_off-2.ensures.handed)))

pub returns-in_err-add_entries-clause-handed : goal.returns-in_err-add_entries-clause-handed
unfolding totals
returns-in_err-add_entries-clause-handed g c = λ plan h is had at seen.
    let x = c.args.seen.now in
    let alarms = c.args.alarms.now in
    let k : Tick = record {
      s = plan;
      t = c.args.t;
      end = octets_per_tick plan.link.params * (c.args.t + 1);
      n = c.add_off-2.new.report.totals.entered;
      x = x;
      alarms = alarms;
      frames = c.args.frames.now.frames;
      begun = c.args.frames.now.at;
    } in
    let before : c.add_off-2.new.report.totals.entered ≡ frames_before h =
    ap (λ (r : Printing). r.totals.entered) c.in_ok-add_off-2.ensures.counts
    ∙ ap (λ (r : Printing). r.totals.entered) c.in_ok-add_off.ensures.counts
    ∙ ap (λ (r : Printing). r.totals.entered) c.in_ok-add_reset.ensures.same
    ∙ ap (λ (n : Totals). n.entered) had.counts in
    let eq = seen-rows k h seen at refl before in
    handed-failed c.from_residual-in_err-add_entries.result c.from_residual-in_err-add_entries.ensures.0
    (shown-then {whole = false} c.args.report.now.short c.add_reset.new.report.short (reset_rows k) (from_tx_off k) _
    (ap (λ (r : Printing). r.short) c.in_ok-add_reset.ensures.same) eq
    c.in_ok-add_reset.ensures.handed
    (shown-then {whole = false} c.add_reset.new.report.short c.add_off.new.report.short (alarm_rows c.args.t (off_alarm Tx x.tx_off)) (from_rx_off k) _
    (ap (λ (r : Printing). r.short) c.in_ok-add_off.ensures.counts) refl
    c.in_ok-add_off.ensures.handed
    (shown-then {whole = false} c.add_off.new.report.short c.add_off-2.new.report.short (alarm_rows c.args.t (off_alarm Rx x.rx_off)) (from_entries k) _
    (ap (λ (r : Printing). r.short) c.in_ok-add_off-2.ensures.counts) refl
    c.in_ok-add_off-2.ensures.handed
    (shown-cut c.add_off-2.new.report.short (entered_rows k) (from_alarms k) _ refl (c.in_err-add_entries.ensures.handed plan is)))))

pub returns-in_err-add_alarms-clause-handed : goal.returns-in_err-add_alarms-clause-handed
unfolding totals
returns-in_err-add_alarms-clause-handed g c = λ plan h is had at seen.
    let x = c.args.seen.now in
    let alarms = c.args.alarms.now in
    let k : Tick = record {
      s = plan;
      t = c.args.t;
      end = octets_per_tick plan.link.params * (c.args.t + 1);
      n = c.add_off-2.new.report.totals.entered;
      x = x;
      alarms = alarms;
      frames = c.args.frames.now.frames;
      begun = c.args.frames.now.at;
    } in
    let before : c.add_off-2.new.report.totals.entered ≡ frames_before h =
    ap (λ (r : Printing). r.totals.entered) c.in_ok-add_off-2.ensures.counts
    ∙ ap (λ (r : Printing). r.totals.entered) c.in_ok-add_off.ensures.counts
    ∙ ap (λ (r : Printing). r.totals.entered) c.in_ok-add_reset.ensures.same
    ∙ ap (λ (n : Totals). n.entered) had.counts in
    let eq = seen-rows k h seen at refl before in
    handed-failed c.from_residual-in_err-add_alarms.result c.from_residual-in_err-add_alarms.ensures.0
    (shown-then {whole = false} c.args.report.now.short c.add_reset.new.report.short (reset_rows k) (from_tx_off k) _
    (ap (λ (r : Printing). r.short) c.in_ok-add_reset.ensures.same) eq
    c.in_ok-add_reset.ensures.handed
    (shown-then {whole = false} c.add_reset.new.report.short c.add_off.new.report.short (alarm_rows c.args.t (off_alarm Tx x.tx_off)) (from_rx_off k) _
    (ap (λ (r : Printing). r.short) c.in_ok-add_off.ensures.counts) refl
    c.in_ok-add_off.ensures.handed
    (shown-then {whole = false} c.add_off.new.report.short c.add_off-2.new.report.short (alarm_rows c.args.t (off_alarm Rx x.rx_off)) (from_entries k) _
    (ap (λ (r : Printing). r.short) c.in_ok-add_off-2.ensures.counts) refl
    c.in_ok-add_off-2.ensures.handed
    (shown-then {whole = false} c.add_off-2.new.report.short c.add_entries.new.report.short (entered_rows k) (from_alarms k) _
    (c.in_ok-add_entries.ensures.params.1) refl
    (c.in_ok-add_entries.ensures.handed plan is)
    (shown-cut c.add_entries.new.report.short (alarm_rows c.args.t alarms) (from_decision k) _ refl c.in_err-add_alarms.ensures.handed)))))

pub returns-in_err-add_decision-clause-handed : goal.returns-in_err-add_decision-clause-handed
unfolding totals
returns-in_err-add_decision-clause-handed g c = λ plan h is had at seen.
    let x = c.args.seen.now in
    let alarms = c.args.alarms.now in
    let k : Tick = record {
      s = plan;
      t = c.args.t;
      end = octets_per_tick plan.link.params * (c.args.t + 1);
      n = c.add_off-2.new.report.totals.entered;
      x = x;
      alarms = alarms;
      frames = c.args.frames.now.frames;
      begun = c.args.frames.now.at;
    } in
    let before : c.add_off-2.new.report.totals.entered ≡ frames_before h =
    ap (λ (r : Printing). r.totals.entered) c.in_ok-add_off-2.ensures.counts
    ∙ ap (λ (r : Printing). r.totals.entered) c.in_ok-add_off.ensures.counts
    ∙ ap (λ (r : Printing). r.totals.entered) c.in_ok-add_reset.ensures.same
    ∙ ap (λ (n : Totals). n.entered) had.counts in
    let eq = seen-rows k h seen at refl before in
    handed-failed c.from_residual-in_err-add_decision.result c.from_residual-in_err-add_decision.ensures.0
    (shown-then {whole = false} c.args.report.now.short c.add_reset.new.report.short (reset_rows k) (from_tx_off k) _
    (ap (λ (r : Printing). r.short) c.in_ok-add_reset.ensures.same) eq
    c.in_ok-add_reset.ensures.handed
    (shown-then {whole = false} c.add_reset.new.report.short c.add_off.new.report.short (alarm_rows c.args.t (off_alarm Tx x.tx_off)) (from_rx_off k) _
    (ap (λ (r : Printing). r.short) c.in_ok-add_off.ensures.counts) refl
    c.in_ok-add_off.ensures.handed
    (shown-then {whole = false} c.add_off.new.report.short c.add_off-2.new.report.short (alarm_rows c.args.t (off_alarm Rx x.rx_off)) (from_entries k) _
    (ap (λ (r : Printing). r.short) c.in_ok-add_off-2.ensures.counts) refl
    c.in_ok-add_off-2.ensures.handed
    (shown-then {whole = false} c.add_off-2.new.report.short c.add_entries.new.report.short (entered_rows k) (from_alarms k) _
    (c.in_ok-add_entries.ensures.params.1) refl
    (c.in_ok-add_entries.ensures.handed plan is)
    (shown-then {whole = false} c.add_entries.new.report.short c.add_alarms.new.report.short (alarm_rows c.args.t alarms) (from_decision k) _
    (c.in_ok-add_alarms.ensures.params.1) refl
    c.in_ok-add_alarms.ensures.handed
    (shown-cut c.add_alarms.new.report.short (bares (decision_rows c.args.t x.decision)) (left_rows k) _ refl c.in_err-add_decision.ensures.handed))))))

pub add_alarms-requires-clause-shape : goal.add_alarms-requires-clause-shape
add_alarms-requires-clause-shape g c = λ p is.
    let (plan, there) = some_plan c.args.s.now c.requires.link in
    let shape = (c.in_ok-add_entries.ensures.handed plan there).same_shape
    ∙ c.in_ok-add_off-2.ensures.handed.same_shape
    ∙ c.in_ok-add_off.ensures.handed.same_shape
    ∙ c.in_ok-add_reset.ensures.handed.same_shape in
    let params = c.in_ok-add_entries.ensures.params.0
    ∙ ap (λ (r : Printing). r.params) c.in_ok-add_off-2.ensures.counts
    ∙ ap (λ (r : Printing). r.params) c.in_ok-add_off.ensures.counts
    ∙ ap (λ (r : Printing). r.params) c.in_ok-add_reset.ensures.same in
    c.requires.shape p (sym shape ∙ is) ∙ sym params

pub add_decision-requires : goal.add_decision-requires
add_decision-requires g c = record {
  shape = λ p is.
      let (plan, there) = some_plan c.args.s.now c.requires.link in
      let shape = c.in_ok-add_alarms.ensures.handed.same_shape
      ∙ (c.in_ok-add_entries.ensures.handed plan there).same_shape
      ∙ c.in_ok-add_off-2.ensures.handed.same_shape
      ∙ c.in_ok-add_off.ensures.handed.same_shape
      ∙ c.in_ok-add_reset.ensures.handed.same_shape in
      let params = c.in_ok-add_alarms.ensures.params.0
      ∙ c.in_ok-add_entries.ensures.params.0
      ∙ ap (λ (r : Printing). r.params) c.in_ok-add_off-2.ensures.counts
      ∙ ap (λ (r : Printing). r.params) c.in_ok-add_off.ensures.counts
      ∙ ap (λ (r : Printing). r.params) c.in_ok-add_reset.ensures.same in
      c.requires.shape p (sym shape ∙ is) ∙ sym params;
}

pub add_frames-requires-clause-shape : goal.add_frames-requires-clause-shape
add_frames-requires-clause-shape g c = λ p is.
    let (plan, there) = some_plan c.args.s.now c.requires.link in
    let shape = c.in_ok-add_decision.ensures.handed.same_shape
    ∙ c.in_ok-add_alarms.ensures.handed.same_shape
    ∙ (c.in_ok-add_entries.ensures.handed plan there).same_shape
    ∙ c.in_ok-add_off-2.ensures.handed.same_shape
    ∙ c.in_ok-add_off.ensures.handed.same_shape
    ∙ c.in_ok-add_reset.ensures.handed.same_shape in
    let params = ap (λ (r : Printing). r.params) c.in_ok-add_decision.ensures.same
    ∙ c.in_ok-add_alarms.ensures.params.0
    ∙ c.in_ok-add_entries.ensures.params.0
    ∙ ap (λ (r : Printing). r.params) c.in_ok-add_off-2.ensures.counts
    ∙ ap (λ (r : Printing). r.params) c.in_ok-add_off.ensures.counts
    ∙ ap (λ (r : Printing). r.params) c.in_ok-add_reset.ensures.same in
    c.requires.shape p (sym shape ∙ is) ∙ sym params

pub returns-in_err-add_frames-clause-handed : goal.returns-in_err-add_frames-clause-handed
unfolding totals
returns-in_err-add_frames-clause-handed g c = λ plan h is had at seen.
    let x = c.args.seen.now in
    let alarms = c.args.alarms.now in
    let k : Tick = record {
      s = plan;
      t = c.args.t;
      end = c.octets_per_tick.result * (c.args.t + 1);
      n = c.add_off-2.new.report.totals.entered;
      x = x;
      alarms = alarms;
      frames = c.args.frames.now.frames;
      begun = c.args.frames.now.at;
    } in
    let before : c.add_off-2.new.report.totals.entered ≡ frames_before h =
    ap (λ (r : Printing). r.totals.entered) c.in_ok-add_off-2.ensures.counts
    ∙ ap (λ (r : Printing). r.totals.entered) c.in_ok-add_off.ensures.counts
    ∙ ap (λ (r : Printing). r.totals.entered) c.in_ok-add_reset.ensures.same
    ∙ ap (λ (n : Totals). n.entered) had.counts in
    let past = ap (λ (n : ℕ). n * (c.args.t + 1)) (c.octets_per_tick.ensures.value
    ∙ ap octets_per_tick (sym (same_params c.args.s.now plan is))) in
    let eq = seen-rows k h seen at past before in
    handed-failed c.from_residual-in_err-add_frames.result
    c.from_residual-in_err-add_frames.ensures.0
    (shown-then {whole = false} c.args.report.now.short c.add_reset.new.report.short (reset_rows k) (from_tx_off k) _
    (ap (λ (r : Printing). r.short) c.in_ok-add_reset.ensures.same) eq
    c.in_ok-add_reset.ensures.handed
    (shown-then {whole = false} c.add_reset.new.report.short c.add_off.new.report.short (alarm_rows c.args.t (off_alarm Tx x.tx_off)) (from_rx_off k) _
    (ap (λ (r : Printing). r.short) c.in_ok-add_off.ensures.counts) refl
    c.in_ok-add_off.ensures.handed
    (shown-then {whole = false} c.add_off.new.report.short c.add_off-2.new.report.short (alarm_rows c.args.t (off_alarm Rx x.rx_off)) (from_entries k) _
    (ap (λ (r : Printing). r.short) c.in_ok-add_off-2.ensures.counts) refl
    c.in_ok-add_off-2.ensures.handed
    (shown-then {whole = false} c.add_off-2.new.report.short c.add_entries.new.report.short (entered_rows k) (from_alarms k) _
    (c.in_ok-add_entries.ensures.params.1) refl
    (c.in_ok-add_entries.ensures.handed plan is)
    (shown-then {whole = false} c.add_entries.new.report.short c.add_alarms.new.report.short (alarm_rows c.args.t alarms) (from_decision k) _
    (c.in_ok-add_alarms.ensures.params.1) refl
    c.in_ok-add_alarms.ensures.handed
    (shown-then {whole = false} c.add_alarms.new.report.short c.add_decision.new.report.short (bares (decision_rows c.args.t x.decision)) (left_rows k) _
    (ap (λ (r : Printing). r.short) c.in_ok-add_decision.ensures.same) refl
    c.in_ok-add_decision.ensures.handed
    (c.in_err-add_frames.ensures.handed plan is)))))))

pub returns-clause-handed : goal.returns-clause-handed
unfolding totals
returns-clause-handed g c = λ plan h is had at seen.
    let x = c.args.seen.now in
    let alarms = c.args.alarms.now in
    let k : Tick = record {
      s = plan;
      t = c.args.t;
      end = c.octets_per_tick.result * (c.args.t + 1);
      n = c.add_off-2.new.report.totals.entered;
      x = x;
      alarms = alarms;
      frames = c.args.frames.now.frames;
      begun = c.args.frames.now.at;
    } in
    let before : c.add_off-2.new.report.totals.entered ≡ frames_before h =
    ap (λ (r : Printing). r.totals.entered) c.in_ok-add_off-2.ensures.counts
    ∙ ap (λ (r : Printing). r.totals.entered) c.in_ok-add_off.ensures.counts
    ∙ ap (λ (r : Printing). r.totals.entered) c.in_ok-add_reset.ensures.same
    ∙ ap (λ (n : Totals). n.entered) had.counts in
    let past = ap (λ (n : ℕ). n * (c.args.t + 1)) (c.octets_per_tick.ensures.value
    ∙ ap octets_per_tick (sym (same_params c.args.s.now plan is))) in
    let eq = seen-rows k h seen at past before in
    shown-then {whole = true} c.args.report.now.short c.add_reset.new.report.short (reset_rows k) (from_tx_off k) _
    (ap (λ (r : Printing). r.short) c.in_ok-add_reset.ensures.same) eq
    c.in_ok-add_reset.ensures.handed
    (shown-then {whole = true} c.add_reset.new.report.short c.add_off.new.report.short (alarm_rows c.args.t (off_alarm Tx x.tx_off)) (from_rx_off k) _
    (ap (λ (r : Printing). r.short) c.in_ok-add_off.ensures.counts) refl
    c.in_ok-add_off.ensures.handed
    (shown-then {whole = true} c.add_off.new.report.short c.add_off-2.new.report.short (alarm_rows c.args.t (off_alarm Rx x.rx_off)) (from_entries k) _
    (ap (λ (r : Printing). r.short) c.in_ok-add_off-2.ensures.counts) refl
    c.in_ok-add_off-2.ensures.handed
    (shown-then {whole = true} c.add_off-2.new.report.short c.add_entries.new.report.short (entered_rows k) (from_alarms k) _
    (c.in_ok-add_entries.ensures.params.1) refl
    (c.in_ok-add_entries.ensures.handed plan is)
    (shown-then {whole = true} c.add_entries.new.report.short c.add_alarms.new.report.short (alarm_rows c.args.t alarms) (from_decision k) _
    (c.in_ok-add_alarms.ensures.params.1) refl
    c.in_ok-add_alarms.ensures.handed
    (shown-then {whole = true} c.add_alarms.new.report.short c.add_decision.new.report.short (bares (decision_rows c.args.t x.decision)) (left_rows k) _
    (ap (λ (r : Printing). r.short) c.in_ok-add_decision.ensures.same) refl
    c.in_ok-add_decision.ensures.handed
    (c.in_ok-add_frames.ensures.handed plan is))))))

pub returns-clause-counts : goal.returns-clause-counts
unfolding seen_counts
returns-clause-counts g c = λ plan h is had at seen.
    let x = c.args.seen.now in
    let t = c.args.t in
    let alarms = c.args.alarms.now in
    let frames = c.args.frames.now.frames in
    let p = c.args.s.now.shape in
    let of : Printing → Totals = λ r. r.totals in
    let tx = length (off_alarm Tx x.tx_off) in
    let rx = length (off_alarm Rx x.rx_off) in
    let begun = length (entered_at p t x.place) in
    let offs = ap of c.in_ok-add_off-2.ensures.counts ∙ ap (λ n. with_alarms n rx)
    (ap of c.in_ok-add_off.ensures.counts ∙ ap (λ n. with_alarms n tx)
    (ap of c.in_ok-add_reset.ensures.same)) in
    let entered = ap of c.in_ok-add_entries.ensures.counts
    ∙ ap (λ (n : Totals). let m : Totals = record n { entered = n.entered + begun } in m) offs in
    let raised = ap of c.in_ok-add_alarms.ensures.counts
    ∙ ap (λ n. with_alarms n (length alarms)) entered in
    let left = ap of c.in_ok-add_frames.ensures.counts
    ∙ ap (λ n. with_marks n (map (λ (f : Whole). f.mark) frames))
    (ap of c.in_ok-add_decision.ensures.same ∙ raised) in
    let all : c.tick.new.self.totals ≡ seen_counts x alarms frames p t c.args.report.now.totals =
    ap of c.tick.ensures
    ∙ ap (λ (n : Totals). let m : Totals = record n { ticks = n.ticks + 1 } in m) left in
    record {
      counts = all
          ∙ ap (seen_counts x alarms frames p t) had.counts
          ∙ ap (λ (q : Params). seen_counts x alarms frames q t (bare_totals plan h))
          (sym (same_params c.args.s.now plan is))
          ∙ seen-counts x alarms frames c.args.frames.now.at plan h t seen at;
    }

pub returns-clause-few : goal.returns-clause-few
unfolding seen_counts
returns-clause-few g c =
    let x = c.args.seen.now in
    let t = c.args.t in
    let alarms = c.args.alarms.now in
    let frames = c.args.frames.now.frames in
    let p = c.args.s.now.shape in
    let of : Printing → Totals = λ r. r.totals in
    let tx = length (off_alarm Tx x.tx_off) in
    let rx = length (off_alarm Rx x.rx_off) in
    let begun = length (entered_at p t x.place) in
    let offs = ap of c.in_ok-add_off-2.ensures.counts ∙ ap (λ n. with_alarms n rx)
    (ap of c.in_ok-add_off.ensures.counts ∙ ap (λ n. with_alarms n tx)
    (ap of c.in_ok-add_reset.ensures.same)) in
    let entered = ap of c.in_ok-add_entries.ensures.counts
    ∙ ap (λ (n : Totals). let m : Totals = record n { entered = n.entered + begun } in m) offs in
    let raised = ap of c.in_ok-add_alarms.ensures.counts
    ∙ ap (λ n. with_alarms n (length alarms)) entered in
    let left = ap of c.in_ok-add_frames.ensures.counts
    ∙ ap (λ n. with_marks n (map (λ (f : Whole). f.mark) frames))
    (ap of c.in_ok-add_decision.ensures.same ∙ raised) in
    let all : c.tick.new.self.totals ≡ seen_counts x alarms frames p t c.args.report.now.totals =
    ap of c.tick.ensures
    ∙ ap (λ (n : Totals). let m : Totals = record n { ticks = n.ticks + 1 } in m) left in
    rw all (few-counts x alarms frames p t c.args.report.now.totals c.requires.few
    c.in_ok-add_off.ensures.few c.in_ok-add_off-2.ensures.few c.in_ok-add_entries.ensures.few
    c.requires.alarms c.in_ok-add_frames.ensures.few)
