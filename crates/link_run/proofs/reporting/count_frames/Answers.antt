use Rattle.std.proofs.Common.{◌∙◌, ℕ, ◌-◌, ap, arith}
use Rattle.scenario.specs.declared.report_row.Totals.{Totals}
use Rattle.link_run.specs.kept.Printing.{Printing, counted_marks}
use Rattle.link_run.proofs.TickRows.{marks-counted}
use Rattle.link_run.proofs.reporting.count_frames.Goals as goal

pub returns-then-whole-gt0-clause-counts : goal.returns-then-whole-gt0-clause-counts
returns-then-whole-gt0-clause-counts c =
    let r = c.args.report.now in
    let first = c.marks-first.result.0 in
    let others = c.marks-first.result.1 in
    let count = c.whole-whole.ensures.count in
    let some = c.if-whole-gt0.true in
    c.count-then-whole-gt0.ensures
    ∙ ap (λ (v : Printing). let w : Printing = record v {
      totals = counted_marks v.totals others (c.whole-whole.result - 1);
    } in w) c.count.ensures
    ∙ ap (λ (n : Totals). let w : Printing = record r { totals = n } in w)
    (ap (λ (k : ℕ). counted_marks (counted_marks r.totals first 1) others (k - 1)) count
    ∙ marks-counted r.totals c.args.frames.now.frames first others c.marks-first.ensures
    (omega arith))
