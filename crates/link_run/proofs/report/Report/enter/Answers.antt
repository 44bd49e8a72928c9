use Rattle.std.proofs.Common.{◌∙◌, false, if◌then◌else◌, sym, ap}
use Rattle.link_model.specs.Report.{prints_all}
use Rattle.link_run.specs.kept.Printing.{Printing}
use Rattle.link_run.proofs.HandedRows.{handed-none, handed-same, shown-not}
use Rattle.link_run.proofs.report.Report.enter.Goals as goal

pub returns-else-prints_entries-clause-handed : goal.returns-else-prints_entries-clause-handed
returns-else-prints_entries-clause-handed g c = λ plan is.
    let printed = sym (c.prints_entries.ensures plan is) ∙ c.if-prints_entries.false in
    handed-same _ _ (sym (shown-not c.args.self.now.short (prints_all plan.print) _
    (ap (λ (v : Printing). if v.short then false else prints_all plan.print) (sym c.self.view_is)
    ∙ printed))) (handed-none _)
