use Rattle.std.proofs.Common.{◌≡◌, ◌∙◌, false, sym, ap}
use Rattle.link_run.specs.kept.Printing.{Printing}
use Rattle.link_run.proofs.HandedRows.{handed-row, handed-shown}
use Rattle.link_run.proofs.report.Report.row.Goals as goal

pub returns-else-self : goal.returns-else-self
returns-else-self g c =
    let short : c.args.self.now.short ≡ false =
    sym (ap (λ (v : Printing). v.short) c.self.view_is) ∙ c.if-self.false in
    let row = c.row.ensures in
    record {
      handed = handed-shown c.args.self.now.short _ short
          (handed-row _ _ _ c.row.result row.took row.nothing row.failed row.count row.shape);
    }
