use Rattle.std.proofs.Common.{◌∙◌, Some, sym, ap}
use Rattle.link_params.specs.Links.{Link}
use Rattle.link_run.specs.kept.Printing.{Printing}
use Rattle.link_run.proofs.SegmentFacts.{have-run}
use Rattle.link_run.proofs.bench.Bench.open.Goals as goal

pub invariant_of-result : goal.invariant_of-result
invariant_of-result c =
    let report = c.in_ok-report.ensures in (
      c.in-Some.is ∙ ap (λ (k : Link). Some k) (sym c.in_ok-state.ensures.same),
      c.requires.workers,
      λ _. (
        ap (λ (r : Printing). r.params) report,
        ap (λ (r : Printing). r.totals) report,
        c.in_ok-lines.ensures.room,
        c.in_ok-lines.ensures.empty,
        c.in_ok-state.ensures.stands,
      ),
    )

pub returns-clause-new : goal.returns-clause-new
returns-clause-new c = λ plan is.
    let stands = c.in_ok-state.ensures.stands plan is in
    have-run _ plan 0 stands.ran stands.cells
