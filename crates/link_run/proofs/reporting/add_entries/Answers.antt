use Rattle.std.proofs.Common.{◌+◌, ◌*◌, ◌∙◌, [], if◌then◌else◌, Some, ap, arith}
use Rattle.std.proofs.lemmas.List.{length-map}
use Rattle.link_params.specs.Numbers.{octets_per_tick}
use Rattle.link_model.specs.Report.{enter_rows, prints_all}
use Rattle.link_model.specs.Sends.{beginnings}
use Rattle.link_run.specs.kept.TickCounts.{entered_at}
use Rattle.link_run.proofs.HandedRows.{shown-none}
use Rattle.link_run.proofs.TickRows.{few-entered-at, none-printed}
use Rattle.link_run.proofs.reporting.add_entries.Goals as goal

pub returns-in_default-clause-handed : goal.returns-in_default-clause-handed
unfolding enter_rows
returns-in_default-clause-handed g c = λ plan is.
    shown-none _ c.args.report.now.short _ (ap (λ o. if prints_all plan.print then enter_rows plan
    c.args.report.now.totals.entered (entered_at plan.link.params c.args.t o) else [])
    c.in_default.is ∙ none-printed (prints_all plan.print))

pub count_entries-requires : goal.count_entries-requires
count_entries-requires g c =
    let p = c.args.s.now.shape in
    let t = c.args.t in
    let place = c.in-Some.place in
    let few = few-entered-at p t (Some place) in
    let long = length-map (beginnings p (Some place)) (λ j. octets_per_tick p * t + j) in
    let many = c.entries_at.ensures in
    let room = c.requires.count in
    record { count = omega arith }

pub returns-then-prints_entries-clause-few : goal.returns-then-prints_entries-clause-few
returns-then-prints_entries-clause-few g c =
    few-entered-at c.args.s.now.shape c.args.t c.args.place

pub returns-else-prints_entries-clause-few : goal.returns-else-prints_entries-clause-few
returns-else-prints_entries-clause-few g c =
    few-entered-at c.args.s.now.shape c.args.t c.args.place
