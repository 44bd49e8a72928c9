use Rattle.std.proofs.Common.{◌≡◌, ◌∙◌, List, sym, ap, subst}
use Rattle.std.proofs.lemmas.List.{with_items_is}
use Rattle.std.specs.Vec.{with_items}
use Rattle.lane_threads.specs.declared.cell_end.CellEnd.{CellEnd}
use Rattle.link_run.specs.kept.Collected.{Collecting}
use Rattle.link_run.specs.kept.Ends.{HaveCells}
use Rattle.link_run.proofs.collector.Collector.meet.Goals as goal

pub returns-clause-knows : goal.returns-clause-knows
returns-clause-knows c = λ s t n rings cells.
    let was : c.as_mut_slice.result.now ≡ c.args.self.now.ends =
    c.as_mut_slice.ensures.value ∙ ap (λ (v : Collecting). v.ends) c.self.view_is in
    let now : (with_items c.self.inside.ends c.meet.new.ends).items ≡ c.meet.new.ends =
    with_items_is c.self.inside.ends c.meet.new.ends
    (c.meet.auto.ends ∙ c.as_mut_slice.ensures.len) in
    subst (λ (ends : List CellEnd). HaveCells ends s t n) (sym now)
    (c.meet.ensures.knows s t n rings
    (subst (λ (ends : List CellEnd). HaveCells ends s t 0) (sym was) cells))
