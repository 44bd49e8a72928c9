use Rattle.std.proofs.Common.{◌≡◌, ◌∙◌, ap}
use Rattle.std.proofs.lemmas.List.{with_items_is}
use Rattle.std.specs.Vec.{with_items}
use Rattle.link_run.specs.kept.Collected.{Collecting}
use Rattle.link_run.proofs.collector.CollectorSide.run.Goals as goal

pub returns : goal.returns
returns c =
    let waits : (with_items c.self.inside.waiting c.fill_each.new.waiting).items
    ≡ c.fill_each.new.waiting =
    with_items_is c.self.inside.waiting c.fill_each.new.waiting
    (c.fill_each.auto.waiting ∙ c.as_mut_slice-waiting.ensures.len) in
    let ends : (with_items c.self.inside.ends c.fill_each.new.ends).items ≡ c.fill_each.new.ends =
    with_items_is c.self.inside.ends c.fill_each.new.ends
    (c.fill_each.auto.ends ∙ c.as_mut_slice-ends.ensures.len) in
    let old_waits : c.as_mut_slice-waiting.result.now ≡ c.args.self.now.waiting =
    c.as_mut_slice-waiting.ensures.value ∙ ap (λ (v : Collecting). v.waiting) c.self.view_is in
    let old_ends : c.as_mut_slice-ends.result.now ≡ c.args.self.now.ends =
    c.as_mut_slice-ends.ensures.value ∙ ap (λ (v : Collecting). v.ends) c.self.view_is in
    let old_route : c.as_slice.result.now ≡ c.args.self.now.route =
    c.as_slice.ensures.value ∙ ap (λ (v : Collecting). v.route) c.self.view_is in (
      ap (λ (v : Collecting). record {
        ends = (with_items c.self.inside.ends c.fill_each.new.ends).items;
        route = v.route;
        waiting = (with_items c.self.inside.waiting c.fill_each.new.waiting).items;
        lead = v.lead;
        ahead = v.ahead;
        gathering = v.gathering;
      }) c.self.view_is,
      rw (waits, ends, ← old_waits, ← old_ends, ← old_route) c.fill_each.ensures,
    )
