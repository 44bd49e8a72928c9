use Rattle.std.proofs.Common.{List, ◌∙◌, ap, ap₂, fold, map, max, refl, sym}
use Rattle.std.proofs.lemmas.List.{take_all}
use Rattle.lane_threads.specs.declared.lane_pair.LanePair.{LanePair}
use Rattle.link_run.proofs.LaneLemmas.{fullest-more, fullest_in}
use Rattle.link_run.proofs.lanes.Lanes.fullest.Goals as goal

pub loop-pair-init : goal.loop-pair-init
loop-pair-init c = refl

pub loop-pair-preserved : goal.loop-pair-preserved
loop-pair-preserved c =
    c.max-most.ensures
    ∙ ap₂ max c.loop-pair.invariant (c.fullest.ensures ∙ ap fullest_in c.pair-item.is)
    ∙ sym (fullest-more c.deref-pair-items.result.now c.loop-pair.pair-index c.pair-item.result
    c.loop-pair-test.true)

pub returns : goal.returns
returns c =
    let lanes = c.deref-pair-items.result.now in
    let old = c.deref-pair-items.ensures.value ∙ c.self.view_is in
    c.loop-pair.invariant
    ∙ ap (λ (l : List LanePair). fold max 0 (map fullest_in l))
    (take_all c.loop-pair.pair-index lanes c.loop-pair-test.false)
    ∙ ap (λ (l : List LanePair). fold max 0 (map fullest_in l)) old
