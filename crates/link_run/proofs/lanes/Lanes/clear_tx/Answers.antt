use Rattle.std.proofs.Common.{[], List, None, ◌∙◌, ap, arith, get_or, length, refl, subst, sym}
use Rattle.lane_threads.specs.declared.lane_pair.LanePair.{LanePair}
use Rattle.link_run.specs.kept.LaneRuns.{AreAt, HaveRunLanes, KeepRings}
use Rattle.link_run.proofs.LaneLemmas.{IsCleared, are-at, changed-more, changed-none, have-run, written-back}
use Rattle.link_run.proofs.SameLanes.{keep-all, keeps-ring}
use Rattle.link_run.proofs.lanes.Lanes.clear_tx.Goals as goal

pub loop-pair-init : goal.loop-pair-init
loop-pair-init c = changed-none IsCleared c.deref_mut-pair-items.result.now

pub loop-pair-preserved : goal.loop-pair-preserved
loop-pair-preserved c =
    changed-more IsCleared c.deref_mut-pair-items.result.now c.loop-pair.pair-items
    c.loop-pair.pair-index
    (get_or c.loop-pair.pair-items c.loop-pair.pair-index c.pair-item.result) c.clear_tx.new.self
    c.pair-item.result (omega arith) refl
    (record {
      goes_on = c.clear_tx.ensures.goes_on;
      next = c.clear_tx.ensures.next;
      same = c.clear_tx.ensures.same;
      ring = keeps-ring (get_or c.loop-pair.pair-items c.loop-pair.pair-index c.pair-item.result)
          c.clear_tx.new.self c.clear_tx.ensures.rest;
    }) c.loop-pair.invariant

pub returns-clause-goes_on : goal.returns-clause-goes_on
returns-clause-goes_on c s runs run =
    let old = c.deref_mut-pair-items.ensures.value ∙ c.self.view_is in
    let count = c.deref_mut-pair-items.ensures.len in
    let long = ap length c.deref_mut-pair-items.ensures.value in
    let same = c.loop-pair.invariant.count in
    let back = written-back c.self.inside.pairs.len c.self.inside.pairs.items c.loop-pair.pair-items
    (sym long ∙ count) (same ∙ count) in
    rw back
    (have-run IsCleared c.deref_mut-pair-items.result.now c.loop-pair.pair-items
    c.loop-pair.pair-index s runs (λ k. record (runs k) { handed = [] })
    c.loop-pair.invariant (omega arith) (λ k x y done. done.goes_on s k (runs k))
    (subst (λ (l : List LanePair). HaveRunLanes l s runs) (sym old) run))

pub returns-clause-at : goal.returns-clause-at
returns-clause-at c p next at =
    let old = c.deref_mut-pair-items.ensures.value ∙ c.self.view_is in
    let count = c.deref_mut-pair-items.ensures.len in
    let long = ap length c.deref_mut-pair-items.ensures.value in
    let same = c.loop-pair.invariant.count in
    let back = written-back c.self.inside.pairs.len c.self.inside.pairs.items c.loop-pair.pair-items
    (sym long ∙ count) (same ∙ count) in
    rw back
    (are-at IsCleared c.deref_mut-pair-items.result.now c.loop-pair.pair-items
    c.loop-pair.pair-index p next None
    c.loop-pair.invariant (omega arith) (λ k x y done stood. (done.same ∙ stood.0, done.next))
    (subst (λ (l : List LanePair). AreAt l p next) (sym old) at))

pub returns-clause-rings : goal.returns-clause-rings
returns-clause-rings c =
    let old = c.deref_mut-pair-items.ensures.value ∙ c.self.view_is in
    let count = c.deref_mut-pair-items.ensures.len in
    let long = ap length c.deref_mut-pair-items.ensures.value in
    let same = c.loop-pair.invariant.count in
    let back = written-back c.self.inside.pairs.len c.self.inside.pairs.items c.loop-pair.pair-items
    (sym long ∙ count) (same ∙ count) in
    rw back
    (subst (λ (l : List LanePair). KeepRings l c.loop-pair.pair-items) old
    (keep-all IsCleared c.deref_mut-pair-items.result.now c.loop-pair.pair-items
    c.loop-pair.pair-index c.loop-pair.invariant (omega arith) (λ k x y done. done.ring)))
