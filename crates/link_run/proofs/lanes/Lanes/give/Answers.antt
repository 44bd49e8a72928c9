use Rattle.std.proofs.Common.{◌<◌, List, ◌∙◌, ap, arith, get_or, length, refl, subst, suc, sym}
use Rattle.link_model.specs.Kinds.{kind_of, run_of}
use Rattle.link_model.specs.kept.LaneRuns.{lane_stepped}
use Rattle.lane_threads.specs.declared.lane_pair.LanePair.{LanePair}
use Rattle.lane_threads.specs.kept.LaneEnds.{buffer_in, next_in, params_in}
use Rattle.link_run.specs.kept.LaneRuns.{AreAt, AreOnRings, HaveRings, HaveRunLanes}
use Rattle.link_run.proofs.Carrying.{gave-rings, gave-runs}
use Rattle.link_run.proofs.LaneLemmas.{HasGiven, are-at, changed-more, changed-none, written-back}
use Rattle.link_run.proofs.SameLanes.{on-rings}
use Rattle.link_run.proofs.lanes.Lanes.give.Goals as goal

pub loop-pair-init : goal.loop-pair-init
loop-pair-init c = changed-none HasGiven c.deref_mut-pair-items.result.now

pub give-requires-clause-entry : goal.give-requires-clause-entry
give-requires-clause-entry c =
    let d = c.pair-item.result in
    let old = c.deref_mut-pair-items.ensures.value ∙ c.self.view_is in
    let long = ap length old in
    let on = c.loop-pair-test.true in
    let was = c.loop-pair.invariant.left c.loop-pair.pair-index d (omega arith) (omega arith)
    ∙ ap (λ (l : List LanePair). get_or l c.loop-pair.pair-index d) old in
    subst (λ (q : LanePair). 0 < length (buffer_in q.lane.rx).cells) (sym was)
    (c.requires c.loop-pair.pair-index d (omega arith)).0

pub give-requires-clause-room : goal.give-requires-clause-room
give-requires-clause-room c =
    let d = c.pair-item.result in
    let old = c.deref_mut-pair-items.ensures.value ∙ c.self.view_is in
    let long = ap length old in
    let on = c.loop-pair-test.true in
    let was = c.loop-pair.invariant.left c.loop-pair.pair-index d (omega arith) (omega arith)
    ∙ ap (λ (l : List LanePair). get_or l c.loop-pair.pair-index d) old in
    subst (λ (q : LanePair). 0 < q.room) (sym was)
    (c.requires c.loop-pair.pair-index d (omega arith)).1

pub loop-pair-preserved : goal.loop-pair-preserved
loop-pair-preserved c =
    changed-more HasGiven c.deref_mut-pair-items.result.now c.loop-pair.pair-items
    c.loop-pair.pair-index
    (get_or c.loop-pair.pair-items c.loop-pair.pair-index c.pair-item.result) c.give.new.self
    c.pair-item.result (omega arith) refl c.give.ensures c.loop-pair.invariant

pub returns-clause-gave : goal.returns-clause-gave
returns-clause-gave c = λ s t run ring runs.
    let old = c.deref_mut-pair-items.ensures.value ∙ c.self.view_is in
    let count = c.deref_mut-pair-items.ensures.len in
    let long = ap length c.deref_mut-pair-items.ensures.value in
    let same = c.loop-pair.invariant.count in
    let back = written-back c.self.inside.pairs.len c.self.inside.pairs.items c.loop-pair.pair-items
    (sym long ∙ count) (same ∙ count) in
    let ran = subst (λ (l : List LanePair). HaveRunLanes l s
    (lane_stepped (kind_of s.link.params) s (run_of s t))) (sym old) run in
    let rings = subst (λ (l : List LanePair). HaveRings l s t (suc t)) (sym old) ring in
    rw back (
      gave-runs c.deref_mut-pair-items.result.now c.loop-pair.pair-items c.loop-pair.pair-index
          s t c.loop-pair.invariant (omega arith) ran runs,
      gave-rings c.deref_mut-pair-items.result.now c.loop-pair.pair-items c.loop-pair.pair-index
          s t c.loop-pair.invariant (omega arith) ran rings runs,
    )

pub returns-clause-at : goal.returns-clause-at
returns-clause-at c = λ p next at.
    let old = c.deref_mut-pair-items.ensures.value ∙ c.self.view_is in
    let count = c.deref_mut-pair-items.ensures.len in
    let long = ap length c.deref_mut-pair-items.ensures.value in
    let same = c.loop-pair.invariant.count in
    let back = written-back c.self.inside.pairs.len c.self.inside.pairs.items c.loop-pair.pair-items
    (sym long ∙ count) (same ∙ count) in
    rw back
    (are-at HasGiven c.deref_mut-pair-items.result.now c.loop-pair.pair-items
    c.loop-pair.pair-index p next next c.loop-pair.invariant (omega arith)
    (λ k x y done stood. (ap params_in done.tx ∙ stood.0, ap next_in done.tx ∙ stood.1))
    (subst (λ (l : List LanePair). AreAt l p next) (sym old) at))

pub returns-clause-rings : goal.returns-clause-rings
returns-clause-rings c =
    let old = c.deref_mut-pair-items.ensures.value ∙ c.self.view_is in
    let count = c.deref_mut-pair-items.ensures.len in
    let long = ap length c.deref_mut-pair-items.ensures.value in
    let same = c.loop-pair.invariant.count in
    let back = written-back c.self.inside.pairs.len c.self.inside.pairs.items c.loop-pair.pair-items
    (sym long ∙ count) (same ∙ count) in
    rw back
    (subst (λ (l : List LanePair). AreOnRings l c.loop-pair.pair-items) old
    (on-rings HasGiven c.deref_mut-pair-items.result.now c.loop-pair.pair-items
    c.loop-pair.pair-index c.loop-pair.invariant (omega arith) (λ k x y done. done.ring)))
