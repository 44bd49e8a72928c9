use Rattle.std.proofs.Common.{◌≡◌, ◌+◌, List, ◌∙◌, ap, arith, get_or, length, subst, sym}
use Rattle.rtrb.specs.Ring.{received}
use Rattle.lane_threads.specs.Segments.{IsOnePair}
use Rattle.lane_threads.specs.declared.cell_end.CellEnd.{CellEnd}
use Rattle.lane_threads.specs.declared.lane_pair.LanePair.{LanePair}
use Rattle.link_run.specs.kept.LaneRuns.{AreAt, HaveRings, HaveRunLanes}
use Rattle.link_run.proofs.Carrying.{met-at, met-cells, met-pairs, met-rings, met-runs}
use Rattle.link_run.proofs.LaneLemmas.{met-more, met-none}
use Rattle.link_run.proofs.lanes.Lanes.meet.Goals as goal

pub loop-lane-init : goal.loop-lane-init
loop-lane-init c = met-none _ _

pub meet-requires : goal.meet-requires
meet-requires c =
    let x = c.index_mut.result.now in
    let e = c.index-ends-lane.result in
    let i = c.loop-lane.lane in
    let on = c.loop-lane-test.true in
    let count = c.requires.pairs.count in
    let same = ap length c.self.view_is in
    let lane_is = c.index_mut.ensures.value
    ∙ c.loop-lane.invariant.lanes.left i x (omega arith) (omega arith)
    ∙ ap (λ (l : List LanePair). get_or l i x) c.self.view_is in
    let end_is = c.loop-lane.invariant.ends.left i e (omega arith) (omega arith) in
    record {
      pair = subst (λ (a : LanePair). IsOnePair a (get_or c.loop-lane.ends i e)) (sym lane_is)
          (subst (λ (b : CellEnd). IsOnePair (get_or c.args.self.now i x) b) (sym end_is)
          (c.requires.pairs.each i x e (omega arith)));
    }

pub loop-lane-preserved : goal.loop-lane-preserved
loop-lane-preserved c =
    let x = c.index_mut.result.now in
    let e = c.index-ends-lane.result in
    let i = c.loop-lane.lane in
    let on = c.loop-lane-test.true in
    let kept = c.loop-lane.invariant.lanes.count in
    let count = c.requires.pairs.count in
    let same = ap length c.self.view_is in
    let long = c.loop-lane.auto.ends in
    met-more c.self.inside.pairs.items c.loop-lane.self-inside.pairs.items c.args.ends.now
    c.loop-lane.ends i x c.meet.new.lane e c.meet.new.end (omega arith) (omega arith)
    c.index_mut.ensures.value c.index-ends-lane.is
    (record {
      lane_is = c.meet.ensures.lane.0;
      fullest = c.meet.ensures.lane.2;
      room = c.meet.ensures.ring.1;
      sent_is = c.meet.ensures.ring.2;
    })
    (record {
      received_is = c.meet.ensures.received
          ∙ ap (λ (v : CellEnd). received v.ring) (sym c.index-ends-lane.is);
    })
    (record { pair = c.meet.ensures.pair; fifo = c.meet.ensures.fifo }) c.loop-lane.invariant

pub returns-clause-pairs : goal.returns-clause-pairs
returns-clause-pairs c =
    let end = c.loop-lane-test.false in
    let far = c.loop-lane.auto.lane-end in
    let kept = c.loop-lane.invariant.lanes.count in
    let count = c.requires.pairs.count in
    let same = ap length c.self.view_is in
    let long : length c.loop-lane.self-inside.pairs.items ≡ c.loop-lane.lane = omega arith in
    let known = c.loop-lane.auto.ends in
    let ended : length c.loop-lane.ends ≡ c.loop-lane.lane = omega arith in
    met-pairs c.self.inside.pairs.items c.loop-lane.self-inside.pairs.items c.args.ends.now
    c.loop-lane.ends c.loop-lane.lane c.loop-lane.invariant long ended

pub returns-clause-knows : goal.returns-clause-knows
returns-clause-knows c = λ s t n rings cells.
    let end = c.loop-lane-test.false in
    let far = c.loop-lane.auto.lane-end in
    let kept = c.loop-lane.invariant.lanes.count in
    let count = c.requires.pairs.count in
    let same = ap length c.self.view_is in
    let long : length c.loop-lane.self-inside.pairs.items ≡ c.loop-lane.lane = omega arith in
    let known = c.loop-lane.auto.ends in
    let ended : length c.loop-lane.ends ≡ c.loop-lane.lane = omega arith in
    met-cells c.self.inside.pairs.items c.loop-lane.self-inside.pairs.items c.args.ends.now
    c.loop-lane.ends c.loop-lane.lane c.loop-lane.invariant long ended s t n
    (subst (λ (l : List LanePair). HaveRings l s (t + n) (t + n)) (sym c.self.view_is) rings) cells

pub returns-clause-lanes : goal.returns-clause-lanes
returns-clause-lanes c = λ s runs run.
    let end = c.loop-lane-test.false in
    let far = c.loop-lane.auto.lane-end in
    let kept = c.loop-lane.invariant.lanes.count in
    let count = c.requires.pairs.count in
    let same = ap length c.self.view_is in
    let long : length c.loop-lane.self-inside.pairs.items ≡ c.loop-lane.lane = omega arith in
    let known = c.loop-lane.auto.ends in
    let ended : length c.loop-lane.ends ≡ c.loop-lane.lane = omega arith in
    met-runs c.self.inside.pairs.items c.loop-lane.self-inside.pairs.items c.args.ends.now
    c.loop-lane.ends c.loop-lane.lane c.loop-lane.invariant long s runs
    (subst (λ (l : List LanePair). HaveRunLanes l s runs) (sym c.self.view_is) run)

pub returns-clause-rings : goal.returns-clause-rings
returns-clause-rings c = λ s given held rings.
    let end = c.loop-lane-test.false in
    let far = c.loop-lane.auto.lane-end in
    let kept = c.loop-lane.invariant.lanes.count in
    let count = c.requires.pairs.count in
    let same = ap length c.self.view_is in
    let long : length c.loop-lane.self-inside.pairs.items ≡ c.loop-lane.lane = omega arith in
    let known = c.loop-lane.auto.ends in
    let ended : length c.loop-lane.ends ≡ c.loop-lane.lane = omega arith in
    met-rings c.self.inside.pairs.items c.loop-lane.self-inside.pairs.items c.args.ends.now
    c.loop-lane.ends c.loop-lane.lane c.loop-lane.invariant long s given held
    (subst (λ (l : List LanePair). HaveRings l s given held) (sym c.self.view_is) rings)

pub returns-clause-at : goal.returns-clause-at
returns-clause-at c = λ p next at.
    let end = c.loop-lane-test.false in
    let far = c.loop-lane.auto.lane-end in
    let kept = c.loop-lane.invariant.lanes.count in
    let count = c.requires.pairs.count in
    let same = ap length c.self.view_is in
    let long : length c.loop-lane.self-inside.pairs.items ≡ c.loop-lane.lane = omega arith in
    let known = c.loop-lane.auto.ends in
    let ended : length c.loop-lane.ends ≡ c.loop-lane.lane = omega arith in
    met-at c.self.inside.pairs.items c.loop-lane.self-inside.pairs.items c.args.ends.now
    c.loop-lane.ends c.loop-lane.lane c.loop-lane.invariant long p next
    (subst (λ (l : List LanePair). AreAt l p next) (sym c.self.view_is) at)
