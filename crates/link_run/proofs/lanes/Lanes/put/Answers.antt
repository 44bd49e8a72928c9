use Rattle.std.proofs.Common.{◌≡◌, ◌<◌, List, ◌∙◌, ap, arith, get_or, length, refl, subst, sym}
use Rattle.link_params.specs.Numbers.{period}
use Rattle.lane_threads.specs.declared.lane_pair.LanePair.{LanePair}
use Rattle.lane_threads.specs.kept.LaneEnds.{params_in, tx_width}
use Rattle.link_run.specs.kept.LaneRuns.{AreSameLanes, ArePut}
use Rattle.link_run.proofs.LaneLemmas.{IsPut, are-put, are-same-put, changed-more, changed-none, written-back}
use Rattle.link_run.proofs.SameLanes.{width-ten}
use Rattle.link_run.proofs.lanes.Lanes.put.Goals as goal

pub loop-lane-init : goal.loop-lane-init
loop-lane-init c = changed-none (IsPut c.args.wire.now c.args.i c.args.handed.now)
    c.deref_mut-pair-items.result.now

pub put-requires-clause-inside : goal.put-requires-clause-inside
put-requires-clause-inside c =
    let d = c.pair-item.result in
    let old = c.deref_mut-pair-items.ensures.value ∙ c.self.view_is in
    let long = ap length old in
    let on = c.loop-lane-test.true in
    let was = c.loop-lane.invariant.left c.loop-lane.lane d (omega arith) (omega arith)
    ∙ ap (λ (l : List LanePair). get_or l c.loop-lane.lane d) old in
    subst (λ (q : LanePair). c.args.i < period (params_in q.lane.tx)) (sym was)
    (c.requires.inside c.loop-lane.lane d (omega arith))

pub put-requires-clause-small : goal.put-requires-clause-small
put-requires-clause-small c = λ ten.
    let d = c.pair-item.result in
    let old = c.deref_mut-pair-items.ensures.value ∙ c.self.view_is in
    let long = ap length old in
    let on = c.loop-lane-test.true in
    let was = c.loop-lane.invariant.left c.loop-lane.lane d (omega arith) (omega arith)
    ∙ ap (λ (l : List LanePair). get_or l c.loop-lane.lane d) old in
    let inside : c.loop-lane.lane < length c.args.self.now = omega arith in
    let wide = c.requires.widths c.loop-lane.lane d inside in
    let width : tx_width (get_or c.args.self.now c.loop-lane.lane d).lane.tx ≡ 10 =
    ap (λ (q : LanePair). tx_width q.lane.tx) (sym was) ∙ ten in
    c.requires.small c.loop-lane.lane d inside (width-ten
    (params_in (get_or c.args.self.now c.loop-lane.lane d).lane.tx) (sym wide ∙ width))

pub loop-lane-preserved : goal.loop-lane-preserved
loop-lane-preserved c =
    let on = c.loop-lane-test.true in
    let kept = c.loop-lane.invariant.count in
    changed-more (IsPut c.args.wire.now c.args.i c.args.handed.now)
    c.deref_mut-pair-items.result.now c.loop-lane.pair-items c.loop-lane.lane
    (get_or c.loop-lane.pair-items c.loop-lane.lane c.pair-item.result) c.put.new.self
    c.pair-item.result (omega arith) refl
    (record {
      octets = c.put.ensures.octets;
      same = record {
        lane = c.put.ensures.lane;
        fullest = c.put.ensures.rest.0;
        room = c.put.ensures.rest.1;
        ring = c.put.ensures.rest.2;
      };
    }) c.loop-lane.invariant

pub returns-clause-put : goal.returns-clause-put
returns-clause-put c =
    let old = c.deref_mut-pair-items.ensures.value ∙ c.self.view_is in
    let count = c.deref_mut-pair-items.ensures.len in
    let long = ap length c.deref_mut-pair-items.ensures.value in
    let same = c.loop-lane.invariant.count in
    let end = c.loop-lane-test.false in
    let back = written-back c.self.inside.pairs.len c.self.inside.pairs.items c.loop-lane.pair-items
    (sym long ∙ count) (same ∙ count) in
    rw back
    (subst (λ (l : List LanePair). ArePut l c.loop-lane.pair-items c.args.wire.now c.args.i c.args.handed.now) old
    (are-put c.deref_mut-pair-items.result.now c.loop-lane.pair-items c.args.wire.now c.loop-lane.lane c.args.i
    c.args.handed.now c.loop-lane.invariant (omega arith)))

pub returns-clause-same : goal.returns-clause-same
returns-clause-same c =
    let old = c.deref_mut-pair-items.ensures.value ∙ c.self.view_is in
    let count = c.deref_mut-pair-items.ensures.len in
    let long = ap length c.deref_mut-pair-items.ensures.value in
    let same = c.loop-lane.invariant.count in
    let end = c.loop-lane-test.false in
    let back = written-back c.self.inside.pairs.len c.self.inside.pairs.items c.loop-lane.pair-items
    (sym long ∙ count) (same ∙ count) in
    rw back
    (subst (λ (l : List LanePair). AreSameLanes l c.loop-lane.pair-items) old
    (are-same-put c.deref_mut-pair-items.result.now c.loop-lane.pair-items c.args.wire.now c.loop-lane.lane
    c.args.i c.args.handed.now c.loop-lane.invariant (omega arith)))
