use Rattle.std.proofs.Common.{◌≡◌, ◌∙◌, length, sym, subst, add-one, arith, Bool}
use Rattle.link_model.specs.Kinds.{kind_of}
use Rattle.link_model.specs.kept.LaneRuns.{LaneRun}
use Rattle.lane_threads.specs.Segments.{HasRunTo, Segment, gives_before, ran, ready, segment_of}
use Rattle.lane_threads.specs.kept.SegmentRuns.{IsReady}
use Rattle.lane_threads.proofs.SegmentLemmas.{held-is, no-tick, tick-more}
use Rattle.lane_threads.proofs.lane_pair.LanePair.run.Goals as goal

pub loop-n-init : goal.loop-n-init
loop-n-init c = no-tick c.args.steps.now c.args.gives c.args.self.now

pub ready-requires-clause-entry : goal.ready-requires-clause-entry
ready-requires-clause-entry c = λ gives.
    let q = c.requires in
    let h = c.loop-n.invariant.lane q.plan q.lane q.run q.runs in
    rw (held-is c.loop-n.self q.plan q.lane _ h)
    (q.runs.may.entry c.loop-n.n c.loop-n-test.true (sym c.gives_before-gives.ensures ∙ gives))

pub tick-requires-clause-room : goal.tick-requires-clause-room
tick-requires-clause-room c = λ stays.
    let q = c.requires in
    let g : Segment = segment_of c.args.self.now c.args.steps.now c.args.gives in
    let y : LaneRun = ran (kind_of q.plan.link.params) q.plan q.lane g q.run c.loop-n.n in
    let h = c.loop-n.invariant.lane q.plan q.lane q.run q.runs in
    let given : IsReady (gives_before g c.loop-n.n) c.loop-n.self c.ready.new.self =
    subst (λ (b : Bool). IsReady b c.loop-n.self c.ready.new.self) c.gives_before-gives.ensures c.ready.ensures in
    let now = given.goes_on q.plan q.lane y h in
    rw (held-is c.ready.new.self q.plan q.lane (ready g c.loop-n.n y) now, now.depth)
    (q.runs.may.room c.loop-n.n c.loop-n-test.true stays)

pub loop-n-preserved : goal.loop-n-preserved
loop-n-preserved c =
    let g : Segment = segment_of c.args.self.now c.args.steps.now c.args.gives in
    let given : IsReady (gives_before g c.loop-n.n) c.loop-n.self c.ready.new.self =
    subst (λ (b : Bool). IsReady b c.loop-n.self c.ready.new.self) c.gives_before-gives.ensures c.ready.ensures in
    subst (λ n. HasRunTo n c.args.steps.now c.args.gives c.args.self.now c.tick.new.self)
    (sym (add-one c.loop-n.n))
    (tick-more c.args.steps.now c.args.gives c.loop-n.n c.args.self.now c.loop-n.self
    c.ready.new.self c.tick.new.self c.loop-n-test.true c.loop-n.invariant given c.tick.ensures)

pub returns : goal.returns
returns c =
    let low = c.loop-n.auto.n-end in
    let all = c.loop-n-test.false in
    let end : c.loop-n.n ≡ length c.args.steps.now = omega arith in
    subst (λ n. HasRunTo n c.args.steps.now c.args.gives c.args.self.now c.loop-n.self) end
    c.loop-n.invariant
