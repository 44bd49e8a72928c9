use Rattle.std.proofs.Common.{◌≢◌, ◌∙◌, arith, get_or-set_other}
use Rattle.lane_threads.proofs.LaneLists.{can-run-at, has-run-by-lane, run-lanes-more}
use Rattle.lane_threads.proofs.segment.run_here.Goals as goal

pub run-requires : goal.run-requires
run-requires g c =
    let i = c.loop-lane.lane-index in
    let d = c.lane-item.result in
    let same = c.loop-lane.invariant.1 i d (omega arith) in
    rw same (can-run-at c.args.steps.now c.args.gives c.args.lanes.now i d c.requires
    c.loop-lane-test.true)

pub returns : goal.returns
returns g c = has-run-by-lane c.args.steps.now c.args.gives c.args.lanes.now c.loop-lane.lanes
    (omega arith) (λ k d below. c.loop-lane.invariant.0 k d (omega arith))

pub loop-lane-preserved : goal.loop-lane-preserved
loop-lane-preserved g c =
    let i = c.loop-lane.lane-index in
    let on = c.loop-lane-test.true in
    let kept = c.loop-lane.auto.lanes in (
      run-lanes-more c.args.steps.now c.args.gives c.args.lanes.now c.loop-lane.lanes i
          c.run.new.self c.lane-item.result (omega arith) kept c.loop-lane.invariant.0
          (rw (← c.loop-lane.invariant.1 i c.lane-item.result (omega arith)) c.run.ensures),
      λ k d above. let ne : k ≢ i = omega arith in
          get_or-set_other c.loop-lane.lanes i k c.run.new.self d ne
          ∙ c.loop-lane.invariant.1 k d (omega arith),
    )
