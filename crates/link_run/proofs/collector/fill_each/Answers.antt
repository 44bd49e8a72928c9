use Rattle.std.proofs.Common.{◌≡◌, ◌<◌, ◌∙◌, length, get_or, slice_index, sym, ap, subst, arith}
use Rattle.scenario.proofs.LaneOrders.{order-distinct, order-length}
use Rattle.link_model.proofs.Wirings.{order-below}
use Rattle.link_run.specs.kept.Waits.{IsFilled}
use Rattle.link_run.proofs.Filling.{are-filled, are-filling-more, are-filling-none}
use Rattle.link_run.proofs.collector.fill_each.Goals as goal

pub loop-lane-init : goal.loop-lane-init
loop-lane-init c = are-filling-none c.args.waiting.now c.args.ends.now c.args.route.now

pub loop-lane-preserved : goal.loop-lane-preserved
loop-lane-preserved c =
    let l = length c.args.ends.now in
    let k = c.loop-lane.lane in
    let route = c.args.route.now in
    let below = order-below l route k (omega (arith, c.loop-lane-test.true)) c.requires.order in
    are-filling-more c.args.waiting.now c.loop-lane.waiting c.args.ends.now c.loop-lane.ends route k
    c.fill.new.self c.index-waiting-route.result c.fill.new.end c.index-ends-lane.result
    (λ i j low high same. order-distinct l route c.requires.order i j low high same)
    (omega (arith, below, c.requires.count, c.loop-lane.auto.waiting))
    (omega (arith, c.loop-lane-test.true, c.loop-lane.auto.ends))
    c.fill.ensures c.loop-lane.invariant

pub bounds-route-lane : goal.bounds-route-lane
bounds-route-lane c =
    let long = order-length (length c.args.ends.now) c.args.route.now c.requires.order in
    omega (arith, long, c.loop-lane-test.true)

pub bounds-waiting-route : goal.bounds-waiting-route
bounds-waiting-route c =
    let below = order-below (length c.args.ends.now) c.args.route.now c.loop-lane.lane
    (omega (arith, c.loop-lane-test.true)) c.requires.order in
    omega (arith, below, c.requires.count, c.loop-lane.auto.waiting)

pub returns : goal.returns
returns c = are-filled c.args.waiting.now c.loop-lane.waiting c.args.ends.now c.loop-lane.ends
    c.args.route.now c.loop-lane.lane c.loop-lane.invariant (omega arith)
