use Rattle.std.proofs.Common.{◌≡◌, ◌<◌, List, ap, arith, length, subst, sym}
use Rattle.lane_threads.specs.declared.lane_pair.LanePair.{LanePair}
use Rattle.lane_threads.specs.kept.LaneRuns.{HasRunLane}
use Rattle.link_run.specs.kept.LaneRuns.{HaveRunLanes}
use Rattle.link_run.proofs.EventLemmas.{have-one}
use Rattle.link_run.proofs.lanes.Lanes.set_delay.Goals as goal

pub returns-clause-goes_on : goal.returns-clause-goes_on
returns-clause-goes_on c s runs run =
    let lane = c.args.lane in
    let pairs : List LanePair = c.self.inside.pairs.items in
    let old = subst (λ (l : List LanePair). HaveRunLanes l s runs) (sym c.self.view_is) run in
    let count = ap length c.self.view_is in
    let lanes = run.0 in
    let inside = c.requires.lane in
    let before = subst (λ (z : LanePair). HasRunLane z.lane s lane (runs lane))
    (sym c.index_mut.ensures.value) (old.1 lane c.index_mut.result.now (omega arith)) in
    have-one pairs s runs lane c.set_delay.new.self (record (runs lane) { delay = c.args.bits })
    (omega arith) (c.set_delay.ensures.goes_on s lane (runs lane) before) old
