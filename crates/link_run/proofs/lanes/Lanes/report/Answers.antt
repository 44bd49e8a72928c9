use Rattle.std.proofs.Common.{◌<◌, List, ap, arith, length, subst, sym}
use Rattle.link_model.specs.Kinds.{kind_of}
use Rattle.link_model.specs.Wiring.{route_of}
use Rattle.lane_threads.specs.declared.lane_pair.LanePair.{LanePair}
use Rattle.link_run.specs.kept.LaneRuns.{HaveRunLanes}
use Rattle.link_run.proofs.LaneLemmas.{IsReport, all-written, written-more, written-none}
use Rattle.link_run.proofs.lanes.Lanes.report.Goals as goal

pub loop-lane-init : goal.loop-lane-init
loop-lane-init c = written-none IsReport _ _

pub loop-lane-preserved : goal.loop-lane-preserved
loop-lane-preserved c =
    let x = c.index.result.now in
    let long = ap length c.as_slice-lane-end.ensures.value in
    let same = ap length c.self.view_is in
    let written = c.loop-lane.auto.reports in
    let count = c.requires in
    let lanes = c.self.inside.pairs.items in
    let below : c.loop-lane.lane < length lanes = omega arith in
    written-more IsReport lanes c.loop-lane.reports c.loop-lane.lane x x c.report.result below
    (omega arith) c.index.ensures
    (record { is = c.report.ensures }) c.loop-lane.invariant

pub returns : goal.returns
returns c s runs run =
    let long = ap length c.as_slice-lane-end.ensures.value in
    let same = ap length c.self.view_is in
    let written = c.loop-lane.auto.reports in
    let count = c.requires in
    all-written IsReport c.self.inside.pairs.items c.loop-lane.reports c.loop-lane.lane s runs
    (λ lane. (kind_of s.link.params).report s.link.params s.link.timing (route_of s lane) (runs lane).taken)
    c.loop-lane.invariant (omega arith) (omega arith)
    (subst (λ (l : List LanePair). HaveRunLanes l s runs) (sym c.self.view_is) run)
    (λ k x y done h. done.is s k (runs k) h)
