use Rattle.std.proofs.Common.{◌∙◌, List, None, sym, ap, subst, arith}
use Rattle.link_params.specs.declared.fields.Params.{Params}
use Rattle.link_params.specs.Links.{Link}
use Rattle.link_params.specs.Numbers.{period}
use Rattle.lane_threads.specs.declared.cell_end.CellEnd.{CellEnd}
use Rattle.lane_threads.specs.declared.lane_pair.LanePair.{LanePair}
use Rattle.link_model.specs.Wiring.{has_inverted_polarity}
use Rattle.link_model.specs.kept.LaneRuns.{no_run}
use Rattle.link_run.specs.kept.Ends.{ArePairs, HaveCells}
use Rattle.link_run.specs.kept.LaneRuns.{AreAt, HaveRings, HaveRunLanes}
use Rattle.link_run.proofs.LaneStates.{link-of}
use Rattle.link_run.proofs.LinkRuns.{run-none}
use Rattle.link_run.proofs.link_state.LinkState.open.Goals as goal

pub returns-clause-stands : goal.returns-clause-stands
returns-clause-stands c = λ s is.
    let same = link-of c.args.s.now c.args.link.now s c.requires.link is in
    let params = ap (λ (k : Link). k.params) same in
    let lanes = sym c.lanes.view_is in
    let ends = sym c.in_ok-open-2.ensures.ends in
    let begun = c.in_ok-lanes.ensures.begins s is in
    let size = c.period-period.ensures.value ∙ ap period (c.shape.ensures.same ∙ params) in
    let room = c.in_ok-open_segment.ensures.room in
    let last_room = c.in_ok-open_segment-2.ensures.room in
    run-none _ s same (c.in_ok-open.ensures.same ∙ same) (omega arith) (omega arith)
    c.in_ok-open_segment-2.ensures.empty
    (subst (λ (l : List LanePair). ArePairs l c.in_ok-open-2.field-0.ends) lanes
    (subst (ArePairs c.in_ok-lanes.lanes) ends c.in_ok-lanes.ensures.pairs))
    (c.in_ok-open.ensures.begins s is (sym same)) (c.in_ok-open.ensures.idle s.link.params)
    (subst (λ (l : List LanePair). HaveRunLanes l s (λ lane. record (no_run s) { inverted = has_inverted_polarity s lane })) lanes begun.0)
    (subst (λ (l : List LanePair). HaveRings l s 0 0) lanes begun.1)
    (subst (λ (l : List LanePair). AreAt l s.link.params None) lanes
    (subst (λ (p : Params). AreAt c.in_ok-lanes.lanes p None) params c.in_ok-lanes.ensures.at))
    (c.in_ok-open-2.ensures.begins s is)
    (subst (λ (l : List CellEnd). HaveCells l s 0 0) ends (c.in_ok-lanes.ensures.ends s))
    (c.in_ok-open-2.ensures.empty s 0)
