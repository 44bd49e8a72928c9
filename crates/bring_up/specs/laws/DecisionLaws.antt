-- Laws of the decisions.
-- Code: none of this is computed.
use Rattle.std.specs.Prelude.{◌≡◌, true, List, [], ◌∷◌, ◌++◌}
use Rattle.link_params.specs.declared.fields.Params.{Params}
use Rattle.link_params.specs.declared.fields.Timing.{Timing}
use Rattle.link_params.specs.declared.lane_report.LaneReport.{LaneReport}
use Rattle.bring_up.specs.declared.stage.Stage.{Stage}
use Rattle.bring_up.specs.declared.stage.Stage.TheVariants as stage
use Rattle.bring_up.specs.Decisions.{after_reports, begin, is_hunting, standing_from}

-- the stage of a receiver after the decisions with these reports since its reset
abbrev pub stage_after : Params → Timing → List (List LaneReport) → Stage
stage_after p t before = (standing_from p t begin before).stage

-- after any decisions the stage is Hunt exactly where SYNC~ is low
abbrev pub HuntsWhereLow : Type 0
HuntsWhereLow = (p : Params) (t : Timing) (before : List (List LaneReport))
    → (is_hunting (stage_after p t before) ≡ true → stage_after p t before ≡ stage.Hunt)
    × (stage_after p t before ≡ stage.Hunt → is_hunting (stage_after p t before) ≡ true)

-- where a receiver stands after one decision more is told by where it stood before it and by the
-- reports at it
abbrev pub StandsByLast : Type 0
StandsByLast = (p : Params) (t : Timing) (before : List (List LaneReport))
    (reports : List LaneReport)
    → standing_from p t begin (before ++ reports ∷ []) ≡ after_reports p t
    (standing_from p t begin before) reports
