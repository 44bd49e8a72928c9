-- The kind of lane of a link, by its mode, and the run of a plan with it (this project's own).
-- Code: a lane is of one kind from its beginning on.
use Rattle.std.specs.Prelude.{ℕ, if◌then◌else◌, List}
use Rattle.link_params.specs.declared.fields.Params.{Params}
use Rattle.link_params.specs.Lanes.{LaneKind}
use Rattle.link_params.specs.Laws.{is_b}
use Rattle.lane_b.specs.Received.{lanes_b}
use Rattle.lane_c.specs.Received.{lanes_c}
use Rattle.scenario.specs.Plans.{Plan}
use Rattle.link_model.specs.Moments.{History, Moment}
use Rattle.link_model.specs.Report.{report}
use Rattle.link_model.specs.Run.{moment, run}

-- the kind of lane of a link, by its mode
abbrev pub kind_of : Params → LaneKind
kind_of p = if is_b p.mode then lanes_b else lanes_c

-- the moment that comes after a history of this plan's run, the history of its first t ticks, and
-- its report
abbrev pub moment_of : Plan → History → Moment
moment_of s h = moment (kind_of s.link.params) s h

abbrev pub run_of : Plan → ℕ → History
run_of s t = run (kind_of s.link.params) s t

abbrev pub report_of : Plan → List ℕ
report_of s = report (kind_of s.link.params) s
