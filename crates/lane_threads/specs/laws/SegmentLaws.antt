-- What holds of the lanes of a plan and of their rings after a segment.
use Rattle.std.specs.Prelude.{◌<◌, ℕ, Bool, List, length, get_or}
use Rattle.scenario.specs.Plans.{Plan}
use Rattle.link_model.specs.Kinds.{kind_of}
use Rattle.link_model.specs.kept.LaneRuns.{LaneRun}
use Rattle.lane_threads.specs.declared.cell_end.CellEnd.{CellEnd}
use Rattle.lane_threads.specs.declared.lane_pair.LanePair.{LanePair}
use Rattle.lane_threads.specs.declared.step.Step.{Step}
use Rattle.lane_threads.specs.Segments.{EachHasRun, HasRun, IsOnePair, Runs, ran, segment_of}
use Rattle.lane_threads.specs.kept.LaneRuns.{HasRunLane}

-- a lane and the end of its ring stay a pair
abbrev pub KeepsPairs : Type 0
KeepsPairs = (steps : List Step) (gives : Bool) (a b : LanePair) (end : CellEnd)
    → HasRun steps gives a b → IsOnePair a end → IsOnePair b end

-- lanes that went through these runs go on through the segment, each by itself
abbrev pub LanesGoOn : Type 0
LanesGoOn = (steps : List Step) (gives : Bool) (old new : List LanePair) (s : Plan)
    (runs : ℕ → LaneRun) → EachHasRun steps gives old new
    → ((lane : ℕ) (d : LanePair) → lane < length old
    → Runs (get_or old lane d) steps gives s lane (runs lane))
    → (lane : ℕ) (d : LanePair) → lane < length old
    → HasRunLane (get_or new lane d).lane s lane
    (ran (kind_of s.link.params) s lane (segment_of (get_or old lane d) steps gives) (runs lane)
    (length steps))
