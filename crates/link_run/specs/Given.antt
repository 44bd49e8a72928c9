-- What each lane of a run gives, tick by tick, and the most entries that its elastic buffer held
-- (this project's own).
-- Code: a ring for each lane.
use Rattle.std.specs.Prelude.{ℕ, zero, suc, ◌+◌, if◌then◌else◌, List, [], ◌++◌, max}
use Rattle.link_params.specs.declared.cells.LaneCell.{LaneCell}
use Rattle.bring_up.specs.Decisions.{is_running}
use Rattle.scenario.specs.Plans.{Plan}
use Rattle.lane_threads.specs.Segments.{pushed}
use Rattle.link_model.specs.Kinds.{kind_of, moment_of, run_of}
use Rattle.link_model.specs.kept.LaneRuns.{given_by, held_by, lane_stepped}

-- the cells that a lane gives in tick t: where the link runs after it, the oldest entry, which is
-- no cell for a place of the alignment sequence
abbrev pub cells_at : Plan → ℕ → ℕ → List LaneCell
cells_at s lane t = let k = kind_of s.link.params in
    if is_running (moment_of s (run_of s t)).stage
    then pushed (given_by k s (λ l. lane_stepped k s (run_of s t) l) lane) else []

-- those of n ticks from tick t on
unfoldable pub cells_in : Plan → ℕ → ℕ → ℕ → List LaneCell
cells_in s lane t zero = []
cells_in s lane t (suc n) = cells_in s lane t n ++ cells_at s lane (t + n)

-- the entries that a lane holds in tick t, once it took the bits of the tick
abbrev pub held_at : Plan → ℕ → ℕ → ℕ
held_at s lane t = let k = kind_of s.link.params in
    held_by k s (λ l. lane_stepped k s (run_of s t) l) lane

-- the most that it held in any of the first t ticks
unfoldable pub most_held : Plan → ℕ → ℕ → ℕ
most_held s lane zero = 0
most_held s lane (suc t) = max (most_held s lane t) (held_at s lane t)
