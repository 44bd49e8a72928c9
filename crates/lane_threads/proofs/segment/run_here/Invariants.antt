use Rattle.std.proofs.Common.{◌≡◌, ℕ, ◌<◌, ◌≤◌, get_or}
use Rattle.lane_threads.specs.Segments.{HasRun}
use Rattle.lane_threads.specs.declared.lane_pair.LanePair.{LanePair}
use Rattle.lane_threads.proofs.segment.run_here.Given as goal

abbrev pub invariant-loop-lane : goal.invariant-loop-lane
invariant-loop-lane g l =
    ((k : ℕ) (d : LanePair) → k < l.lane-index
    → HasRun l.steps l.gives (get_or l.initial.lanes k d) (get_or l.lanes k d))
    × ((k : ℕ) (d : LanePair) → l.lane-index ≤ k → get_or l.lanes k d ≡ get_or l.initial.lanes k d)
