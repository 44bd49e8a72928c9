-- What holds of every history, for any kind of lane (this project's own).
-- Code: none of this is computed.
use Rattle.std.specs.Prelude.{◌≡◌, ℕ, ◌+◌, ◌<◌, length, take, slice_get, Some}
use Rattle.link_params.specs.Lanes.{LaneKind}
use Rattle.scenario.specs.Plans.{Plan}
use Rattle.link_model.specs.Run.{run}
use Rattle.link_model.specs.Sessions.{at}

-- one moment for each tick
abbrev pub OneATick : Type 0
OneATick = (kind : LaneKind) (s : Plan) (t : ℕ) → length (run kind s t) ≡ t

-- the history of t ticks is the beginning of that of more
abbrev pub BeginsTheSame : Type 0
BeginsTheSame = (kind : LaneKind) (s : Plan) (t more : ℕ)
    → take t (run kind s (t + more)) ≡ run kind s t

-- moment t of a longer history is tick t of the run
abbrev pub HasEachTick : Type 0
HasEachTick = (kind : LaneKind) (s : Plan) (t n : ℕ) → t < n
    → slice_get (run kind s n) t ≡ Some (at kind s t)
