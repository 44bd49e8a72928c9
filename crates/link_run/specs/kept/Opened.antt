-- A lane before the first tick, and the other end of its ring.
-- Code: a lane is opened for each receiver lane.
use Rattle.std.specs.Prelude.{◌≡◌, ℕ, [], Some, None}
use Rattle.rtrb.specs.Ring.{known_items, received, sent}
use Rattle.link_params.specs.Links.{Link}
use Rattle.scenario.specs.declared.scenario_type.Scenario.{Scenario}
use Rattle.scenario.specs.Plans.{Plan, plan_of}
use Rattle.link_model.specs.Wiring.{has_inverted_polarity}
use Rattle.link_model.specs.kept.LaneRuns.{no_run}
use Rattle.lane_threads.specs.declared.cell_end.CellEnd.{CellEnd}
use Rattle.lane_threads.specs.declared.lane_pair.LanePair.{LanePair}
use Rattle.lane_threads.specs.kept.LaneEnds.{next_in, params_in}
use Rattle.lane_threads.specs.kept.LaneRuns.{HasRunLane}

-- a lane of which nothing has happened, wired, set and inverted as the scenario says
pub record IsOpened (s : Scenario) (link : Link) (lane : ℕ) (x : LanePair) : Type 0 where
  pub begins : (plan : Plan) → plan_of s ≡ Some plan
      → HasRunLane x.lane plan lane
      (record (no_run plan) { inverted = has_inverted_polarity plan lane })
  pub same : params_in x.lane.tx ≡ link.params
  pub next : next_in x.lane.tx ≡ None
  pub fullest : x.fullest ≡ 0
  pub room : x.room ≡ s.ticks
  pub cells : sent x.ring ≡ []

-- nothing came to an end
pub record IsOpenedEnd (end : CellEnd) : Type 0 where
  pub received_none : received end.ring ≡ []
  pub known_none : known_items end.ring ≡ []
