-- What the lanes of a bench and the ends of their rings are once the first t ticks of a run are
-- over: these lanes made the run, and these ends received all that they gave.
-- Code: the lanes and the ends of a bench.
use Rattle.std.specs.Prelude.{◌≡◌, ◌<◌, ℕ, ◌+◌, Bool, List, [], length, get_or}
use Rattle.rtrb.specs.Ring.{known_items, received, sent}
use Rattle.scenario.specs.declared.scenario_type.Scenario.{Scenario}
use Rattle.scenario.specs.Plans.{Plan}
use Rattle.link_model.specs.Kinds.{run_of}
use Rattle.link_model.specs.kept.LaneRuns.{lane_run}
use Rattle.lane_threads.specs.declared.cell_end.CellEnd.{CellEnd}
use Rattle.lane_threads.specs.declared.lane_pair.LanePair.{LanePair}
use Rattle.lane_threads.specs.Segments.{IsOnePair}
use Rattle.lane_threads.specs.kept.LaneRuns.{HasRunLane}
use Rattle.link_run.specs.Given.{cells_in, most_held}

-- a scenario, on how many workers its lanes run, whether it has run, its lanes and the ends of their
-- rings
pub record BenchView : Type 0 where
  pub scenario : Scenario
  pub workers : ℕ
  pub ran : Bool
  pub lanes : List LanePair
  pub ends : List CellEnd

-- a lane went through these ticks, its ring carried the cells that it gave, in order, it has room
-- for as many cells as there are ticks less those, and it held that many entries at most
pub record IsLaneAfter (a : LanePair) (s : Plan) (t lane : ℕ) : Type 0 where
  pub went : HasRunLane a.lane s lane (lane_run s (run_of s t) lane)
  pub cells : sent a.ring ≡ cells_in s lane 0 t
  pub count : a.room + length (sent a.ring) ≡ s.ticks
  pub most : a.fullest ≡ most_held s lane t

-- the end of its ring received these cells, and knows of no other
pub record IsEndAfter (end : CellEnd) (s : Plan) (t lane : ℕ) : Type 0 where
  pub received_are : received end.ring ≡ cells_in s lane 0 t
  pub none_known : known_items end.ring ≡ []

-- all lanes, each one with the end of its ring
pub record HaveRun (lanes : List LanePair) (ends : List CellEnd) (s : Plan) (t : ℕ) : Type 0 where
  pub lane_count : length lanes ≡ s.link.params.l
  pub end_count : length ends ≡ s.link.params.l
  pub each_lane : (lane : ℕ) (d : LanePair) → lane < s.link.params.l
      → IsLaneAfter (get_or lanes lane d) s t lane
  pub each_end : (lane : ℕ) (e : CellEnd) → lane < s.link.params.l
      → IsEndAfter (get_or ends lane e) s t lane
  pub pairs : (lane : ℕ) (d : LanePair) (e : CellEnd) → lane < s.link.params.l
      → IsOnePair (get_or lanes lane d) (get_or ends lane e)
