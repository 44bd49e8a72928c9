-- What a lane of a run went through, and what its two ends and its line keep of it.
-- Code: two ends and a line.
use Rattle.std.specs.Prelude.{◌≡◌, ℕ, ◌-◌, ◌*◌, Bool}
use Rattle.link_params.specs.declared.fields.Params.{Params}
use Rattle.link_params.specs.Numbers.{depth, period, width}
use Rattle.line_model.specs.LineBits.{Settings}
use Rattle.line_model.specs.kept.Lines.{Kept, HasCarried}
use Rattle.scenario.specs.Plans.{Plan}
use Rattle.link_model.specs.Carried.{inverted_bits}
use Rattle.link_model.specs.Wiring.{route_of, wire_of}
use Rattle.link_model.specs.kept.LaneRuns.{LaneRun}
use Rattle.lane_threads.specs.declared.rx_lane.RxLane.{RxLane}
use Rattle.lane_threads.specs.declared.tx_lane.TxLane.{TxLane}
use Rattle.lane_threads.specs.kept.LaneEnds.{HasSent, HasTaken, buffer_in, rx_width, tx_width}

-- a lane as contracts see it: its ends, its line, and whether all bits that it receives are inverted
pub record Pair : Type 0 where
  pub tx : TxLane
  pub line : Kept
  pub rx : RxLane
  pub inverted : Bool

-- its ends and its line have ticks of the same width
pub record AreAlike (tx : TxLane) (line : Kept) (rx : RxLane) : Type 0 where
  pub sends : line.set.width ≡ tx_width tx
  pub takes : rx_width rx ≡ tx_width tx

-- how the line of a lane is set
abbrev pub settings : Plan → ℕ → LaneRun → Settings
settings s lane x = record {
  width = width s.link.params;
  reach = x.reach;
  delay = x.delay;
  dead = x.dead;
  flips = inverted_bits s lane (width s.link.params * s.ticks);
}

-- a lane of this plan went through this: a receiver lane, and the transmitter lane to which it is
-- wired
pub record HasRunLane (now : Pair) (s : Plan) (lane : ℕ) (x : LaneRun) : Type 0 where
  pub tx : HasSent now.tx s.link.params (wire_of s lane) x.handed
  pub line : HasCarried now.line (settings s lane x) x.sent
  pub rx : HasTaken now.rx s.link.params s.link.timing (route_of s lane) x.taken x.gave
  pub polarity : now.inverted ≡ x.inverted
  pub depth : (buffer_in now.rx).depth ≡ depth s.link.params s.link.timing
