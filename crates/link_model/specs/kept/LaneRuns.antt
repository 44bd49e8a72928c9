-- What a lane of a run went through, for lemmas about a history; the definition of a run does not
-- need it. A lane is a receiver lane, and the transmitter lane to which it is wired.
-- Code: what the two ends of a lane and its line keep.
use Rattle.std.specs.Prelude.{◌≡◌, ℕ, ◌-◌, ◌*◌, Bool, false, if◌then◌else◌, List, [], ◌∷◌, ◌++◌, length, get_or, Option, drop}
use Rattle.link_params.specs.declared.orders.TxOrder.{TxOrder}
use Rattle.link_params.specs.declared.orders.RxOrder.{RxOrder}
use Rattle.link_params.specs.declared.cells.LaneCell.{LaneCell}
use Rattle.link_params.specs.declared.fields.Params.{Params}
use Rattle.link_params.specs.Numbers.{period, width}
use Rattle.link_params.specs.Lanes.{Handed, LaneKind, Placed, Taken}
use Rattle.line_model.specs.LineBits.{line_word}
use Rattle.lane_b.specs.kept.Gives.{given}
use Rattle.scenario.specs.Plans.{Plan}
use Rattle.link_params.specs.declared.alarms.Device.TheVariants.{Tx}
use Rattle.link_model.specs.kept.Before.{current, dead_before, delay_before, handed_in, reset_before}
use Rattle.link_model.specs.Carried.{delay_at, first_delay, inverted_bits, is_dead, with_polarity}
use Rattle.link_model.specs.Edges.{last_reset}
use Rattle.link_model.specs.Gives.{gives_in}
use Rattle.link_model.specs.Hunts.{session}
use Rattle.link_model.specs.Moments.{History}
use Rattle.link_model.specs.Receives.{taken_in}
use Rattle.link_model.specs.Run.{moment}
use Rattle.link_model.specs.Sends.{handed_since, last_of, sent_bits}
use Rattle.link_model.specs.Wiring.{has_inverted_polarity, route_of, wire_of}

-- the longest delay of a lane, in bits
abbrev pub reach : Params → ℕ
reach p = (period p - 1) * width p

-- what its transmitter end was handed since the transmitter's reset, all bits that were sent on it,
-- its longest delay, its delay, whether it is dead and whether its bits are inverted, what its receiver end took since
-- the hunt, and how many entries it gave
pub record LaneRun : Type 0 where
  pub handed : List Handed
  pub sent : List Bool
  pub reach : ℕ
  pub delay : ℕ
  pub dead : Bool
  pub inverted : Bool
  pub taken : List Taken
  pub gave : ℕ

-- what a lane went through in the ticks that are over
abbrev pub lane_run : Plan → History → ℕ → LaneRun
lane_run s h lane = record {
  handed = handed_in (drop (reset_before s Tx (length h)) h) (wire_of s lane);
  sent = sent_bits h (wire_of s lane);
  reach = reach s.link.params;
  delay = delay_before s lane (length h);
  dead = dead_before s lane (length h);
  inverted = has_inverted_polarity s lane;
  taken = taken_in (current h) lane;
  gave = gives_in (current h);
}

-- the same once the events of the tick that comes have happened
abbrev pub lane_ready : Plan → History → ℕ → LaneRun
lane_ready s h lane = record {
  handed = handed_since s h (wire_of s lane);
  sent = sent_bits h (wire_of s lane);
  reach = reach s.link.params;
  delay = delay_at s lane (length h);
  dead = is_dead s lane (length h);
  inverted = has_inverted_polarity s lane;
  taken = taken_in (current h) lane;
  gave = gives_in (current h);
}

-- and once the tick was sent and taken
abbrev pub lane_stepped : LaneKind → Plan → History → ℕ → LaneRun
lane_stepped k s h lane = let more = h ++ moment k s h ∷ [] in record {
  handed = handed_in (drop (last_reset s Tx (length h)) more) (wire_of s lane);
  sent = sent_bits more (wire_of s lane);
  reach = reach s.link.params;
  delay = delay_at s lane (length h);
  dead = is_dead s lane (length h);
  inverted = has_inverted_polarity s lane;
  taken = taken_in (current more) lane;
  gave = gives_in (session s h);
}

-- what was handed, with a tick more
abbrev pub handed_with : LaneRun → TxOrder → ℕ → List Handed
handed_with x order octets = x.handed ++ (record { order = order; octets = octets }) ∷ []

-- the bits that are sent in it
abbrev pub bits_with : LaneKind → Plan → ℕ → LaneRun → TxOrder → ℕ → List Bool
bits_with k s lane x order octets =
    last_of [] (k.sends s.link.params (wire_of s lane) (handed_with x order octets))

-- the bits that are received in it
abbrev pub word_with : LaneKind → Plan → ℕ → LaneRun → TxOrder → ℕ → List Bool
word_with k s lane x order octets =
    with_polarity x.inverted
    (line_word (width s.link.params) (x.sent ++ bits_with k s lane x order octets)
    (inverted_bits s lane (width s.link.params * s.ticks)) x.delay x.dead)

-- a tick more
abbrev pub stepped : LaneKind → Plan → ℕ → LaneRun → TxOrder → ℕ → RxOrder → LaneRun
stepped k s lane x order octets told =
    let y : Taken = record { order = told; word = word_with k s lane x order octets } in record {
      handed = handed_with x order octets;
      sent = x.sent ++ bits_with k s lane x order octets;
      reach = x.reach;
      delay = x.delay;
      dead = x.dead;
      inverted = x.inverted;
      taken = if told.hunt then y ∷ [] else x.taken ++ y ∷ [];
      gave = if told.hunt then 0 else x.gave;
    }

-- a lane of which nothing has happened
abbrev pub no_run : Plan → LaneRun
no_run s = record {
  handed = [];
  sent = [];
  reach = reach s.link.params;
  delay = first_delay s;
  dead = false;
  inverted = false;
  taken = [];
  gave = 0;
}

-- both ends of a lane are new, whatever its line carried before
abbrev pub HasNewEnds : LaneRun → Type 0
HasNewEnds x = (x.handed ≡ []) × (x.inverted ≡ false) × (x.taken ≡ []) × (x.gave ≡ 0)

-- what each lane holds, and what each one gives next
abbrev pub held_by : LaneKind → Plan → (ℕ → LaneRun) → ℕ → ℕ
held_by k s runs lane =
    length (k.entries s.link.params s.link.timing (route_of s lane) (runs lane).taken)
    - (runs lane).gave

abbrev pub given_by : LaneKind → Plan → (ℕ → LaneRun) → ℕ → Option LaneCell
given_by k s runs lane =
    given (get_or (k.entries s.link.params s.link.timing (route_of s lane) (runs lane).taken)
    (runs lane).gave Placed)
