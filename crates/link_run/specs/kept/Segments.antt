-- The ticks of a segment, planned before the lanes run it.
-- Code: a list of orders, and what the report asks of each tick.
use Rattle.std.specs.Prelude.{◌≡◌, ◌<◌, ◌≤◌, ℕ, zero, suc, ◌+◌, Bool, true, false, List, [], ◌∷◌, ◌++◌, length, get_or, slice_index, Option, None, if◌then◌else◌}
use Rattle.link_params.specs.declared.alarms.Device.TheVariants.{Tx, Rx}
use Rattle.link_params.specs.declared.fields.Params.{Params}
use Rattle.link_params.specs.Laws.{broken_law}
use Rattle.link_params.specs.Links.{Link}
use Rattle.link_params.specs.Numbers.{period}
use Rattle.link_params.specs.TimingLaws.{broken_timing}
use Rattle.bring_up.specs.Decisions.{is_running}
use Rattle.scenario.specs.Limits.{is_order}
use Rattle.scenario.specs.Plans.{Plan}
use Rattle.link_model.specs.Edges.{is_reset, off}
use Rattle.link_model.specs.Wiring.{wire_of}
use Rattle.link_model.specs.Kinds.{moment_of, run_of}
use Rattle.link_model.specs.kept.LaneRuns.{lane_ready, lane_run}
use Rattle.lane_threads.specs.declared.lane_pair.LanePair.{LanePair}
use Rattle.lane_threads.specs.declared.step.Step.{Step}
use Rattle.lane_threads.specs.Segments.{EachCanRun, no_step}
use Rattle.lane_threads.specs.kept.LaneEnds.{Follows, buffer_in, next_after}
use Rattle.link_run.specs.declared.edges.Edges.{Edges}
use Rattle.link_run.specs.kept.Happened.{are_past}
use Rattle.link_run.specs.kept.LaneRuns.{AreAt, HaveRings, HaveRunLanes}
use Rattle.link_run.specs.kept.ReceiverRuns.{HasReceivedRun, HasToldTick, RxEnd}
use Rattle.link_run.specs.kept.Sendings.{next_of}
use Rattle.link_run.specs.kept.Transmitters.{HasSentRun, HasSentTick, TxEnd}

-- the orders of each tick, and the edges that came off a boundary in it; whether the receiver was
-- reset in the first one, whether the lanes give between the ticks, whether the receiver decides in
-- the last one; for how many ticks there is room
pub record Planned : Type 0 where
  pub steps : List Step
  pub edges : List Edges
  pub rx_reset : Bool
  pub gives : Bool
  pub decides : Bool
  pub room : ℕ

-- the link, the place of the next event, and both ends
pub record Planning : Type 0 where
  pub link : Link
  pub next : ℕ
  pub tx : TxEnd
  pub rx : RxEnd

-- the orders of tick t of a plan's run, and its edges off a boundary
abbrev pub step_of : Plan → ℕ → Step
step_of s t = record {
  tx = (moment_of s (run_of s t)).order;
  rx = (moment_of s (run_of s t)).told;
}

abbrev pub edges_of : Plan → ℕ → Edges
edges_of s t = record { tx = off s Tx t; rx = off s Rx t }

abbrev pub no_edges : Edges
no_edges = record { tx = None; rx = None }

-- n ticks from tick t on are planned
pub record HasSteps (now : Planned) (s : Plan) (t n : ℕ) : Type 0 where
  pub count : length now.steps ≡ n
  pub edge_count : length now.edges ≡ n
  pub steps_are : (i : ℕ) → i < n → get_or now.steps i no_step ≡ step_of s (t + i)
  pub edges_are : (i : ℕ) → i < n → get_or now.edges i no_edges ≡ edges_of s (t + i)

-- and each lane has the octets of the transmitter lane to which it is wired
abbrev pub HaveOctets : List LanePair → Plan → ℕ → ℕ → Type 0
HaveOctets lanes s t n = (lane i : ℕ) (d : LanePair) → lane < length lanes → i < n
    → slice_index (get_or lanes lane d).octets.items i
    ≡ slice_index (moment_of s (run_of s (t + i))).handed (wire_of s lane)

-- the place of the data that comes next, before tick i of these steps
abbrev pub next_before : Params → Option ℕ → List Step → ℕ → Option ℕ
next_before p first steps zero = first
next_before p first steps (suc i) = next_after p (get_or steps i no_step).tx

-- each order follows the one before, the first one a lane whose next data has this place
abbrev pub FollowOn : List Step → Params → Option ℕ → Option ℕ → ℕ → Type 0
FollowOn steps p first last n =
    ((i : ℕ) → i < n → Follows p (next_before p first steps i) (get_or steps i no_step).tx)
    × (last ≡ next_before p first steps n)

-- ticks t to t + m are a segment: after its first tick there is no event and no reset, before its
-- last one no decision, so that the link runs in each tick but the last, or in none
pub record IsOneSegment (gives : Bool) (s : Plan) (t m : ℕ) : Type 0 where
  pub within : t + m < s.ticks
  pub short : m < period s.link.params
  pub calm : (i lane : ℕ) → 0 < i → i ≤ m
      → lane_ready s (run_of s (t + i)) lane ≡ lane_run s (run_of s (t + i)) lane
  pub unreset : (i : ℕ) → 0 < i → i ≤ m
      → (is_reset s Tx (t + i) ≡ false) × (is_reset s Rx (t + i) ≡ false)
  pub quiet : (i : ℕ) → i < m → (moment_of s (run_of s (t + i))).decides ≡ false
  pub running : (i : ℕ) → i < m → is_running (moment_of s (run_of s (t + i))).stage ≡ gives

-- ticks t to t + m are planned, and both ends stand at the last one
pub record IsPlanned (now : Planned) (after : Planning) (lanes : List LanePair) (s : Plan)
    (t m : ℕ) : Type 0 where
  pub has_steps : HasSteps now s t (suc m)
  pub octets : HaveOctets lanes s t (suc m)
  pub one : IsOneSegment now.gives s t m
  pub reset : now.rx_reset ≡ is_reset s Rx t
  pub decides_is : now.decides ≡ (moment_of s (run_of s (t + m))).decides
  pub next_is : after.next ≡ are_past s (t + suc m)
  pub sent : HasSentTick after.tx s (run_of s (t + m))
  pub told : HasToldTick after.rx s (run_of s (t + m))

-- the ticks before tick t are over for both ends
pub record StandAt (now : Planning) (s : Plan) (t : ℕ) : Type 0 where
  pub same_link : now.link ≡ s.link
  pub sent : HasSentRun now.tx s (run_of s t)
  pub told : HasReceivedRun now.rx s (run_of s t)

-- and the next event is the first one that is not of an earlier tick
pub record HasPlanned (now : Planning) (s : Plan) (t : ℕ) : Type 0 where
  pub stands : StandAt now s t
  pub next_is : now.next ≡ are_past s t

-- tick t was planned: its orders and edges stand last, and both ends have told them
pub record HasPlannedTick (old now : Planned) (before after : Planning) (reset : Bool) (s : Plan)
    (t : ℕ) : Type 0 where
  pub steps : now.steps ≡ old.steps ++ step_of s t ∷ []
  pub edges : now.edges ≡ old.edges ++ edges_of s t ∷ []
  pub decides_is : now.decides ≡ (moment_of s (run_of s t)).decides
  pub sent : HasSentTick after.tx s (run_of s t)
  pub told : HasToldTick after.rx s (run_of s t)
  pub follows : Follows s.link.params
      (if reset then None else next_of s.link.params before.tx.sending) (step_of s t).tx
  pub next : next_of s.link.params after.tx.sending ≡ next_after s.link.params (step_of s t).tx

-- ---- the lanes run what was planned

-- each lane can run the segment
abbrev pub CanCarry : List LanePair → Planned → Type 0
CanCarry lanes g = EachCanRun g.steps g.gives lanes

-- the lanes of a legal link went through the ticks before tick t and the events of tick t, and have
-- the octets of ticks t to t + m, which are a segment and were planned; the data that comes next has
-- the place `first` before it, and `last` after it
pub record IsCarried (lanes : List LanePair) (g : Planned) (s : Plan) (t m : ℕ)
    (first last : Option ℕ) : Type 0 where
  pub laws : broken_law s.link.params ≡ None
  pub timing : broken_timing s.link.params s.link.timing ≡ None
  pub wire : is_order s.link.params.l s.wire ≡ true
  pub runs : HaveRunLanes lanes s (lane_ready s (run_of s t))
  pub rings : HaveRings lanes s t t
  pub at_first : AreAt lanes s.link.params first
  pub has_steps : HasSteps g s t (suc m)
  pub octets : HaveOctets lanes s t (suc m)
  pub one : IsOneSegment g.gives s t m
  pub follows : FollowOn g.steps s.link.params first last (suc m)

-- each lane holds an entry, and its ring has room
abbrev pub CanGive : List LanePair → Type 0
CanGive lanes = (lane : ℕ) (d : LanePair) → lane < length lanes
    → (0 < length (buffer_in (get_or lanes lane d).lane.rx).cells)
    × (0 < (get_or lanes lane d).room)
