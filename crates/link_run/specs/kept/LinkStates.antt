-- What both ends of a link and the lanes between them keep of a run.
-- Code: both devices, a list of lanes, a segment of ticks, and one frame.
use Rattle.std.specs.Prelude.{◌≡◌, ◌≤◌, ◌⊎◌, ℕ, suc, ◌+◌, ◌-◌, ◌==◌, ◌&&◌, Bool, if◌then◌else◌, List, [], get_or, length, None}
use Rattle.link_params.specs.declared.alarms.Alarm.{Alarm}
use Rattle.link_params.specs.declared.alarms.Device.TheVariants.{Tx, Rx}
use Rattle.link_params.specs.Links.{Link}
use Rattle.link_params.specs.Numbers.{period}
use Rattle.bring_up.specs.declared.stage.Decision.{Decision}
use Rattle.bring_up.specs.declared.stage.Decision.TheVariants as decision
use Rattle.bring_up.specs.Decisions.{is_running}
use Rattle.scenario.specs.Plans.{Plan}
use Rattle.link_run.specs.declared.ended.Ended.{Ended}
use Rattle.link_run.specs.declared.happened.Happened.{Happened}
use Rattle.link_run.specs.declared.ticked.Ticked.{Ticked}
use Rattle.link_model.specs.Edges.{is_reset}
use Rattle.link_model.specs.Kinds.{kind_of, moment_of, run_of}
use Rattle.link_model.specs.kept.LaneRuns.{lane_ready, lane_run, lane_stepped}
use Rattle.link_model.specs.Sends.{data_place}
use Rattle.lane_threads.specs.declared.lane_pair.LanePair.{LanePair}
use Rattle.lane_threads.specs.Segments.{no_step}
use Rattle.link_run.specs.kept.Collected.{Collecting, HasCollected}
use Rattle.link_run.specs.kept.Ends.{ArePairs, HaveCells}
use Rattle.link_run.specs.kept.Happened.{are_past}
use Rattle.link_run.specs.kept.LaneRuns.{AreAt, HaveRings, HaveRunLanes}
use Rattle.link_run.specs.kept.Segments.{HasPlanned, HasSteps, IsOneSegment, Planned, Planning, no_edges}
use Rattle.link_run.specs.kept.ReceiverRuns.{HasToldTick}
use Rattle.link_run.specs.kept.Sendings.{next_of}
use Rattle.link_run.specs.kept.Transmitters.{HasSentTick}
use Rattle.link_run.specs.kept.Waits.{HaveWaiting}

-- the link, both devices, the lanes, the segment that ran last, the one before it, and what is
-- collected of its cells
pub record LinkView : Type 0 where
  pub link : Link
  pub planning : Planning
  pub lanes : List LanePair
  pub latest : Ended
  pub last : Ended
  pub collecting : Collecting

-- the link and its segment have the sizes of the plan
pub record IsSized (now : LinkView) (s : Plan) : Type 0 where
  pub same_link : now.link ≡ s.link
  pub same_planning : now.planning.link ≡ s.link
  pub room : period s.link.params ≤ now.latest.segment.room
  pub last_room : period s.link.params ≤ now.last.segment.room
  pub pairs : ArePairs now.lanes now.collecting.ends

-- the lanes have run the first t ticks, the devices stand behind them
pub record HasRunLanes (now : LinkView) (s : Plan) (t : ℕ) : Type 0 where
  pub sized : IsSized now s
  pub planned : HasPlanned now.planning s t
  pub lanes : HaveRunLanes now.lanes s (lane_run s (run_of s t))
  pub rings : HaveRings now.lanes s t t
  pub at_next : AreAt now.lanes s.link.params (next_of s.link.params now.planning.tx.sending)

-- ticks t to t + m, a segment, are over
pub record IsOver (now : Ended) (s : Plan) (t m : ℕ) : Type 0 where
  pub has_steps : HasSteps now.segment s t (suc m)
  pub one : IsOneSegment now.segment.gives s t m
  pub reset : now.segment.rx_reset ≡ is_reset s Rx t
  pub decision_is : now.decision ≡ (moment_of s (run_of s (t + m))).decided.decision
  pub alarms_are : now.alarms ≡ (moment_of s (run_of s (t + m))).decided.alarms
  pub released_is : now.released ≡ is_running (moment_of s (run_of s (t + m))).stage

-- the ticks from tick `from` on and before tick t: a segment that is over, or none
pub record IsSegment (now : Ended) (s : Plan) (from t m : ℕ) : Type 0 where
  pub end_is : t ≡ from + suc m
  pub over : IsOver now s from m

pub record IsNothing (now : Ended) (from t : ℕ) : Type 0 where
  pub end_is : t ≡ from
  pub empty : now.segment.steps ≡ []

abbrev pub IsBefore : Ended → Plan → ℕ → ℕ → Type 0
IsBefore now s from t = IsNothing now from t ⊎ ((m : ℕ) × IsSegment now s from t m)

-- the lanes have run the first t ticks; those before tick `from` were collected, and the others are
-- the segment whose rows are due
pub record HasRun (now : LinkView) (s : Plan) (from t : ℕ) : Type 0 where
  pub ran : HasRunLanes now s t
  pub before : IsBefore now.last s from t
  pub collected : HasCollected now.collecting s from
  pub cells : HaveCells now.collecting.ends s from 0
  pub none_waits : HaveWaiting now.collecting.waiting s from 0

-- the events of tick t have happened
pub record HasHappened (x : Happened) (old now : LinkView) (s : Plan) (t : ℕ) : Type 0 where
  pub tx_reset : x.tx_reset ≡ is_reset s Tx t
  pub rx_reset : x.rx_reset ≡ is_reset s Rx t
  pub next : x.next ≡ are_past s (t + 1)
  pub lanes : HaveRunLanes now.lanes s (lane_ready s (run_of s t))
  pub rings : HaveRings now.lanes s t t
  pub pairs : ArePairs now.lanes now.collecting.ends
  pub at_next : AreAt now.lanes s.link.params
      (if x.tx_reset then None else next_of s.link.params old.planning.tx.sending)
  pub same : now ≡ record old { lanes = now.lanes }

-- ticks t to t + m were planned, and both ends stand at the last one
pub record WasPlanned (now : Planned) (after : Planning) (s : Plan) (t m : ℕ) : Type 0 where
  pub has_steps : HasSteps now s t (suc m)
  pub one : IsOneSegment now.gives s t m
  pub reset : now.rx_reset ≡ is_reset s Rx t
  pub decides_is : now.decides ≡ (moment_of s (run_of s (t + m))).decides
  pub next_is : after.next ≡ are_past s (t + suc m)
  pub sent : HasSentTick after.tx s (run_of s (t + m))
  pub told : HasToldTick after.rx s (run_of s (t + m))

-- the lanes have sent and taken ticks t to t + m
pub record HasCarriedOn (now : LinkView) (s : Plan) (t m : ℕ) : Type 0 where
  pub sized : IsSized now s
  pub planned : WasPlanned now.latest.segment now.planning s t m
  pub lanes : HaveRunLanes now.lanes s (lane_stepped (kind_of s.link.params) s (run_of s (t + m)))
  pub rings : HaveRings now.lanes s (t + m) (t + suc m)
  pub at_next : AreAt now.lanes s.link.params (next_of s.link.params now.planning.tx.sending)

-- the last of them has ended: the receiver has decided, and the lanes gave where the link runs
pub record HasEnded (now : LinkView) (s : Plan) (t m : ℕ) : Type 0 where
  pub planned : HasPlanned now.planning s (t + suc m)
  pub lanes : HaveRunLanes now.lanes s (lane_run s (run_of s (t + suc m)))
  pub rings : HaveRings now.lanes s (t + suc m) (t + suc m)
  pub pairs : ArePairs now.lanes now.collecting.ends
  pub at_next : AreAt now.lanes s.link.params (next_of s.link.params now.planning.tx.sending)
  pub decision_is : now.latest.decision ≡ (moment_of s (run_of s (t + m))).decided.decision
  pub alarms_are : now.latest.alarms ≡ (moment_of s (run_of s (t + m))).decided.alarms
  pub released_is : now.latest.released ≡ is_running (moment_of s (run_of s (t + m))).stage

-- the rows of the ticks from tick `from` on and before tick t are due, and their cells wait
pub record HasDue (now : LinkView) (s : Plan) (from t : ℕ) : Type 0 where
  pub same_link : now.link ≡ s.link
  pub before : IsBefore now.last s from t
  pub collected : HasCollected now.collecting s from
  pub waiting : HaveWaiting now.collecting.waiting s from (t - from)

-- ticks t to t + m have run, and the cells of those from tick `from` on and before tick t wait
pub record HasNext (now : LinkView) (s : Plan) (from t m : ℕ) : Type 0 where
  pub ran : HasRunLanes now s (t + suc m)
  pub over : IsOver now.latest s t m
  pub cells : HaveCells now.collecting.ends s t 0
  pub due : HasDue now s from t

-- the run of t ticks is over
pub record HasFinished (now : LinkView) (s : Plan) (from t : ℕ) : Type 0 where
  pub ran : HasRunLanes now s t
  pub cells : HaveCells now.collecting.ends s t 0
  pub due : HasDue now s from t

-- all cells of the ticks before tick t were taken
pub record HasAllTaken (now : LinkView) (s : Plan) (t : ℕ) : Type 0 where
  pub collected : HasCollected now.collecting s t
  pub none_waits : HaveWaiting now.collecting.waiting s t 0

-- ticks t to t + m have run, and all before them was reported
pub record HasReportedBefore (now : LinkView) (s : Plan) (t m : ℕ) : Type 0 where
  pub ran : HasRunLanes now s (t + suc m)
  pub over : IsOver now.latest s t m
  pub cells : HaveCells now.collecting.ends s t 0
  pub taken : HasAllTaken now s t

-- the whole run is over: the lanes made it, and the ends of their rings received all that they gave
pub record HasRunWhole (now : LinkView) (s : Plan) : Type 0 where
  pub ran : HasRunLanes now s s.ticks
  pub cells : HaveCells now.collecting.ends s s.ticks 0

-- of the segment of ticks t to t + m, whose rows are due, the first i ticks were collected
pub record HasSegment (now : LinkView) (s : Plan) (t m i : ℕ) : Type 0 where
  pub same_link : now.link ≡ s.link
  pub over : IsOver now.last s t m
  pub within : i ≤ suc m
  pub collected : HasCollected now.collecting s (t + i)
  pub cells : HaveWaiting now.collecting.waiting s (t + i) (suc m - i)

-- whether the receiver was reset in tick i of the segment, whether the link runs after it, and
-- what the receiver decided in it
abbrev pub reset_in : LinkView → ℕ → Bool
reset_in now i = (i == 0) && now.last.segment.rx_reset

abbrev pub runs_in : LinkView → ℕ → Bool
runs_in now i =
    if i + 1 == length now.last.segment.steps then now.last.released else now.last.segment.gives

abbrev pub decision_in : LinkView → ℕ → Decision
decision_in now i =
    if i + 1 == length now.last.segment.steps then now.last.decision else decision.Stay

-- what is seen of it
abbrev pub seen_in : LinkView → ℕ → Ticked
seen_in now i = record {
  rx_reset = reset_in now i;
  tx_off = (get_or now.last.segment.edges i no_edges).tx;
  rx_off = (get_or now.last.segment.edges i no_edges).rx;
  place = data_place (get_or now.last.segment.steps i no_step).tx;
  decision = decision_in now i;
}

-- the alarms of the decision in tick i of the segment: only in its last tick there are any
abbrev pub alarms_in : LinkView → ℕ → List Alarm
alarms_in now i = if i + 1 == length now.last.segment.steps then now.last.alarms else []
