-- Both ends of a link and the lanes between them, through a segment.
use Rattle.std.proofs.Common.{◌≡◌, ◌∙◌, ◌<◌, ◌≤◌, ◌+◌, ◌-◌, ℕ, suc, true, false, List, [], ◌++◌, length, get_or, if◌then◌else◌, Option, None, inl, inr, arith, refl, sym, ap, subst, append-nil}
use Rattle.rtrb.specs.Ring.{IsPair, sent}
use Rattle.link_params.specs.declared.cells.LaneCell.{LaneCell}
use Rattle.link_params.specs.declared.fields.Params.{Params}
use Rattle.link_params.specs.declared.alarms.Device.TheVariants.{Tx, Rx}
use Rattle.link_params.specs.Lanes.{LaneKind}
use Rattle.link_params.specs.Links.{Link}
use Rattle.link_params.specs.Numbers.{period}
use Rattle.bring_up.specs.Decisions.{is_running}
use Rattle.scenario.specs.Plans.{Plan}
use Rattle.lane_threads.specs.declared.cell_end.CellEnd.{CellEnd}
use Rattle.lane_threads.specs.declared.lane_pair.LanePair.{LanePair}
use Rattle.lane_threads.specs.kept.LaneRuns.{HasRunLane}
use Rattle.link_model.proofs.LaneHistory.{has-hunt-run, lane-run-none}
use Rattle.link_model.specs.Edges.{is_reset}
use Rattle.link_model.specs.Kinds.{kind_of, moment_of, run_of}
use Rattle.scenario.specs.Limits.{is_order}
use Rattle.link_model.specs.Wiring.{has_inverted_polarity}
use Rattle.link_model.specs.kept.LaneRuns.{LaneRun, lane_ready, lane_run, lane_stepped, no_run}
use Rattle.link_model.specs.Run.{run}
use Rattle.link_run.proofs.Collecting.{cells-last, cells-still, running}
use Rattle.link_run.proofs.TakenCells.{cells-few, filled-cells, filled-collected, filled-pairs, filled-waiting}
use Rattle.link_run.proofs.GiveFacts.{lane-still}
use Rattle.link_run.proofs.LaneStates.{have-same}
use Rattle.link_run.proofs.Rooms.{IsGood, stepped-entry}
use Rattle.link_run.specs.declared.ended.Ended.{Ended}
use Rattle.link_run.specs.declared.happened.Happened.{Happened}
use Rattle.link_run.specs.Given.{cells_in}
use Rattle.link_run.specs.kept.Collected.{Collecting, HasCollected, IsLegalLink}
use Rattle.link_run.specs.kept.Ends.{ArePairs, HaveCells}
use Rattle.link_run.specs.kept.Happened.{are_past}
use Rattle.link_run.specs.kept.LaneRuns.{AreAt, AreOnRings, AreSameLanes, HaveRings, HaveRunLanes, KeepRings}
use Rattle.link_run.specs.kept.LinkStates.{HasAllTaken, HasCarriedOn, HasEnded, HasFinished, HasHappened, HasNext, HasReportedBefore, HasRun, HasRunLanes, HasRunWhole, IsBefore, IsOver, IsSized, LinkView, WasPlanned}
use Rattle.link_run.specs.kept.ReceiverRuns.{HasReceivedRun, IsEnded, RxEnd}
use Rattle.link_run.specs.kept.Segments.{CanGive, FollowOn, HasPlanned, HasSteps, IsCarried, IsOneSegment, IsPlanned, Planned, Planning, StandAt}
use Rattle.link_run.specs.kept.Sendings.{next_of}
use Rattle.link_run.specs.kept.Transmitters.{HasSentRun}
use Rattle.link_run.specs.kept.Waits.{AreFilled, HaveWaiting}

-- ---- lanes and ends that stay pairs

pub pairs-kept : (old now : List LanePair) (ends : List CellEnd) → KeepRings old now
    → ArePairs old ends → ArePairs now ends
pairs-kept old now ends h pairs =
    let long = h.count in
    record {
      count = pairs.count ∙ sym h.count;
      each = λ lane d e below.
          subst (λ r. IsPair r (get_or ends lane e).ring) (sym (h.each lane d (omega arith)).ring)
          (pairs.each lane d e (omega arith));
    }

pub keeps-same : (old now : List LanePair) → AreSameLanes old now → KeepRings old now
keeps-same old now h = record {
  count = h.count;
  each = λ lane d below. let a = h.each lane d below in
      record { fullest = a.fullest; room = a.room; ring = a.ring };
}

pub pairs-on : (old now : List LanePair) (ends : List CellEnd) → AreOnRings old now
    → ArePairs old ends → ArePairs now ends
pairs-on old now ends h pairs =
    let long = h.count in
    record {
      count = pairs.count ∙ sym h.count;
      each = λ lane d e below.
          let r = (h.each lane d (omega arith)).0 in
          let pair = pairs.each lane d e (omega arith) in
          (pair.0 ∙ sym r.0, pair.1 ∙ sym r.1, pair.2 ∙ sym r.2, pair.3 ∙ sym r.3);
    }

-- ---- lanes that are the same but for their octets

pub same-runs : (old now : List LanePair) (s : Plan) (runs : ℕ → LaneRun) → AreSameLanes old now
    → HaveRunLanes old s runs → HaveRunLanes now s runs
same-runs old now s runs h ran = (
  h.count ∙ ran.0,
  λ lane d below.
      let count = ran.0 in
      subst (λ x. HasRunLane x s lane (runs lane)) (sym (h.each lane d (omega arith)).lane)
      (ran.1 lane d below),
)

pub same-rings : (old now : List LanePair) (s : Plan) (given held : ℕ) → AreSameLanes old now
    → HaveRings old s given held → HaveRings now s given held
same-rings old now s given held h rings lane d below =
    let long = h.count in
    let a = h.each lane d (omega arith) in
    let r = rings lane d (omega arith) in
    record {
      cells = ap sent a.ring ∙ r.cells;
      count = rw (a.room, a.ring) r.count;
      most = a.fullest ∙ r.most;
    }

pub same-at : (old now : List LanePair) (p : Params) (next : Option ℕ) → AreSameLanes old now
    → AreAt old p next → AreAt now p next
same-at old now p next h at lane d below =
    let long = h.count in
    rw (h.each lane d (omega arith)).lane (at lane d (omega arith))

-- ---- the segment is carried

pub is-carried : (old now : List LanePair) (g : Planned) (after : Planning) (s : Plan) (t m : ℕ)
    (first : Option ℕ) → IsLegalLink s → is_order s.link.params.l s.wire ≡ true
    → HaveRunLanes old s (lane_ready s (run_of s t)) → HaveRings old s t t
    → AreAt old s.link.params first → AreSameLanes old now
    → IsPlanned g after now s t m → length g.steps ≡ suc m
    → FollowOn g.steps s.link.params first (next_of s.link.params after.tx.sending)
    (length g.steps)
    → IsCarried now g s t m first (next_of s.link.params after.tx.sending)
is-carried old now g after s t m first legal wire ran rings at same planned count follows = record {
  laws = legal.laws;
  timing = legal.timing;
  wire = wire;
  runs = same-runs old now s (lane_ready s (run_of s t)) same ran;
  rings = same-rings old now s t t same rings;
  at_first = same-at old now s.link.params first same at;
  has_steps = planned.has_steps;
  octets = planned.octets;
  one = planned.one;
  follows = subst (FollowOn g.steps s.link.params first (next_of s.link.params after.tx.sending))
      count follows;
}

pub was-planned : (g : Planned) (after : Planning) (lanes : List LanePair) (s : Plan) (t m : ℕ)
    → IsPlanned g after lanes s t m → WasPlanned g after s t m
was-planned g after lanes s t m h = record {
  has_steps = h.has_steps;
  one = h.one;
  reset = h.reset;
  decides_is = h.decides_is;
  next_is = h.next_is;
  sent = h.sent;
  told = h.told;
}

-- ---- its first tick

-- the events of tick t have happened, and the ticks before it are over
pub record IsReady (x : Happened) (now : LinkView) (s : Plan) (t : ℕ) : Type 0 where
  pub tx_reset : x.tx_reset ≡ is_reset s Tx t
  pub rx_reset : x.rx_reset ≡ is_reset s Rx t
  pub next : x.next ≡ are_past s (t + 1)
  pub sized : IsSized now s
  pub planned : HasPlanned now.planning s t
  pub lanes : HaveRunLanes now.lanes s (lane_ready s (run_of s t))
  pub rings : HaveRings now.lanes s t t
  pub at_next : AreAt now.lanes s.link.params
      (if x.tx_reset then None else next_of s.link.params now.planning.tx.sending)

pub is-ready : (x : Happened) (old now : LinkView) (s : Plan) (t : ℕ) → HasRunLanes old s t
    → HasHappened x old now s t → IsReady x now s t
is-ready x old now s t had h =
    let planning = ap (λ (v : LinkView). v.planning) (sym h.same) in
    let z = had.sized in
    record {
      tx_reset = h.tx_reset;
      rx_reset = h.rx_reset;
      next = h.next;
      sized = record {
        same_link = ap (λ (v : LinkView). v.link) h.same ∙ z.same_link;
        same_planning = ap (λ (v : LinkView). v.planning.link) h.same ∙ z.same_planning;
        room = subst (λ (e : Ended). period s.link.params ≤ e.segment.room)
            (ap (λ (v : LinkView). v.latest) (sym h.same)) z.room;
        last_room = subst (λ (e : Ended). period s.link.params ≤ e.segment.room)
            (ap (λ (v : LinkView). v.last) (sym h.same)) z.last_room;
        pairs = h.pairs;
      };
      planned = subst (λ (p : Planning). HasPlanned p s t) planning had.planned;
      lanes = h.lanes;
      rings = h.rings;
      at_next = subst (λ (p : Planning). AreAt now.lanes s.link.params
          (if x.tx_reset then None else next_of s.link.params p.tx.sending)) planning h.at_next;
    }

-- the lanes can run what was planned
pub planned-carried : (v : LinkView) (x : Happened) (s : Plan) (t m : ℕ) (mid : List LanePair)
    (g : Planned) (after : Planning) → IsLegalLink s → is_order s.link.params.l s.wire ≡ true
    → IsReady x v s t → AreSameLanes v.lanes mid
    → IsPlanned g after mid s t m → length g.steps ≡ suc m
    → FollowOn g.steps v.planning.link.params
    (if x.tx_reset then None else next_of v.planning.link.params v.planning.tx.sending)
    (next_of v.planning.link.params after.tx.sending) (length g.steps)
    → IsCarried mid g s t m
    (if x.tx_reset then None else next_of s.link.params v.planning.tx.sending)
    (next_of s.link.params after.tx.sending)
planned-carried v x s t m mid g after legal wire ready same planned count follows =
    is-carried v.lanes mid g after s t m
    (if x.tx_reset then None else next_of s.link.params v.planning.tx.sending) legal wire ready.lanes
    ready.rings ready.at_next same planned count
    (subst (λ (k : Link). FollowOn g.steps k.params
    (if x.tx_reset then None else next_of k.params v.planning.tx.sending)
    (next_of k.params after.tx.sending) (length g.steps)) ready.sized.same_planning follows)

-- both ends stand at the last tick, and the lanes ran to it
abbrev pub with_carried : LinkView → Planning → List LanePair → Planned → Collecting → LinkView
with_carried v after lanes g now = record v {
  planning = after;
  lanes = lanes;
  latest = record v.latest { segment = g };
  collecting = now;
}

pub carried-on : (v : LinkView) (x : Happened) (s : Plan) (t m : ℕ) (mid lanes : List LanePair)
    (g : Planned) (after : Planning) (now : Collecting) → IsReady x v s t
    → after.link ≡ v.planning.link → g.room ≡ v.latest.segment.room → AreSameLanes v.lanes mid
    → IsPlanned g after mid s t m → AreOnRings mid lanes
    → AreFilled v.collecting.waiting now.waiting v.collecting.ends now.ends v.collecting.route
    → HaveRunLanes lanes s (lane_stepped (kind_of s.link.params) s (run_of s (t + m)))
    → HaveRings lanes s (t + m) (t + suc m)
    → AreAt lanes s.link.params (next_of s.link.params after.tx.sending)
    → HasCarriedOn (with_carried v after lanes g now) s t m
carried-on v x s t m mid lanes g after now ready link room same planned on filled runs rings at =
    record {
      sized = record {
        same_link = ready.sized.same_link;
        same_planning = link ∙ ready.sized.same_planning;
        room = subst (λ (n : ℕ). period s.link.params ≤ n) (sym room) ready.sized.room;
        last_room = ready.sized.last_room;
        pairs = filled-pairs lanes _ _ _ _ _ filled (pairs-on mid lanes v.collecting.ends on
            (pairs-kept v.lanes mid v.collecting.ends (keeps-same v.lanes mid same)
            ready.sized.pairs));
      };
      planned = was-planned g after mid s t m planned;
      lanes = runs;
      rings = rings;
      at_next = at;
    }

-- ---- its last tick ends

-- each lane holds an entry and has room for a cell
pub can-give : (lanes : List LanePair) (s : Plan) (t : ℕ) → IsLegalLink s → t < s.ticks
    → HaveRunLanes lanes s (lane_stepped (kind_of s.link.params) s (run_of s t))
    → HaveRings lanes s t (suc t) → is_running (moment_of s (run_of s t)).stage ≡ true
    → CanGive lanes
can-give lanes s t legal within ran rings goes lane d below =
    let runs = running (moment_of s (run_of s t)).stage goes in
    let good : IsGood s.link = record { laws = legal.laws; timing = legal.timing } in
    let r = rings lane d below in
    let few = cells-few t s lane 0 in
    let sent_is = ap length r.cells in
    let count = r.count in
    (stepped-entry lanes s t good ran runs lane d below, omega arith)

-- where the link does not run, nothing is given
pub rings-still : (lanes : List LanePair) (s : Plan) (t : ℕ)
    → is_running (moment_of s (run_of s t)).stage ≡ false → HaveRings lanes s t (suc t)
    → HaveRings lanes s (suc t) (suc t)
rings-still lanes s t halts rings lane d below =
    let r = rings lane d below in
    record {
      cells = r.cells
          ∙ sym (cells-last s lane t
          ∙ ap (λ (xs : List LaneCell). cells_in s lane 0 t ++ xs) (cells-still s lane t halts)
          ∙ append-nil (cells_in s lane 0 t));
      count = r.count;
      most = r.most;
    }

pub runs-still : (lanes : List LanePair) (s : Plan) (t : ℕ)
    → is_running (moment_of s (run_of s t)).stage ≡ false
    → HaveRunLanes lanes s (lane_stepped (kind_of s.link.params) s (run_of s t))
    → HaveRunLanes lanes s (lane_run s (run_of s (suc t)))
unfolding run
runs-still lanes s t halts ran =
    let k : LaneKind = kind_of s.link.params in
    have-same lanes s (lane_stepped k s (run_of s t)) (lane_run s (run_of s (suc t)))
    (λ lane below. lane-still s (run_of s t) lane (has-hunt-run k t s) halts) ran

-- the receiver has decided, its alarms were handed out, and the lanes gave where the link runs
pub has-ended : (old now : LinkView) (rx : RxEnd) (s : Plan) (t m : ℕ) → HasCarriedOn old s t m
    → now.planning.link ≡ old.planning.link → now.planning.next ≡ old.planning.next
    → now.planning.tx.sending ≡ old.planning.tx.sending
    → IsEnded now.latest.decision rx s (run_of s (t + m)) → now.latest.alarms ≡ rx.alarms
    → HasReceivedRun now.planning.rx s (run_of s (suc (t + m)))
    → HasSentRun now.planning.tx s (run_of s (suc (t + m)))
    → now.latest.released ≡ is_running (moment_of s (run_of s (t + m))).stage
    → HaveRunLanes now.lanes s (lane_run s (run_of s (suc (t + m))))
    → HaveRings now.lanes s (suc (t + m)) (suc (t + m))
    → ArePairs now.lanes now.collecting.ends
    → AreAt now.lanes s.link.params (next_of s.link.params old.planning.tx.sending)
    → HasEnded now s t m
has-ended old now rx s t m c link next sending over alarms told sent released ran rings pairs at =
    let e : suc (t + m) ≡ t + suc m = omega arith in
    record {
      planned = record {
        stands = subst (λ n. StandAt now.planning s n) e (record {
          same_link = link ∙ c.sized.same_planning;
          sent = sent;
          told = told;
        });
        next_is = next ∙ c.planned.next_is;
      };
      lanes = subst (λ n. HaveRunLanes now.lanes s (lane_run s (run_of s n))) e ran;
      rings = subst (λ n. HaveRings now.lanes s n n) e rings;
      pairs = pairs;
      at_next = subst (λ x. AreAt now.lanes s.link.params (next_of s.link.params x)) (sym sending)
          at;
      decision_is = over.decision_is;
      alarms_are = alarms ∙ over.alarms;
      released_is = released;
    }

-- ---- the ends meet the lanes

-- the lanes and ends of `now`, and all else of `old`
abbrev pub with_met : LinkView → List LanePair → Collecting → LinkView
with_met old lanes now = record old { lanes = lanes; collecting = now }

pub has-met : (v : LinkView) (lanes : List LanePair) (now : Collecting) (s : Plan) (t : ℕ)
    → HasRunLanes v s t → ArePairs lanes now.ends
    → ((runs : ℕ → LaneRun) → HaveRunLanes v.lanes s runs → HaveRunLanes lanes s runs)
    → ((given held : ℕ) → HaveRings v.lanes s given held → HaveRings lanes s given held)
    → ((p : Params) (next : Option ℕ) → AreAt v.lanes p next → AreAt lanes p next)
    → HasRunLanes (with_met v lanes now) s t
has-met v lanes now s t h pairs runs rings at =
    let z = h.sized in
    record {
      sized = record {
        same_link = z.same_link;
        same_planning = z.same_planning;
        room = z.room;
        last_room = z.last_room;
        pairs = pairs;
      };
      planned = h.planned;
      lanes = runs (lane_run s (run_of s t)) h.lanes;
      rings = rings t t h.rings;
      at_next = at s.link.params (next_of s.link.params v.planning.tx.sending) h.at_next;
    }

pub collecting-met : (old now : LinkView) → now ≡ record old {
  lanes = now.lanes;
  collecting = record old.collecting { ends = now.collecting.ends };
} → now.collecting ≡ record old.collecting { ends = now.collecting.ends }
collecting-met old now is = ap (λ (v : LinkView). v.collecting) is

-- the ticks before tick `from` are all but a period of those before tick t
pub up-to : (e : Ended) (s : Plan) (from t : ℕ) → IsBefore e s from t
    → (from ≤ t) × (t - from ≤ period s.link.params)
up-to e s from t before = elim before [
  | inl none ↦ let end = none.end_is in (omega arith, omega arith)
  | inr some ↦
      let (m, segment) = some in
      let end = segment.end_is in
      let short = segment.over.one.short in
      (omega arith, omega arith)
]

-- ---- the cells that the ends know of are taken

pub has-filled : (v : LinkView) (now : Collecting) (s : Plan) (t : ℕ) → HasRunLanes v s t
    → AreFilled v.collecting.waiting now.waiting v.collecting.ends now.ends v.collecting.route
    → HasRunLanes (with_met v v.lanes now) s t
has-filled v now s t h filled =
    has-met v v.lanes now s t h
    (filled-pairs v.lanes _ _ _ _ _ filled h.sized.pairs) (λ runs had. had) (λ given held had. had)
    (λ p next had. had)

-- the ends have met the lanes, and the cells from tick `from` on and before tick t were taken
pub record HasTaken (now : Collecting) (s : Plan) (from t : ℕ) : Type 0 where
  pub collected : HasCollected now s from
  pub waiting : HaveWaiting now.waiting s from (t - from)
  pub cells : HaveCells now.ends s t 0

pub has-taken : (v : LinkView) (old now : Collecting) (s : Plan) (from t : ℕ) → HasRun v s from t
    → length old.ends ≡ s.link.params.l
    → ((n : ℕ) → HasRunLanes v s (from + n) → HaveCells old.ends s from n)
    → old ≡ record v.collecting { ends = old.ends }
    → now ≡ record old { ends = now.ends; waiting = now.waiting }
    → AreFilled old.waiting now.waiting old.ends now.ends old.route
    → HasTaken now s from t
has-taken v old now s from t h ends knows is same filled_there =
    let (within, short) = up-to v.last s from t h.before in
    let had = h.collected in
    let m = period s.link.params in
    let order = had.order in
    let n = t - from in
    let all : from + n ≡ t = omega arith in
    let met : HasCollected (record v.collecting { ends = old.ends }) s from = record {
      end_count = ends;
      wait_count = had.wait_count;
      route_is = had.route_is;
      order = had.order;
      room = had.room;
      lead_is = had.lead_is;
      ahead_is = had.ahead_is;
      gathered = had.gathered;
    } in
    let stays = subst (λ (k : Collecting). HasCollected k s from) (sym is) met in
    let none = subst (λ ws. HaveWaiting ws s from 0)
    (sym (ap (λ (k : Collecting). k.waiting) is)) h.none_waits in
    let count : length old.waiting ≡ length old.ends = stays.wait_count ∙ sym ends in
    let known = knows n (subst (HasRunLanes v s) (sym all) h.ran) in
    let filled = subst (AreFilled old.waiting now.waiting old.ends now.ends) stays.route_is
    filled_there in
    record {
      collected = filled-collected old now s from same filled stays;
      waiting = filled-waiting old.waiting now.waiting old.ends now.ends s from n m count ends order filled
          none stays.room short known;
      cells = subst (λ (k : ℕ). HaveCells now.ends s k 0) all
          (filled-cells old.waiting now.waiting old.ends now.ends s from n m count ends order filled none
          stays.room short known);
    }

-- ---- a segment is over

-- the segment `on` was carried, and `now` has ended it
pub has-next : (on now : LinkView) (s : Plan) (from t m : ℕ) → HasCarriedOn on s t m
    → now ≡ record on {
      planning = now.planning;
      lanes = now.lanes;
      latest = record now.latest { segment = on.latest.segment };
    }
    → HasEnded now s t m → IsBefore on.last s from t → HasTaken on.collecting s from t
    → HasNext now s from t m
has-next on now s from t m c same over before taken =
    let last = ap (λ (v : LinkView). v.last) same in
    let collecting = sym (ap (λ (v : LinkView). v.collecting) same) in
    let link = ap (λ (v : LinkView). v.link) same ∙ c.sized.same_link in
    let segment = ap (λ (v : LinkView). v.latest.segment) same in
    let had = subst (λ (k : Collecting). HasTaken k s from t) collecting taken in
    record {
      ran = record {
        sized = record {
          same_link = link;
          same_planning = over.planned.stands.same_link;
          room = subst (λ (g : Planned). period s.link.params ≤ g.room) (sym segment) c.sized.room;
          last_room = subst (λ (e : Ended). period s.link.params ≤ e.segment.room) (sym last)
              c.sized.last_room;
          pairs = over.pairs;
        };
        planned = over.planned;
        lanes = over.lanes;
        rings = over.rings;
        at_next = over.at_next;
      };
      over = record {
        has_steps = subst (λ (g : Planned). HasSteps g s t (suc m)) (sym segment)
            c.planned.has_steps;
        one = subst (λ (g : Planned). IsOneSegment g.gives s t m) (sym segment) c.planned.one;
        reset = ap (λ (g : Planned). g.rx_reset) segment ∙ c.planned.reset;
        decision_is = over.decision_is;
        alarms_are = over.alarms_are;
        released_is = over.released_is;
      };
      cells = had.cells;
      due = record {
        same_link = link;
        before = subst (λ (e : Ended). IsBefore e s from t) (sym last) before;
        collected = had.collected;
        waiting = had.waiting;
      };
    }

-- the rows of the segment before it were handed on
pub has-turned : (v : LinkView) (s : Plan) (t m : ℕ) → HasReportedBefore v s t m
    → HasRun (record v { latest = v.last; last = v.latest }) s t (t + suc m)
has-turned v s t m h =
    let z = h.ran.sized in
    record {
      ran = record {
        sized = record {
          same_link = z.same_link;
          same_planning = z.same_planning;
          room = z.last_room;
          last_room = z.room;
          pairs = z.pairs;
        };
        planned = h.ran.planned;
        lanes = h.ran.lanes;
        rings = h.ran.rings;
        at_next = h.ran.at_next;
      };
      before = inr (m, record { end_is = refl; over = h.over });
      collected = h.taken.collected;
      cells = h.cells;
      none_waits = h.taken.none_waits;
    }

-- the run is over
pub has-finished : (old now : LinkView) (s : Plan) (from t : ℕ) → HasRunLanes now s t
    → now.last ≡ old.last → IsBefore old.last s from t → HasTaken now.collecting s from t
    → HasFinished now s from t
has-finished old now s from t ran last before taken = record {
  ran = ran;
  cells = taken.cells;
  due = record {
    same_link = ran.sized.same_link;
    before = subst (λ (e : Ended). IsBefore e s from t) (sym last) before;
    collected = taken.collected;
    waiting = taken.waiting;
  };
}

-- ---- the rows of the ticks that are due were handed on

-- nothing but what is collected has changed, and the ends have not
pub record IsReported (old now : LinkView) : Type 0 where
  pub same : now ≡ record old { collecting = now.collecting }
  pub ends : now.collecting.ends ≡ old.collecting.ends

ran-reported : (old now : LinkView) (s : Plan) (t : ℕ) → IsReported old now → HasRunLanes old s t
    → HasRunLanes now s t
ran-reported old now s t r h =
    subst (λ (v : LinkView). HasRunLanes v s t) (sym r.same)
    (has-met old old.lanes now.collecting s t h
    (subst (ArePairs old.lanes) (sym r.ends) h.sized.pairs) (λ runs had. had)
    (λ given held had. had) (λ p next had. had))

cells-reported : (old now : LinkView) (s : Plan) (t : ℕ) → IsReported old now
    → HaveCells old.collecting.ends s t 0 → HaveCells now.collecting.ends s t 0
cells-reported old now s t r cells =
    subst (λ (ends : List CellEnd). HaveCells ends s t 0) (sym r.ends) cells

pub reported-before : (old now : LinkView) (s : Plan) (from t m : ℕ) → IsReported old now
    → HasNext old s from t m → HasAllTaken now s t → HasReportedBefore now s t m
reported-before old now s from t m r h taken = record {
  ran = ran-reported old now s (t + suc m) r h.ran;
  over = subst (λ (e : Ended). IsOver e s t m) (sym (ap (λ (v : LinkView). v.latest) r.same)) h.over;
  cells = cells-reported old now s t r h.cells;
  taken = taken;
}

pub run-whole : (old now : LinkView) (s : Plan) (from t : ℕ) → IsReported old now
    → HasFinished old s from t → t ≡ s.ticks → HasRunWhole now s
run-whole old now s from t r h all = record {
  ran = subst (HasRunLanes now s) all (ran-reported old now s t r h.ran);
  cells = subst (λ (n : ℕ). HaveCells now.collecting.ends s n 0) all
      (cells-reported old now s t r h.cells);
}

-- ---- before the first tick

pub run-none : (v : LinkView) (s : Plan) → v.link ≡ s.link → v.planning.link ≡ s.link
    → period s.link.params ≤ v.latest.segment.room → period s.link.params ≤ v.last.segment.room
    → v.last.segment.steps ≡ [] → ArePairs v.lanes v.collecting.ends
    → HasPlanned v.planning s 0 → next_of s.link.params v.planning.tx.sending ≡ None
    → HaveRunLanes v.lanes s (λ lane. record (no_run s) { inverted = has_inverted_polarity s lane })
    → HaveRings v.lanes s 0 0
    → AreAt v.lanes s.link.params None → HasCollected v.collecting s 0
    → HaveCells v.collecting.ends s 0 0 → HaveWaiting v.collecting.waiting s 0 0 → HasRun v s 0 0
unfolding run
run-none v s link planning room last empty pairs planned none runs rings at collected cells waits =
    record {
      ran = record {
        sized = record {
          same_link = link;
          same_planning = planning;
          room = room;
          last_room = last;
          pairs = pairs;
        };
        planned = planned;
        lanes = have-same v.lanes s (λ lane. record (no_run s) { inverted = has_inverted_polarity s lane }) (lane_run s (run_of s 0))
            (λ lane below. sym (lane-run-none s lane)) runs;
        rings = rings;
        at_next = subst (AreAt v.lanes s.link.params) (sym none) at;
      };
      before = inl (record { end_is = refl; empty = empty });
      collected = collected;
      cells = cells;
      none_waits = waits;
    }
