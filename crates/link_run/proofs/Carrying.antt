-- The lanes of a run through a segment: each goes through its ticks as the run says.
use Rattle.std.proofs.Common.{◌≡◌, ◌∙◌, ◌<◌, ◌≤◌, ◌+◌, ◌&&◌, ◌++◌, ℕ, zero, suc, max, Bool, true, false, if◌then◌else◌, List, [], ◌∷◌, length, get_or, slice_index, Option, None, refl, sym, ap, ap₂, subst, arith, append_assoc, append-nil}
use Rattle.std.proofs.lemmas.Bool.{lt-ltb}
use Rattle.std.proofs.lemmas.List.{append_cancel_left}
use Rattle.rtrb.specs.Ring.{known_items, received, sent}
use Rattle.link_params.specs.declared.cells.LaneCell.{LaneCell}
use Rattle.link_params.specs.declared.fields.Params.{Params}
use Rattle.link_params.specs.declared.orders.RxOrder.{RxOrder}
use Rattle.link_params.specs.Lanes.{LaneKind, Taken}
use Rattle.link_params.specs.Laws.{broken_law}
use Rattle.link_params.specs.Numbers.{depth, period}
use Rattle.link_params.specs.TimingLaws.{broken_timing}
use Rattle.bring_up.specs.declared.stage.Stage.{Stage}
use Rattle.bring_up.specs.declared.stage.Stage.TheVariants as stage
use Rattle.bring_up.specs.Decisions.{is_running}
use Rattle.lane_c.specs.kept.Receivers.{IsArmedOn}
use Rattle.scenario.specs.Plans.{Plan}
use Rattle.link_model.proofs.ArmedHistory.{armed-on, armed-run}
use Rattle.link_model.proofs.Depth.{has-entry, has-room}
use Rattle.link_model.proofs.FactsOf.{facts-of}
use Rattle.link_model.proofs.LaneHistory.{HasHunt, has-hunt-run, lane-run-next, lane-stepped, session-goes-on, took-stepped}
use Rattle.link_model.proofs.NextMoment.{told-next, with_next}
use Rattle.link_model.proofs.RunTicks.{run-suc}
use Rattle.link_model.specs.Gives.{gives_in}
use Rattle.link_model.specs.Hunts.{session}
use Rattle.link_model.specs.kept.Before.{current}
use Rattle.link_model.specs.Kinds.{kind_of, moment_of, run_of}
use Rattle.link_model.specs.kept.LaneRuns.{LaneRun, given_by, held_by, lane_ready, lane_run, lane_stepped, stepped}
use Rattle.link_model.specs.Moments.{History}
use Rattle.link_model.specs.Receives.{taken_in, told_of}
use Rattle.link_model.specs.Wiring.{route_of, wire_of}
use Rattle.link_model.proofs.Wirings.{order-below}
use Rattle.lane_threads.proofs.LaneLists.{has-run-at}
use Rattle.lane_threads.specs.declared.cell_end.CellEnd.{CellEnd}
use Rattle.lane_threads.specs.declared.lane_pair.LanePair.{LanePair}
use Rattle.lane_threads.specs.declared.step.Step.{Step}
use Rattle.lane_threads.specs.Segments.{CanRun, EachCanRun, EachHasRun, HasRun, MayRun, Runs, Segment, cells_given, gives_before, next_at, no_step, pushed, ran, ready, segment_of, step_at}
use Rattle.lane_threads.specs.Segments as segment
use Rattle.lane_threads.specs.kept.LaneEnds.{Follows, next_in, params_in}
use Rattle.lane_threads.specs.kept.LaneRuns.{HasRunLane}
use Rattle.link_run.specs.Given.{cells_at, cells_in, most_held}
use Rattle.link_run.proofs.LaneLemmas.{HasGiven, HasMet, HaveChanged, HaveMet, are-at, have-run, head-of}
use Rattle.link_run.proofs.TakenCells.{cells-few, cells-join}
use Rattle.link_run.specs.kept.Ends.{ArePairs, HasCells, HaveCells}
use Rattle.link_run.specs.kept.LaneRuns.{AreAt, AreOnRings, HasRing, HaveRings, HaveRunLanes}
use Rattle.link_run.specs.kept.Segments.{CanCarry, FollowOn, IsCarried, IsOneSegment, Planned, next_before, step_of}

-- ---- what a lane went through

-- the steps and octets of a lane are those of ticks t to t + m, which are a segment
pub record IsSegmentOf (g : Segment) (s : Plan) (t m lane : ℕ) : Type 0 where
  pub below : lane < s.link.params.l
  pub wired : wire_of s lane < s.link.params.l
  pub steps : (i : ℕ) → i < suc m → step_at g i ≡ step_of s (t + i)
  pub octets : (i : ℕ) → i < suc m
      → slice_index g.octets i ≡ slice_index (moment_of s (run_of s (t + i))).handed (wire_of s lane)
  pub one : IsOneSegment g.gives s t m

-- n ticks of it, from what the lane is once the events of tick t have happened
abbrev ran_of : Segment → Plan → ℕ → ℕ → ℕ → LaneRun
ran_of g s t lane n = ran (kind_of s.link.params) s lane g (lane_ready s (run_of s t) lane) n

abbrev stepped_of : Plan → ℕ → ℕ → LaneRun
stepped_of s t lane = lane_stepped (kind_of s.link.params) s (run_of s t) lane

gave-add : (b : Bool) (n : ℕ) → (if b then n + 1 else n) ≡ n + (if b then 1 else 0)
gave-add true n = refl
gave-add false n = omega arith

gives-later : (g : Segment) (n : ℕ) → gives_before g (suc n) ≡ g.gives
gives-later g n = ap (λ (b : Bool). b && g.gives) (lt-ltb 0 (suc n) (omega arith))

-- a lane that gave where the segment gives is as the tick leaves it
gave-is : (g : Segment) (n : ℕ) (s : Plan) (h : History) (lane : ℕ) → HasHunt h
    → is_running (moment_of s h).stage ≡ g.gives
    → ready g (suc n) (lane_stepped (kind_of s.link.params) s h lane)
    ≡ lane_run s (with_next (kind_of s.link.params) s h) lane
gave-is g n s h lane begun runs =
    let k : LaneKind = kind_of s.link.params in
    let gave : ℕ = gives_in (session s h) in
    ap (λ (b : Bool). let x : LaneRun =
    record (lane_stepped k s h lane) { gave = if b then gave + 1 else gave } in x) (gives-later g n)
    ∙ ap (λ (v : ℕ). let x : LaneRun = record (lane_stepped k s h lane) { gave = v } in x)
    (gave-add g.gives gave ∙ ap (λ (b : Bool). gave + (if b then 1 else 0)) (sym runs))
    ∙ sym (lane-run-next k s h lane begun)

ready-first : (g : Segment) (s : Plan) (t lane : ℕ)
    → ready g 0 (ran_of g s t lane 0) ≡ lane_ready s (run_of s (t + 0)) lane
unfolding ran
ready-first g s t lane = let e : t ≡ t + 0 = omega arith in
    ap (λ (n : ℕ). lane_ready s (run_of s n) lane) e

ready-more : (g : Segment) (s : Plan) (t m lane n : ℕ) → IsSegmentOf g s t m lane → n < m
    → ran_of g s t lane (suc n) ≡ stepped_of s (t + n) lane
    → ready g (suc n) (ran_of g s t lane (suc n)) ≡ lane_ready s (run_of s (t + suc n)) lane
ready-more g s t m lane n of below is =
    let k : LaneKind = kind_of s.link.params in
    let e : suc (t + n) ≡ t + suc n = omega arith in
    ap (ready g (suc n)) is
    ∙ gave-is g n s (run_of s (t + n)) lane (has-hunt-run k (t + n) s) (of.one.running n below)
    ∙ ap (λ (h : History). lane_run s h lane) (sym (run-suc k s (t + n)))
    ∙ ap (λ (i : ℕ). lane_run s (run_of s i) lane) e
    ∙ sym (of.one.calm (suc n) lane (omega arith) (omega arith))

stepped-is : (g : Segment) (s : Plan) (t m lane n : ℕ) → IsSegmentOf g s t m lane → n < suc m
    → ready g n (ran_of g s t lane n) ≡ lane_ready s (run_of s (t + n)) lane
    → ran_of g s t lane (suc n) ≡ stepped_of s (t + n) lane
unfolding ran
stepped-is g s t m lane n of below is =
    let k : LaneKind = kind_of s.link.params in
    let h : History = run_of s (t + n) in
    let x : LaneRun = lane_ready s h lane in
    ap (λ (y : LaneRun). stepped k s lane y (step_at g n).tx (slice_index g.octets n)
    (step_at g n).rx) is
    ∙ ap (λ (z : Step). stepped k s lane x z.tx (slice_index g.octets n) z.rx) (of.steps n below)
    ∙ ap (λ (v : ℕ). stepped k s lane x (moment_of s h).order v (moment_of s h).told)
    (of.octets n below)
    ∙ lane-stepped k s h lane (has-hunt-run k (t + n) s) of.below of.wired

-- before tick t + n the lane is as the run says
pub ready-is : (n : ℕ) (g : Segment) (s : Plan) (t m lane : ℕ) → IsSegmentOf g s t m lane
    → n < suc m → ready g n (ran_of g s t lane n) ≡ lane_ready s (run_of s (t + n)) lane
ready-is zero g s t m lane of below = ready-first g s t lane
ready-is (suc n) g s t m lane of below =
    ready-more g s t m lane n of (omega arith)
    (stepped-is g s t m lane n of (omega arith) (ready-is n g s t m lane of (omega arith)))

-- and once it was sent and taken
pub ran-is : (n : ℕ) (g : Segment) (s : Plan) (t m lane : ℕ) → IsSegmentOf g s t m lane
    → n < suc m → ran_of g s t lane (suc n) ≡ stepped_of s (t + n) lane
ran-is n g s t m lane of below =
    stepped-is g s t m lane n of below (ready-is n g s t m lane of below)

-- ---- what it gave, and what it held

given-are : (g : Segment) (s : Plan) (t m lane n : ℕ) → IsSegmentOf g s t m lane → n < m
    → (if gives_before g (suc n) then pushed (given_by (kind_of s.link.params) s
    (λ _. ran_of g s t lane (suc n)) lane) else []) ≡ cells_at s lane (t + n)
given-are g s t m lane n of below =
    let k : LaneKind = kind_of s.link.params in
    let x : LaneRun = stepped_of s (t + n) lane in
    ap (λ (b : Bool). if b then pushed (given_by k s (λ _. ran_of g s t lane (suc n)) lane) else [])
    (gives-later g n)
    ∙ ap (λ (y : LaneRun). if g.gives then pushed (given_by k s (λ _. y) lane) else [])
    (ran-is n g s t m lane of (omega arith))
    ∙ ap (λ (b : Bool). if b then pushed (given_by k s (λ _. x) lane) else [])
    (sym (of.one.running n below))

pub cells-are : (n : ℕ) (g : Segment) (s : Plan) (t m lane : ℕ) → IsSegmentOf g s t m lane
    → n < suc m
    → cells_in s lane 0 t ++ cells_given (kind_of s.link.params) s lane g
    (lane_ready s (run_of s t) lane) (suc n) ≡ cells_in s lane 0 (t + n)
unfolding cells_given cells_in
cells-are zero g s t m lane of below =
    let e : t ≡ t + 0 = omega arith in
    append-nil (cells_in s lane 0 t) ∙ ap (cells_in s lane 0) e
cells-are (suc n) g s t m lane of below =
    let k : LaneKind = kind_of s.link.params in
    let given : List LaneCell = cells_given k s lane g (lane_ready s (run_of s t) lane) (suc n) in
    let e : suc (t + n) ≡ t + suc n = omega arith in
    let same : t + n ≡ 0 + (t + n) = omega arith in
    ap (λ (l : List LaneCell). cells_in s lane 0 t ++ (given ++ l))
    (given-are g s t m lane n of (omega arith))
    ∙ sym (append_assoc (cells_in s lane 0 t) given (cells_at s lane (t + n)))
    ∙ ap (λ (l : List LaneCell). l ++ cells_at s lane (t + n))
    (cells-are n g s t m lane of (omega arith))
    ∙ ap (λ (i : ℕ). cells_in s lane 0 (t + n) ++ cells_at s lane i) same
    ∙ ap (cells_in s lane 0) e

pub most-is : (n : ℕ) (g : Segment) (s : Plan) (t m lane : ℕ) → IsSegmentOf g s t m lane
    → n ≤ suc m
    → segment.most_held (kind_of s.link.params) s lane g (lane_ready s (run_of s t) lane)
    (most_held s lane t) n ≡ most_held s lane (t + n)
unfolding segment.most_held most_held
most-is zero g s t m lane of below = let e : t ≡ t + 0 = omega arith in ap (most_held s lane) e
most-is (suc n) g s t m lane of below =
    let k : LaneKind = kind_of s.link.params in
    let e : suc (t + n) ≡ t + suc n = omega arith in
    ap₂ max (most-is n g s t m lane of (omega arith))
    (ap (λ (y : LaneRun). held_by k s (λ _. y) lane) (ran-is n g s t m lane of (omega arith)))
    ∙ ap (most_held s lane) e

-- ---- that it may run

running-is : (x : Stage) → is_running x ≡ true → x ≡ stage.Run
running-is stage.Hunt e = let bad : false ≡ true = e in absurd (cc)
running-is stage.Wait e = let bad : false ≡ true = e in absurd (cc)
running-is stage.Run e = refl

-- where no hunt begins, the lanes stay armed
stays-armed : (s : Plan) (t lane : ℕ) (told : RxOrder) → told ≡ (moment_of s (run_of s t)).told
    → told.hunt ≡ false → IsArmedOn (lane_ready s (run_of s t) lane).taken told
stays-armed s t lane told is goes =
    let k : LaneKind = kind_of s.link.params in
    let h : History = run_of s t in
    let same = session-goes-on k s h (ap (λ (o : RxOrder). o.hunt) (sym is) ∙ goes) in
    subst (IsArmedOn (taken_in (current h) lane)) (sym (is ∙ told-next k s h))
    (subst (λ (l : History). IsArmedOn (taken_in l lane) (told_of s h)) same
    (armed-on k s h lane (armed-run k t s)))

next-is : (n : ℕ) (p : Params) (first : Option ℕ) (g : Segment)
    → next_at p first g n ≡ next_before p first g.steps n
unfolding next_at
next-is zero p first g = refl
next-is (suc n) p first g = refl

-- a lane that gives holds an entry
holds-entry : (n : ℕ) (g : Segment) (s : Plan) (t m lane : ℕ)
    → broken_law s.link.params ≡ None → broken_timing s.link.params s.link.timing ≡ None
    → IsSegmentOf g s t m lane → n < suc m → gives_before g n ≡ true
    → 0 < held_by (kind_of s.link.params) s (λ _. ran_of g s t lane n) lane
holds-entry zero g s t m lane laws timing of below gives =
    let bad : false ≡ true = gives in absurd (cc)
holds-entry (suc n) g s t m lane laws timing of below gives =
    let p = s.link.params in
    let k : LaneKind = kind_of p in
    let h : History = run_of s (t + n) in
    let runs = running-is (moment_of s h).stage (of.one.running n (omega arith)
    ∙ sym (gives-later g n) ∙ gives) in
    let entry = has-entry k (t + n) s lane (facts-of p s.link.timing) laws timing of.below runs in
    let same = ap (λ (taken : List Taken). length (k.entries p s.link.timing (route_of s lane) taken))
    (took-stepped k s h lane (has-hunt-run k (t + n) s)) in
    let some : 0 < held_by k s (λ _. stepped_of s (t + n) lane) lane =
    (let n = rw same at entry in omega arith) in
    subst (λ (y : LaneRun). 0 < held_by k s (λ _. y) lane)
    (sym (ran-is n g s t m lane of (omega arith))) some

pub may-run : (g : Segment) (s : Plan) (t m lane : ℕ) (first last : Option ℕ)
    → broken_law s.link.params ≡ None → broken_timing s.link.params s.link.timing ≡ None
    → IsSegmentOf g s t m lane → length g.steps ≡ suc m
    → FollowOn g.steps s.link.params first last (suc m)
    → MayRun (kind_of s.link.params) s lane first g (lane_ready s (run_of s t) lane)
may-run g s t m lane first last laws timing of count follow =
    let p = s.link.params in
    let k : LaneKind = kind_of p in
    record {
      follows = λ n below.
          subst (λ (o : Option ℕ). Follows p o (step_at g n).tx) (sym (next-is n p first g))
          (follow.0 n (omega arith));
      armed = λ n below goes.
          let inside : n < suc m = omega arith in
          let told = ap (λ (z : Step). z.rx) (of.steps n inside) in
          let is = ap (λ (y : LaneRun). y.taken) (ready-is n g s t m lane of inside) in
          subst (λ (taken : List Taken). IsArmedOn taken (step_at g n).rx) (sym is)
          (stays-armed s (t + n) lane (step_at g n).rx told goes);
      room = λ n below goes.
          let inside : n < suc m = omega arith in
          let h : History = run_of s (t + n) in
          let told = ap (λ (z : Step). z.rx.hunt) (of.steps n inside)
          ∙ ap (λ (o : RxOrder). o.hunt) (told-next k s h) in
          let room = has-room k (t + n) s lane (facts-of p s.link.timing) laws timing of.below
          (sym told ∙ goes) in
          subst (λ (y : LaneRun). held_by k s (λ _. y) lane < depth p s.link.timing)
          (sym (ready-is n g s t m lane of inside)) room;
      entry = λ n below gives. holds-entry n g s t m lane laws timing of (omega arith) gives;
    }

-- ---- all lanes

can-run-by-lane : (steps : List Step) (gives : Bool) (lanes : List LanePair)
    → ((k : ℕ) (d : LanePair) → k < length lanes → CanRun steps gives (get_or lanes k d))
    → EachCanRun steps gives lanes
can-run-by-lane steps gives [] h = tt
can-run-by-lane steps gives (a ∷ lanes) h = (
  h 0 a (omega arith),
  can-run-by-lane steps gives lanes (λ k d below. h (suc k) d (omega arith)),
)

-- the segment of each lane
segment-is : (lanes : List LanePair) (g : Planned) (s : Plan) (t m : ℕ) (first last : Option ℕ)
    (lane : ℕ) (d : LanePair) → IsCarried lanes g s t m first last → lane < length lanes
    → IsSegmentOf (segment_of (get_or lanes lane d) g.steps g.gives) s t m lane
segment-is lanes g s t m first last lane d c below = record {
  below = omega (arith, c.runs.0);
  wired = (let count = c.runs.0 in order-below s.link.params.l s.wire lane (omega arith) c.wire);
  steps = c.has_steps.steps_are;
  octets = λ i inside. c.octets lane i d below inside;
  one = c.one;
}

pub runs-lane : (lanes : List LanePair) (g : Planned) (s : Plan) (t m : ℕ)
    (first last : Option ℕ) (lane : ℕ) (d : LanePair) → IsCarried lanes g s t m first last
    → lane < length lanes
    → Runs (get_or lanes lane d) g.steps g.gives s lane (lane_ready s (run_of s t) lane)
runs-lane lanes g s t m first last lane d c below =
    let a = get_or lanes lane d in
    let of = segment-is lanes g s t m first last lane d c below in
    let x : LaneRun = lane_ready s (run_of s t) lane in
    record {
      has = c.runs.1 lane d of.below;
      may =
          subst (λ (o : Option ℕ). MayRun (kind_of s.link.params) s lane o
          (segment_of a g.steps g.gives) x) (sym (c.at_first lane d below).1)
          (may-run (segment_of a g.steps g.gives) s t m lane first last c.laws c.timing of
          c.has_steps.count c.follows);
    }

pub can-carry : (lanes : List LanePair) (g : Planned) (s : Plan) (t m : ℕ)
    (first last : Option ℕ) → IsCarried lanes g s t m first last → CanCarry lanes g
can-carry lanes g s t m first last c =
    can-run-by-lane g.steps g.gives lanes (λ lane d below.
    let a = get_or lanes lane d in
    let at = c.at_first lane d below in
    let count = c.has_steps.count in
    let short = c.one.short in
    let within = c.one.within in
    let ring = c.rings lane d below in
    let room = ring.count in
    let size = a.size in
    let same = ap period at.0 in
    let sent_few = cells-few t s lane 0 in
    let sent_is = ap length ring.cells in
    record {
      few = omega arith;
      cells = λ gives. omega arith;
      plan = s;
      lane = lane;
      run = lane_ready s (run_of s t) lane;
      runs = runs-lane lanes g s t m first last lane d c below;
      same = at.0;
    })

-- ---- what they leave

pub length-run-lanes : (steps : List Step) (gives : Bool) (old new : List LanePair)
    → EachHasRun steps gives old new → length new ≡ length old
length-run-lanes steps gives [] [] h = refl
length-run-lanes steps gives (a ∷ old) (b ∷ new) h = ap suc (length-run-lanes steps gives old new h.1)
length-run-lanes steps gives [] (b ∷ new) h = absurd h
length-run-lanes steps gives (a ∷ old) [] h = absurd h

pub on-rings-run : (steps : List Step) (gives : Bool) (old new : List LanePair)
    → EachHasRun steps gives old new → AreOnRings old new
on-rings-run steps gives old new h = record {
  count = length-run-lanes steps gives old new h;
  each = λ lane d below. (has-run-at steps gives old new lane d h below).ring;
}

pub carried-runs : (old new : List LanePair) (g : Planned) (s : Plan) (t m : ℕ)
    (first last : Option ℕ) → EachHasRun g.steps g.gives old new
    → IsCarried old g s t m first last
    → HaveRunLanes new s (lane_stepped (kind_of s.link.params) s (run_of s (t + m)))
carried-runs old new g s t m first last h c = (
  length-run-lanes g.steps g.gives old new h ∙ c.runs.0,
  λ lane d below.
      let k : LaneKind = kind_of s.link.params in
      let inside : lane < length old = omega (arith, c.runs.0) in
      let a = get_or old lane d in
      let x : LaneRun = lane_ready s (run_of s t) lane in
      let of = segment-is old g s t m first last lane d c inside in
      let runs = runs-lane old g s t m first last lane d c inside in
      let all = (has-run-at g.steps g.gives old new lane d h inside).lane s lane x runs in
      let last_is = ran-is m (segment_of a g.steps g.gives) s t m lane of (omega arith) in
      subst (HasRunLane (get_or new lane d).lane s lane)
      (ap (ran k s lane (segment_of a g.steps g.gives) x) c.has_steps.count ∙ last_is) all,
)

pub carried-rings : (old new : List LanePair) (g : Planned) (s : Plan) (t m : ℕ)
    (first last : Option ℕ) → EachHasRun g.steps g.gives old new
    → IsCarried old g s t m first last → HaveRings new s (t + m) (t + suc m)
carried-rings old new g s t m first last h c lane d below =
    let k : LaneKind = kind_of s.link.params in
    let long = length-run-lanes g.steps g.gives old new h in
    let inside : lane < length old = omega arith in
    let a = get_or old lane d in
    let x : LaneRun = lane_ready s (run_of s t) lane in
    let of = segment-is old g s t m first last lane d c inside in
    let runs = runs-lane old g s t m first last lane d c inside in
    let one = has-run-at g.steps g.gives old new lane d h inside in
    let ring = c.rings lane d inside in
    let seg : Segment = segment_of a g.steps g.gives in
    record {
      cells = one.cells s lane x runs
          ∙ ap₂ (λ (l : List LaneCell) (n : ℕ). l ++ cells_given k s lane seg x n) ring.cells
          c.has_steps.count
          ∙ cells-are m seg s t m lane of (omega arith);
      count = one.count ∙ ring.count;
      most = one.fullest s lane x runs
          ∙ ap₂ (λ (v n : ℕ). segment.most_held k s lane seg x v n) ring.most c.has_steps.count
          ∙ most-is (suc m) seg s t m lane of (omega arith);
    }

pub carried-at : (old new : List LanePair) (g : Planned) (s : Plan) (t m : ℕ)
    (first last : Option ℕ) → EachHasRun g.steps g.gives old new
    → IsCarried old g s t m first last → AreAt new s.link.params last
carried-at old new g s t m first last h c lane d below =
    let long = length-run-lanes g.steps g.gives old new h in
    let inside : lane < length old = omega arith in
    let a = get_or old lane d in
    let at = c.at_first lane d inside in
    let one = has-run-at g.steps g.gives old new lane d h inside in
    let p = s.link.params in (
      one.same ∙ at.0,
      one.next
          ∙ ap₂ (λ (q : Params) (o : Option ℕ). next_at q o (segment_of a g.steps g.gives)
          (length g.steps)) at.0 at.1
          ∙ ap (next_at p first (segment_of a g.steps g.gives)) c.has_steps.count
          ∙ next-is (suc m) p first (segment_of a g.steps g.gives) ∙ sym c.follows.1,
    )

-- ---- the last tick of a segment, in which they give

gave-run-is : (s : Plan) (t lane : ℕ) → is_running (moment_of s (run_of s t)).stage ≡ true
    → record (stepped_of s t lane) { gave = (stepped_of s t lane).gave + 1 }
    ≡ lane_run s (run_of s (suc t)) lane
gave-run-is s t lane runs =
    let k : LaneKind = kind_of s.link.params in
    let h : History = run_of s t in
    let gave : ℕ = gives_in (session s h) in
    ap (λ (b : Bool). let x : LaneRun =
    record (lane_stepped k s h lane) { gave = gave + (if b then 1 else 0) } in x) (sym runs)
    ∙ sym (lane-run-next k s h lane (has-hunt-run k t s))
    ∙ ap (λ (l : History). lane_run s l lane) (sym (run-suc k s t))

pub gave-runs : (old new : List LanePair) (n : ℕ) (s : Plan) (t : ℕ)
    → HaveChanged HasGiven old new n → length new ≤ n
    → HaveRunLanes old s (lane_stepped (kind_of s.link.params) s (run_of s t))
    → is_running (moment_of s (run_of s t)).stage ≡ true
    → HaveRunLanes new s (lane_run s (run_of s (suc t)))
gave-runs old new n s t h all run runs =
    let same = h.count in
    let count = run.0 in (
      h.count ∙ run.0,
      λ lane d below. subst (HasRunLane (get_or new lane d).lane s lane)
          (gave-run-is s t lane runs)
          ((h.changed lane d (omega arith)).goes_on s lane (stepped_of s t lane)
          (run.1 lane d below)),
    )

gave-cells : (s : Plan) (t lane : ℕ) → is_running (moment_of s (run_of s t)).stage ≡ true
    → cells_in s lane 0 t ++ pushed (given_by (kind_of s.link.params) s
    (λ _. stepped_of s t lane) lane) ≡ cells_in s lane 0 (suc t)
unfolding cells_in
gave-cells s t lane runs =
    let cells : List LaneCell =
    pushed (given_by (kind_of s.link.params) s (λ _. stepped_of s t lane) lane) in
    let same : t ≡ 0 + t = omega arith in
    ap (λ (b : Bool). cells_in s lane 0 t ++ (if b then cells else [])) (sym runs)
    ∙ ap (λ (i : ℕ). cells_in s lane 0 t ++ cells_at s lane i) same

pub gave-rings : (old new : List LanePair) (n : ℕ) (s : Plan) (t : ℕ)
    → HaveChanged HasGiven old new n → length new ≤ n
    → HaveRunLanes old s (lane_stepped (kind_of s.link.params) s (run_of s t))
    → HaveRings old s t (suc t) → is_running (moment_of s (run_of s t)).stage ≡ true
    → HaveRings new s (suc t) (suc t)
gave-rings old new n s t h all run rings runs lane d below =
    let same = h.count in
    let count = run.0 in
    let k : LaneKind = kind_of s.link.params in
    let x : LaneRun = stepped_of s t lane in
    let ring = rings lane d (omega arith) in
    let one = h.changed lane d (omega arith) in
    record {
      cells = one.sends s lane x (run.1 lane d (omega arith))
          ∙ ap (λ (l : List LaneCell). l ++ pushed (given_by k s (λ _. x) lane)) ring.cells
          ∙ gave-cells s t lane runs;
      count = one.count ∙ ring.count;
      most = one.fullest ∙ ring.most;
    }

-- ---- the cells that the ends come to know

pub met-pairs : (old new : List LanePair) (before after : List CellEnd) (n : ℕ)
    → HaveMet old new before after n → length new ≡ n → length after ≡ n → ArePairs new after
met-pairs old new before after n h long same = record {
  count = same ∙ sym long;
  each = λ lane d e below. (h.met lane d e (omega arith)).pair;
}

pub met-cells : (old new : List LanePair) (before after : List CellEnd) (n : ℕ)
    → HaveMet old new before after n → length new ≡ n → length after ≡ n
    → (s : Plan) (t m : ℕ) → HaveRings old s (t + m) (t + m) → HaveCells before s t 0
    → HaveCells after s t m
met-cells old new before after n h long same s t m rings cells lane e below =
    let count = h.lanes.count in
    let ends = h.ends.count in
    let d = head-of new (omega arith) in
    let a = get_or new lane d in
    let met = h.met lane d e (omega arith) in
    let end = h.ends.changed lane e (omega arith) in
    let sent_is = (h.lanes.changed lane d (omega arith)).sent_is in
    let ring = rings lane d (omega arith) in
    let was = cells lane e (omega arith) in
    let received_is = end.received_is ∙ was.received_are in
    let all : cells_in s lane 0 t ++ known_items (get_or after lane e).ring
    ≡ cells_in s lane 0 t ++ cells_in s lane t m =
    ap (λ (l : List LaneCell). l ++ known_items (get_or after lane e).ring) (sym received_is)
    ∙ met.fifo ∙ sent_is ∙ ring.cells ∙ sym (cells-join m s lane t) in
    record {
      received_are = received_is;
      known_are = append_cancel_left (cells_in s lane 0 t)
          (known_items (get_or after lane e).ring) (cells_in s lane t m) all;
    }

pub met-runs : (old new : List LanePair) (before after : List CellEnd) (n : ℕ)
    → HaveMet old new before after n → length new ≡ n → (s : Plan) (runs : ℕ → LaneRun)
    → HaveRunLanes old s runs → HaveRunLanes new s runs
met-runs old new before after n h long s runs run =
    have-run HasMet old new n s runs runs h.lanes (omega arith)
    (λ k x y met ran. subst (λ a. HasRunLane a s k (runs k)) (sym met.lane_is) ran) run

pub met-rings : (old new : List LanePair) (before after : List CellEnd) (n : ℕ)
    → HaveMet old new before after n → length new ≡ n → (s : Plan) (given held : ℕ)
    → HaveRings old s given held → HaveRings new s given held
met-rings old new before after n h long s given held rings lane d below =
    let count = h.lanes.count in
    let met = h.lanes.changed lane d (omega arith) in
    let ring = rings lane d (omega arith) in
    record {
      cells = met.sent_is ∙ ring.cells;
      count = rw (met.room, met.sent_is) ring.count;
      most = met.fullest ∙ ring.most;
    }

pub met-at : (old new : List LanePair) (before after : List CellEnd) (n : ℕ)
    → HaveMet old new before after n → length new ≡ n → (p : Params) (next : Option ℕ)
    → AreAt old p next → AreAt new p next
met-at old new before after n h long p next at =
    are-at HasMet old new n p next next h.lanes (omega arith)
    (λ k x y met stood. (
      ap (λ a. params_in a.tx) met.lane_is ∙ stood.0,
      ap (λ a. next_in a.tx) met.lane_is ∙ stood.1,
    )) at

-- no tick is over
pub ring-none : (a : LanePair) (s : Plan) (lane ticks : ℕ) → s.ticks ≡ ticks → a.fullest ≡ 0
    → a.room ≡ ticks → sent a.ring ≡ [] → HasRing a s 0 0 lane
unfolding cells_in most_held
ring-none a s lane ticks same fullest room none =
    let size = ap length none in
    record { cells = none; count = omega arith; most = fullest }

pub cells-none : (end : CellEnd) (s : Plan) (lane : ℕ) → received end.ring ≡ []
    → known_items end.ring ≡ [] → HasCells end s 0 0 lane
unfolding cells_in
cells-none end s lane nothing none = record { received_are = nothing; known_are = none }
