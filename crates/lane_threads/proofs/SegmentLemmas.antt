-- A tick more of a segment.
use Rattle.std.proofs.Common.{◌≡◌, ◌<◌, ◌≤◌, ℕ, zero, suc, ◌+◌, ◌-◌, Bool, true, false, if◌then◌else◌, List, [], ◌++◌, length, max, refl, sym, ap, ap₂, ◌∙◌, subst, arith, append_assoc, append-nil}
use Rattle.std.specs.Prelude.{slice_index}
use Rattle.rtrb.specs.Ring.{SameProducer, sent}
use Rattle.link_params.specs.declared.cells.LaneCell.{LaneCell}
use Rattle.link_params.specs.Lanes.{LaneKind}
use Rattle.scenario.specs.Plans.{Plan}
use Rattle.link_model.specs.Kinds.{kind_of}
use Rattle.link_model.specs.Wiring.{route_of}
use Rattle.link_model.specs.kept.LaneRuns.{LaneRun, given_by, held_by, stepped}
use Rattle.lane_threads.specs.declared.lane_pair.LanePair.{LanePair}
use Rattle.lane_threads.specs.declared.step.Step.{Step}
use Rattle.lane_threads.specs.Segments.{HasRunTo, Runs, Segment, cells_given, gives_before, most_held, next_at, pushed, ran, ready, segment_of, step_at}
use Rattle.lane_threads.specs.kept.LaneEnds.{buffer_in, next_after, params_in}
use Rattle.lane_threads.specs.kept.LaneRuns.{HasRunLane}
use Rattle.lane_threads.specs.kept.SegmentRuns.{HasTicked, IsReady}
use Rattle.lane_threads.proofs.KindEnds.{buffer-count}

-- ---- the definitions, a tick more

pub ran-more : (k : LaneKind) (s : Plan) (lane : ℕ) (g : Segment) (x : LaneRun) (n : ℕ)
    → ran k s lane g x (suc n)
    ≡ stepped k s lane (ready g n (ran k s lane g x n)) (step_at g n).tx (slice_index g.octets n)
    (step_at g n).rx
unfolding ran
ran-more k s lane g x n = refl

pub cells-more : (k : LaneKind) (s : Plan) (lane : ℕ) (g : Segment) (x : LaneRun) (n : ℕ)
    → cells_given k s lane g x (suc n) ≡ cells_given k s lane g x n
    ++ (if gives_before g n then pushed (given_by k s (λ _. ran k s lane g x n) lane) else [])
unfolding cells_given
cells-more k s lane g x n = refl

pub most-more : (k : LaneKind) (s : Plan) (lane : ℕ) (g : Segment) (x : LaneRun) (most n : ℕ)
    → most_held k s lane g x most (suc n)
    ≡ max (most_held k s lane g x most n) (held_by k s (λ _. ran k s lane g x (suc n)) lane)
unfolding most_held
most-more k s lane g x most n = refl

-- ---- no tick

pub no-tick : (steps : List Step) (gives : Bool) (a : LanePair) → HasRunTo 0 steps gives a a
unfolding ran cells_given most_held next_at
no-tick steps gives a = record {
  lane = λ s lane x r. r.has;
  cells = λ s lane x r. sym (append-nil (sent a.ring));
  fullest = λ s lane x r. refl;
  count = refl;
  room = omega arith;
  ring = ((refl, refl, refl, refl), refl);
  octets = refl;
  next = refl;
  same = refl;
}

-- ---- a tick more

-- what a lane holds is what its history says
pub held-is : (a : LanePair) (s : Plan) (lane : ℕ) (x : LaneRun) → HasRunLane a.lane s lane x
    → length (buffer_in a.lane.rx).cells
    ≡ held_by (kind_of s.link.params) s (λ _. x) lane
held-is a s lane x h =
    buffer-count a.lane.rx s.link.params s.link.timing (route_of s lane) x.taken x.gave h.rx

lane-more : (steps : List Step) (gives : Bool) (n : ℕ) (a b c d : LanePair) (s : Plan) (lane : ℕ)
    (x : LaneRun) → n < length steps → HasRunTo n steps gives a b
    → IsReady (gives_before (segment_of a steps gives) n) b c
    → HasTicked (step_at (segment_of a steps gives) n) n c d
    → Runs a steps gives s lane x
    → HasRunLane d.lane s lane
    (ran (kind_of s.link.params) s lane (segment_of a steps gives) x (suc n))
lane-more steps gives n a b c d s lane x below h given ticked r =
    let k = kind_of s.link.params in
    let g : Segment = segment_of a steps gives in
    let y : LaneRun = ran k s lane g x n in
    let octets : c.octets.items ≡ a.octets.items = given.octets ∙ h.octets in
    let now = ticked.goes_on s lane (ready g n y) (given.goes_on s lane y (h.lane s lane x r))
    (r.may.armed n below) in
    subst (λ (z : LaneRun). HasRunLane d.lane s lane z)
    (ap (λ (l : List ℕ). stepped k s lane (ready g n y) (step_at g n).tx (slice_index l n)
    (step_at g n).rx) octets ∙ sym (ran-more k s lane g x n)) now

if-small : (b : Bool) → (if b then 1 else 0) ≤ 1
if-small true = omega arith
if-small false = omega arith

room-more : (g : Segment) (n a b c : ℕ) → a ≤ b + (n - 1)
    → b ≤ c + (if gives_before g n then 1 else 0) → a ≤ c + (suc n - 1)
room-more g zero a b c before now = omega arith
room-more g (suc n) a b c before now =
    let small = if-small (gives_before g (suc n)) in
    omega (arith, now, small)

pub tick-more : (steps : List Step) (gives : Bool) (n : ℕ) (a b c d : LanePair)
    → n < length steps → HasRunTo n steps gives a b
    → IsReady (gives_before (segment_of a steps gives) n) b c
    → HasTicked (step_at (segment_of a steps gives) n) n c d
    → HasRunTo (suc n) steps gives a d
unfolding next_at
tick-more steps gives n a b c d below h given ticked =
    let g : Segment = segment_of a steps gives in
    record {
      lane = λ s lane x r. lane-more steps gives n a b c d s lane x below h given ticked r;
      cells = λ s lane x r.
          let k = kind_of s.link.params in
          let y : LaneRun = ran k s lane g x n in
          ap sent ticked.ring ∙ given.sends s lane y (h.lane s lane x r)
          ∙ ap (λ (l : List LaneCell). l
          ++ (if gives_before g n then pushed (given_by k s (λ _. y) lane) else []))
          (h.cells s lane x r)
          ∙ append_assoc (sent a.ring) (cells_given k s lane g x n)
          (if gives_before g n then pushed (given_by k s (λ _. y) lane) else [])
          ∙ ap (λ (l : List LaneCell). sent a.ring ++ l) (sym (cells-more k s lane g x n));
      fullest = λ s lane x r.
          let k = kind_of s.link.params in
          ticked.fullest
          ∙ ap₂ max (given.fullest ∙ h.fullest s lane x r)
          (held-is d s lane (ran k s lane g x (suc n))
          (lane-more steps gives n a b c d s lane x below h given ticked r))
          ∙ sym (most-more k s lane g x a.fullest n);
      count = ap₂ (λ (m : ℕ) (l : List LaneCell). m + length l) ticked.room (ap sent ticked.ring)
          ∙ given.count ∙ h.count;
      room = rw ticked.room (room-more g n a.room b.room c.room h.room given.room);
      ring =
          let u = h.ring in
          let v = given.ring in
          let joined : SameProducer a.ring c.ring = (
            (
              v.0.0 ∙ u.0.0,
              v.0.1 ∙ u.0.1,
              v.0.2 ∙ u.0.2,
              v.0.3 ∙ u.0.3,
            ),
            v.1 ∙ u.1,
          ) in
          rw ticked.ring joined;
      octets = ticked.octets ∙ given.octets ∙ h.octets;
      next = ticked.next
          ∙ ap (λ p. next_after p (step_at g n).tx)
          (ap params_in given.tx ∙ h.same);
      same = ticked.same ∙ ap params_in given.tx ∙ h.same;
    }
