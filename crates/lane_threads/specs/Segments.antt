-- What a segment of ticks makes of a lane: the lane sends and takes in each tick, and where the
-- segment gives, the lane gives an entry after each tick but the last.
-- Code: each lane for itself, tick by tick.
use Rattle.std.specs.Prelude.{◌≡◌, ◌<◌, ◌≤◌, ℕ, zero, suc, ◌+◌, ◌-◌, Bool, true, false, ◌&&◌, nat_lt, if◌then◌else◌, List, [], ◌∷◌, ◌++◌, length, get_or, slice_index, max, Option, None, Some}
use Rattle.rtrb.specs.Ring.{IsPair, SameProducer, sent}
use Rattle.link_params.specs.declared.cells.LaneCell.{LaneCell}
use Rattle.link_params.specs.declared.fields.Params.{Params}
use Rattle.link_params.specs.declared.orders.TxOrder.TheVariants.{Comma}
use Rattle.link_params.specs.Lanes.{LaneKind}
use Rattle.link_params.specs.Numbers.{depth}
use Rattle.lane_c.specs.kept.Receivers.{IsArmedOn}
use Rattle.scenario.specs.Plans.{Plan}
use Rattle.link_model.specs.Kinds.{kind_of}
use Rattle.link_model.specs.kept.LaneRuns.{LaneRun, given_by, held_by, stepped}
use Rattle.lane_threads.specs.declared.cell_end.CellEnd.{CellEnd}
use Rattle.lane_threads.specs.declared.lane_pair.LanePair.{LanePair}
use Rattle.lane_threads.specs.declared.step.Step.{Step}
use Rattle.lane_threads.specs.kept.LaneEnds.{Follows, next_after, next_in, params_in}
use Rattle.lane_threads.specs.kept.LaneRuns.{HasRunLane}

-- the steps of a segment, the octets of a lane in each of its ticks, and whether the lane gives
pub record Segment : Type 0 where
  pub steps : List Step
  pub octets : List ℕ
  pub gives : Bool

-- the orders of tick n
abbrev pub no_step : Step
no_step = record {
  tx = Comma;
  rx = record { hunt = false; armed = false; offset = 0 };
}

abbrev pub step_at : Segment → ℕ → Step
step_at g n = get_or g.steps n no_step

-- an entry is given before tick n: after each tick but the last
abbrev pub gives_before : Segment → ℕ → Bool
gives_before g n = nat_lt 0 n && g.gives

-- what a lane went through once that entry was given
abbrev pub ready : Segment → ℕ → LaneRun → LaneRun
ready g n x = record x { gave = if gives_before g n then x.gave + 1 else x.gave }

-- what a lane that went through x went through after n ticks of the segment
unfoldable pub ran : LaneKind → Plan → ℕ → Segment → LaneRun → ℕ → LaneRun
ran k s lane g x zero = x
ran k s lane g x (suc n) =
    stepped k s lane (ready g n (ran k s lane g x n)) (step_at g n).tx (slice_index g.octets n)
    (step_at g n).rx

-- the cells that are sent for an entry: none for a place of the alignment sequence
abbrev pub pushed : Option LaneCell → List LaneCell
pushed None = []
pushed (Some cell) = cell ∷ []

-- the cells that the lane gives in n ticks, in order
unfoldable pub cells_given : LaneKind → Plan → ℕ → Segment → LaneRun → ℕ → List LaneCell
cells_given k s lane g x zero = []
cells_given k s lane g x (suc n) =
    cells_given k s lane g x n
    ++ (if gives_before g n then pushed (given_by k s (λ _. ran k s lane g x n) lane) else [])

-- the greatest of `most` and the numbers of entries that it holds after each of n ticks
unfoldable pub most_held : LaneKind → Plan → ℕ → Segment → LaneRun → ℕ → ℕ → ℕ
most_held k s lane g x most zero = most
most_held k s lane g x most (suc n) =
    max (most_held k s lane g x most n) (held_by k s (λ _. ran k s lane g x (suc n)) lane)

-- the place of the data that comes next, after n ticks
unfoldable pub next_at : Params → Option ℕ → Segment → ℕ → Option ℕ
next_at p next g zero = next
next_at p next g (suc n) = next_after p (step_at g n).tx

-- a lane that went through x may run the segment: in each tick its order follows the one before;
-- where no hunt begins in it, the lane is armed if it was before, and its buffer has room; and
-- where the lane gives an entry, its buffer holds one
pub record MayRun (k : LaneKind) (s : Plan) (lane : ℕ) (next : Option ℕ) (g : Segment)
    (x : LaneRun) : Type 0 where
  pub follows : (n : ℕ) → n < length g.steps
      → Follows s.link.params (next_at s.link.params next g n) (step_at g n).tx
  pub armed : (n : ℕ) → n < length g.steps → (step_at g n).rx.hunt ≡ false
      → IsArmedOn (ran k s lane g x n).taken (step_at g n).rx
  pub room : (n : ℕ) → n < length g.steps → (step_at g n).rx.hunt ≡ false
      → held_by k s (λ _. ready g n (ran k s lane g x n)) lane < depth s.link.params s.link.timing
  pub entry : (n : ℕ) → n < length g.steps → gives_before g n ≡ true
      → 0 < held_by k s (λ _. ran k s lane g x n) lane

-- the segment of a lane
abbrev pub segment_of : LanePair → List Step → Bool → Segment
segment_of a steps gives = record { steps = steps; octets = a.octets.items; gives = gives }

-- lane `lane` of this plan went through x, and may run the segment
pub record Runs (a : LanePair) (steps : List Step) (gives : Bool) (s : Plan) (lane : ℕ)
    (x : LaneRun) : Type 0 where
  pub has : HasRunLane a.lane s lane x
  pub may : MayRun (kind_of s.link.params) s lane (next_in a.lane.tx) (segment_of a steps gives) x

-- a lane can run these steps: it has their octets, its ring has room, and it is a lane of a plan
-- that may run the segment
pub record CanRun (steps : List Step) (gives : Bool) (a : LanePair) : Type 0 where
  pub few : length steps ≤ length a.octets.items
  pub cells : gives ≡ true → length steps ≤ a.room
  pub plan : Plan
  pub lane : ℕ
  pub run : LaneRun
  pub runs : Runs a steps gives plan lane run
  pub same : params_in a.lane.tx ≡ plan.link.params

-- b is what n ticks of the segment leave of lane a: it went through them, sent the cells that it
-- gave on its ring, in order, and the greatest number held is that of before or of one of them
pub record HasRunTo (n : ℕ) (steps : List Step) (gives : Bool) (a b : LanePair) : Type 0 where
  pub lane : (s : Plan) (lane : ℕ) (x : LaneRun) → Runs a steps gives s lane x
      → HasRunLane b.lane s lane
      (ran (kind_of s.link.params) s lane (segment_of a steps gives) x n)
  pub cells : (s : Plan) (lane : ℕ) (x : LaneRun) → Runs a steps gives s lane x
      → sent b.ring ≡ sent a.ring
      ++ cells_given (kind_of s.link.params) s lane (segment_of a steps gives) x n
  pub fullest : (s : Plan) (lane : ℕ) (x : LaneRun) → Runs a steps gives s lane x
      → b.fullest
      ≡ most_held (kind_of s.link.params) s lane (segment_of a steps gives) x a.fullest n
  pub count : b.room + length (sent b.ring) ≡ a.room + length (sent a.ring)
  pub room : a.room ≤ b.room + (n - 1)
  pub ring : SameProducer a.ring b.ring
  pub octets : b.octets.items ≡ a.octets.items
  pub next : next_in b.lane.tx
      ≡ next_at (params_in a.lane.tx) (next_in a.lane.tx) (segment_of a steps gives) n
  pub same : params_in b.lane.tx ≡ params_in a.lane.tx

-- and what the whole segment leaves
abbrev pub HasRun : List Step → Bool → LanePair → LanePair → Type 0
HasRun steps gives a b = HasRunTo (length steps) steps gives a b

-- lane by lane
abbrev pub EachCanRun : List Step → Bool → List LanePair → Type 0
EachCanRun steps gives [] = Unit {0}
EachCanRun steps gives (a ∷ lanes) = CanRun steps gives a × EachCanRun steps gives lanes

abbrev pub EachHasRun : List Step → Bool → List LanePair → List LanePair → Type 0
EachHasRun steps gives [] [] = Unit {0}
EachHasRun steps gives (a ∷ old) (b ∷ new) = HasRun steps gives a b × EachHasRun steps gives old new
EachHasRun steps gives [] (b ∷ new) = ⊥
EachHasRun steps gives (a ∷ old) [] = ⊥

-- a lane and the end of its ring come from one opening
abbrev pub IsOnePair : LanePair → CellEnd → Type 0
IsOnePair a end = IsPair a.ring end.ring
