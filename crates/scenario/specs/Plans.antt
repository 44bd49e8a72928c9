-- What a run is made of, and the frames that go into it (this project's own).
-- Code: one frame at a time; events are sorted once.
use Rattle.std.specs.Prelude.{ℕ, ◌+◌, ◌*◌, ◌/◌, ◌%◌, ◌==◌, Bool, false, if◌then◌else◌, List, [], ◌∷◌, length, map, fold, Option, Some, None, filter, slice_index}
use Rattle.std.specs.List.{flat_map}
use Rattle.link_params.specs.declared.fields.Params.{Params}
use Rattle.link_params.specs.Links.{Link}
use Rattle.scenario.specs.declared.input.Input.{Input}
use Rattle.scenario.specs.declared.input.Input.TheVariants as input
use Rattle.scenario.specs.declared.plan.Print.{Print}
use Rattle.scenario.specs.declared.plan.Event.{Event}
use Rattle.scenario.specs.declared.plan.Jitter.{Jitter}
use Rattle.scenario.specs.declared.plan.Flip.{Flip}
use Rattle.scenario.specs.declared.scenario_type.Scenario.{Scenario}
use Rattle.scenario.specs.declared.stage.Polarity.{Polarity}
use Rattle.scenario.specs.declared.stage.Ramp.{Ramp as RampRead}
use Rattle.scenario.specs.declared.stage.Stage.{Stage}
use Rattle.scenario.specs.declared.stage.Stage.TheVariants as stage
unfoldable pub use Rattle.scenario.specs.Numbers.{numbers_from}
use Rattle.scenario.specs.Reads.{Seen, word_limit}

-- where the words of source frames come from: a ramp with its start and its step, or the words of
-- frames
pub data Source : Type 0 where
  Ramp : ℕ → ℕ → Source
  Frames : List ℕ → Source

-- a run: the version of the format, the link, the ticks, what is printed, the source, the events in
-- the order of ticks, and in the order of records those of one tick, the jitters and the flips; for
-- each receiver lane the transmitter lane to which it is wired, the lane of the frame that it is set
-- to be, and whether all its bits are inverted
pub record Plan : Type 0 where
  pub version : ℕ
  pub link : Link
  pub ticks : ℕ
  pub print : Print
  pub source : Source
  pub events : List Event
  pub jitters : List Jitter
  pub flips : List Flip
  pub wire : List ℕ
  pub route : List ℕ
  pub inverted : List Bool

-- ---- source frames

-- word k of source frame n
abbrev pub source_word : Params → Source → ℕ → ℕ → ℕ
source_word p (Ramp start step) n k = (start + step * (n * (p.m * p.s) + k)) % word_limit p
source_word p (Frames words) n k =
    slice_index words (n % (length words / (p.m * p.s)) * (p.m * p.s) + k)

-- the M·S words of frame n of a source
abbrev pub frame_of_source : Params → Source → ℕ → List ℕ
frame_of_source p source n = map (source_word p source n) (numbers_from 0 (p.m * p.s))

-- the M·S words of source frame n of a run
unfoldable pub source_frame : Plan → ℕ → List ℕ
source_frame s n = frame_of_source s.link.params s.source n

-- ---- the plan that was read

-- the events of tick t, in the order of their records
abbrev pub events_in : ℕ → List Event → List Event
events_in t events = filter (λ e. e.tick == t) events

-- events in the order of ticks, those of one tick in the order of their records
unfoldable pub in_order : ℕ → List Event → List Event
in_order ticks events = flat_map (λ t. events_in t events) (numbers_from 0 ticks)

-- without a ramp and without frames the source is the ramp from 0 by 1
abbrev pub source_of : Option RampRead → List ℕ → Source
source_of (Some r) words = Ramp r.start r.step
source_of None [] = Ramp 0 1
source_of None (w ∷ words) = Frames (w ∷ words)

-- without a record the lanes are in their order
abbrev pub lanes_or : ℕ → List ℕ → List ℕ
lanes_or l [] = numbers_from 0 l
lanes_or l (x ∷ xs) = x ∷ xs

-- all bits of a lane are inverted, by the last record for it
abbrev pub is_inverted_lane : List Polarity → ℕ → Bool
is_inverted_lane polarities lane =
    fold (λ b (x : Polarity). if x.lane == lane then x.inverted else b) false polarities

-- the same of each lane below l
unfoldable pub inverted_lanes : ℕ → List Polarity → List Bool
inverted_lanes l polarities = map (is_inverted_lane polarities) (numbers_from 0 l)

abbrev pub plan_at : Stage → Seen → Option Plan
plan_at (stage.Body b) seen = Some (record {
  version = seen.version;
  link = b.link;
  ticks = b.ticks;
  print = b.print;
  source = source_of b.ramp seen.words;
  events = in_order b.ticks seen.events;
  jitters = seen.jitters;
  flips = seen.flips;
  wire = lanes_or b.link.params.l seen.wire;
  route = lanes_or b.link.params.l seen.route;
  inverted = inverted_lanes b.link.params.l seen.polarities;
})
plan_at s seen = None

-- the plan that the records spell; none for `map` and `unmap`
abbrev pub plan_read : Seen → Option Plan
plan_read seen = plan_at seen.stage seen

-- ---- the plan that a scenario holds

abbrev pub source_in : Input → Source
source_in (input.Ramp start step) = Ramp start step
source_in (input.Frames words) = Frames words.items

abbrev pub plan_with : Option Link → Scenario → Option Plan
plan_with None s = None
plan_with (Some k) s = Some (record {
  version = s.version;
  link = k;
  ticks = s.ticks;
  print = s.print;
  source = source_in s.input;
  events = s.events.items;
  jitters = s.jitters.items;
  flips = s.flips.items;
  wire = s.wire.items;
  route = s.route.items;
  inverted = s.inverted.items;
})

abbrev pub plan_of : Scenario → Option Plan
plan_of s = plan_with s.link s
