-- What the values that were read obey (this project's own limits).
-- Code: none of this is computed.
use Rattle.std.specs.Prelude.{◌≡◌, ◌≤◌, ◌<◌, ◌⊎◌, true, ℕ, ◌+◌, ◌*◌, ◌/◌, ◌%◌, List, [], length, Option, Some, None, IsTrue}
use Rattle.std.specs.List.{All}
use Rattle.link_params.specs.declared.fields.Params.{Params}
use Rattle.link_params.specs.Numbers.{octets_per_tick}
use Rattle.scenario.specs.Limits.{event_fits, flip_fits, is_order, jitter_fits}
use Rattle.scenario.specs.Reads.{Seen, copies, flipped, word_limit}
use Rattle.scenario.specs.declared.plan.Event.{Event}
use Rattle.scenario.specs.declared.plan.Flip.{Flip}
use Rattle.scenario.specs.declared.plan.Jitter.{Jitter}
use Rattle.scenario.specs.declared.plan.Print.{Print}
use Rattle.scenario.specs.declared.stage.Ramp.{Ramp}
use Rattle.scenario.specs.declared.stage.Stage.{Stage}
use Rattle.scenario.specs.declared.stage.Stage.TheVariants as stage

-- whole frames, of words that are not too large
pub record AreFrames (p : Params) (words : List ℕ) : Type 0 where
  pub whole : length words % (p.m * p.s) ≡ 0
  pub fit : All (λ w. w < word_limit p) words

-- the octets of whole frames on all lanes
pub record AreOctets (p : Params) (octets : List ℕ) : Type 0 where
  pub whole : length octets % (p.l * p.f) ≡ 0

-- a ramp of words that are not too large, and no frames with it; or frames
abbrev pub IsInput : Params → Option Ramp → List ℕ → Type 0
IsInput p (Some r) words = (r.start < word_limit p) × (r.step < word_limit p) × (words ≡ [])
IsInput p None words = AreFrames p words

-- the ticks of a run that is not too large
pub record AreTicks (p : Params) (ticks : ℕ) (how : Print) : Type 0 where
  pub some : 1 ≤ ticks
  pub few : ticks ≤ 1048576
  pub octets : ticks * p.l * octets_per_tick p ≤ 4194304
  pub words : copies how * (ticks * octets_per_tick p / p.f) * (p.m * p.s) ≤ 2097152

-- events, jitters and flips of a run of so many ticks
pub record AreEvents (p : Params) (ticks : ℕ) (events : List Event) (jitters : List Jitter)
    (flips : List Flip) : Type 0 where
  pub events_fit : All (λ e. IsTrue (event_fits p ticks e)) events
  pub jitters_fit : All (λ j. IsTrue (jitter_fits j)) jitters
  pub flips_fit : All (λ f. IsTrue (flip_fits p ticks f)) flips
  pub few_events : length events + length jitters ≤ 4096
  pub few_flips : flipped flips ≤ 65536

-- no lanes, or an order of the lanes
abbrev pub IsLanes : Params → List ℕ → Type 0
IsLanes p lanes = (lanes ≡ []) ⊎ (is_order p.l lanes ≡ true)

-- the lanes of `wire` and of `route`
pub record AreLanes (p : Params) (wire route : List ℕ) : Type 0 where
  pub wire_lanes : IsLanes p wire
  pub route_lanes : IsLanes p route

-- no events, jitters, flips and lanes
abbrev pub HasNone : Seen → Type 0
HasNone seen = (seen.events ≡ []) × (seen.jitters ≡ []) × (seen.flips ≡ []) × (seen.wire ≡ [])
    × (seen.route ≡ [])

-- what holds at this place in the order of records
abbrev pub AreSound : Stage → Seen → Type 0
AreSound (stage.Frames p) seen = AreFrames p seen.words × (seen.octets ≡ []) × HasNone seen
AreSound (stage.Octets p) seen = (seen.words ≡ []) × AreOctets p seen.octets × HasNone seen
AreSound (stage.Body b) seen = IsInput b.link.params b.ramp seen.words × (seen.octets ≡ [])
    × AreTicks b.link.params b.ticks b.print
    × AreEvents b.link.params b.ticks seen.events seen.jitters seen.flips
    × AreLanes b.link.params seen.wire seen.route
AreSound s seen = (seen.words ≡ []) × (seen.octets ≡ []) × HasNone seen

abbrev pub IsSound : Seen → Type 0
IsSound seen = AreSound seen.stage seen
