-- What the reader keeps after some records, and what it answers (this project's own format).
-- Code: one record at a time.
use Rattle.std.specs.Prelude.{◌≡◌, Option, Some, None, Result, Ok, Err}
use Rattle.link_params.specs.declared.fields.Params.{Params}
use Rattle.scenario.specs.declared.fault.Fault.{Fault}
use Rattle.scenario.specs.declared.fault.RecordFault.{RecordFault}
use Rattle.scenario.specs.declared.fault.RecordFault.TheVariants.{Bad, NoMemory}
use Rattle.scenario.specs.declared.fault.ScenarioFault.{ScenarioFault}
use Rattle.scenario.specs.declared.fault.ScenarioFault.TheVariants as failed
use Rattle.scenario.specs.declared.reading.Reading.{Reading}
use Rattle.scenario.specs.declared.scenario_type.Scenario.{Scenario}
use Rattle.scenario.specs.declared.stage.Stage.{Stage}
use Rattle.scenario.specs.declared.stage.Stage.TheVariants as stage
use Rattle.scenario.specs.Inputs.{input_words}
use Rattle.scenario.specs.Reads.{Seen, Refusal, bad_at}
use Rattle.scenario.specs.Plans.{plan_read, plan_of}

-- what the reader keeps
abbrev pub seen_of : Reading → Seen
seen_of r = record {
  version = r.version;
  stage = r.stage;
  words = r.words.items;
  octets = r.octets.items;
  events = r.events.items;
  jitters = r.jitters.items;
  flips = r.flips.items;
  wire = r.wire.items;
  route = r.route.items;
  polarities = r.polarities.items;
}

-- one step of the reader is a step of the definition; want of memory is free
abbrev pub StepsTo : Result Seen Fault → Seen → Result (Unit {0}) RecordFault → Type 0
StepsTo due new (Ok u) = due ≡ Ok new
StepsTo due new (Err (Bad f)) = due ≡ Err f
StepsTo due new (Err NoMemory) = Unit {0}

-- the shape that is fixed at a place in the order of records
abbrev pub shape_of : Stage → Option Params
shape_of (stage.Frames p) = Some p
shape_of (stage.Octets p) = Some p
shape_of (stage.Body b) = Some b.link.params
shape_of s = None

-- a scenario holds what the records said: the shape, and the words, the octets or the plan of a run
pub record Holds (s : Scenario) (seen : Seen) : Type 0 where
  pub shape : shape_of seen.stage ≡ Some s.shape
  pub words : seen.words ≡ input_words s.input
  pub octets : seen.octets ≡ s.octets.items
  pub plan : plan_read seen ≡ plan_of s

-- the scenario that the records spell, or the first bad record; want of memory is free
abbrev pub Answers : Result Seen Refusal → Result Scenario ScenarioFault → Type 0
Answers (Ok seen) (Ok s) = Holds s seen
Answers (Err b) (Err (failed.Bad r c a)) = b ≡ bad_at r c a
Answers due (Err failed.NoMemory) = Unit {0}
Answers due other = ⊥
