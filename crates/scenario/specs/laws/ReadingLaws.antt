-- What the plan of an accepted input obeys, and that of a number (this project's own limits; the
-- laws 1 to 17 are those of `link_params`).
-- Code: none of this is computed; the reader checks record by record.
use Rattle.std.specs.Prelude.{◌≡◌, ◌≤◌, ◌<◌, ℕ, ◌*◌, List, true, length, slice_index, Some, None, Ok}
use Rattle.std.specs.List.{All}
use Rattle.link_params.specs.Laws.{broken_law}
use Rattle.link_params.specs.TimingLaws.{broken_timing}
use Rattle.scenario.specs.declared.kind.Job.TheVariants as job
use Rattle.scenario.specs.Limits.{event_fits, flip_fits, is_order, jitter_fits}
use Rattle.scenario.specs.Generated.{generated}
use Rattle.scenario.specs.Plans.{Plan, plan_read, source_frame}
use Rattle.scenario.specs.Reads.{Seen, reads, word_limit}

-- a plan whose link obeys the laws, whose events, jitters and flips are in range, whose lanes are
-- wired and routed each to one, and whose source frames are M·S words each
pub record IsLegalPlan (s : Plan) : Type 0 where
  pub laws : broken_law s.link.params ≡ None
  pub timing : broken_timing s.link.params s.link.timing ≡ None
  pub some_ticks : 1 ≤ s.ticks
  pub few_ticks : s.ticks ≤ 1048576
  pub events : All (λ e. event_fits s.link.params s.ticks e ≡ true) s.events
  pub jitters : All (λ j. jitter_fits j ≡ true) s.jitters
  pub flips : All (λ f. flip_fits s.link.params s.ticks f ≡ true) s.flips
  pub wire : is_order s.link.params.l s.wire ≡ true
  pub route : is_order s.link.params.l s.route ≡ true
  pub inverted : length s.inverted ≡ s.link.params.l
  pub size : (n : ℕ) → length (source_frame s n) ≡ s.link.params.m * s.link.params.s
  pub words : (n r : ℕ) → slice_index (source_frame s n) r < word_limit s.link.params

-- the plan that the records of an accepted input spell is a legal one
abbrev pub ReadsLegalPlans : Type 0
ReadsLegalPlans = (bytes : List ℕ) (seen : Seen) (plan : Plan) → reads job.Run bytes ≡ Ok seen
    → plan_read seen ≡ Some plan → IsLegalPlan plan

-- and each accepted input for `run` spells one
abbrev pub ReadsPlans : Type 0
ReadsPlans = (bytes : List ℕ) (seen : Seen) → reads job.Run bytes ≡ Ok seen
    → (plan : Plan) × (plan_read seen ≡ Some plan)

-- the plan of each number is a legal one
abbrev pub GeneratesLegalPlans : Type 0
GeneratesLegalPlans = (number : ℕ) → IsLegalPlan (generated number)
