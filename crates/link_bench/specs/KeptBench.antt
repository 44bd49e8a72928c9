-- What a call of the top keeps: the bench that ran, where a run is done.
-- Code: the bench itself.
use Rattle.std.specs.Prelude.{◌≡◌, ℕ, true, List, Option, Some, None, Ok, unwrap_or, option_map}
use Rattle.jesd_base.specs.declared.status.Status.{Status}
use Rattle.jesd_base.specs.declared.status.Status.TheVariants.{Done, Alarmed}
use Rattle.bench_words.specs.Reading.{asked_by_words}
use Rattle.bench_words.specs.declared.asked.Words.{Words}
use Rattle.scenario.specs.declared.kind.Job.TheVariants as job
use Rattle.scenario.specs.Plans.{Plan, plan_of, plan_read}
use Rattle.scenario.specs.Reads.{Seen, reads}
use Rattle.scenario.specs.Generated.{generated}
use Rattle.link_run.specs.Ran.{BenchView, HaveRun}
use Rattle.link_bench.specs.declared.asked.Asked.{Asked}
use Rattle.link_bench.specs.declared.asked.Asked.TheVariants.{Input, Generated}
use Rattle.link_bench.specs.Causes.{Ends, ReadWhole}

-- the workers that the words ask for
abbrev pub workers_asked : List (List ℕ) → ℕ
workers_asked words = unwrap_or (option_map (λ (w : Words). w.workers) (asked_by_words words)) 1

-- a bench has run a plan: its scenario's, on so many workers; its lanes made the run, and the ends
-- of their rings received all that they gave
pub record HasRunPlan (b : BenchView) (plan : Plan) (workers : ℕ) : Type 0 where
  pub plan_is : plan_of b.scenario ≡ Some plan
  pub workers_are : b.workers ≡ workers
  pub has_run : b.ran ≡ true
  pub lanes : HaveRun b.lanes b.ends plan plan.ticks

-- the input was read to its end, and its records spell this plan
pub record IsPlanRead (old new : Ends) (plan : Plan) : Type 0 where
  pub bytes : List ℕ
  pub whole : ReadWhole old new bytes
  pub seen : Seen
  pub accepted : reads job.Run bytes ≡ Ok seen
  pub spelled : plan_read seen ≡ Some plan

-- the bench that is kept has run this plan
pub record KeepsPlan (kept : Option BenchView) (plan : Plan) (workers : ℕ) : Type 0 where
  pub bench : BenchView
  pub kept_is : kept ≡ Some bench
  pub has_run : HasRunPlan bench plan workers

-- where a job is done: for a run the bench that ran the plan of the input, for a number the one
-- that ran the plan of the number, and nothing for the other jobs
abbrev pub KeepsFor : Asked → ℕ → Ends → Ends → Option BenchView → Type 0
KeepsFor (Input job.Map) workers old new kept = kept ≡ None
KeepsFor (Input job.Unmap) workers old new kept = kept ≡ None
KeepsFor (Input job.Run) workers old new kept = (plan : Plan) × IsPlanRead old new plan
    × KeepsPlan kept plan workers
KeepsFor (Generated number) workers old new kept = KeepsPlan kept (generated number) workers

-- and nothing is kept with another status
abbrev pub IsKept : Status → Option Asked → ℕ → Ends → Ends → Option BenchView → Type 0
IsKept Done (Some a) workers old new kept = KeepsFor a workers old new kept
IsKept Alarmed (Some a) workers old new kept = KeepsFor a workers old new kept
IsKept _ _ workers old new kept = kept ≡ None
