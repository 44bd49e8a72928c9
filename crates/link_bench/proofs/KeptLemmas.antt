-- The bench that is kept.
use Rattle.std.proofs.Common.{◌≡◌, ◌∙◌, ℕ, Bool, true, false, if◌then◌else◌, List, Option, Some, None, Ok, Err, refl}
use Rattle.std.specs.Prelude.{Result}
use Rattle.jesd_base.specs.declared.status.Status.{Status}
use Rattle.jesd_base.specs.declared.status.Status.TheVariants.{Done, Alarmed, BadWords, BadScenario, ReadFault, WriteFault, NoMemory, TooLong}
use Rattle.scenario.specs.declared.kind.Job.{Job}
use Rattle.scenario.specs.declared.kind.Job.TheVariants as job
use Rattle.scenario.specs.declared.scenario_type.Scenario.{Scenario}
use Rattle.scenario.specs.Answer.{Answers}
use Rattle.scenario.specs.Reads.{Seen, Refusal, reads}
use Rattle.link_run.specs.Ran.{BenchView}
use Rattle.link_run.specs.Rows.{is_done}
use Rattle.link_bench.specs.declared.asked.Asked.{Asked}
use Rattle.link_bench.specs.declared.asked.Asked.TheVariants.{Input}
use Rattle.link_bench.specs.Causes.{Ends, ReadWhole}
use Rattle.link_bench.specs.KeptBench.{IsKept, KeepsFor}
use Rattle.link_bench.specs.kept.Scenarios.{IsKeptOf}

-- what is due after a job that is done is kept, and nothing otherwise
pub kept-where : (a : Asked) (status : Status) (workers : ℕ) (old new : Ends)
    (kept : Option BenchView)
    → (is_done status ≡ true → KeepsFor a workers old new kept)
    → (is_done status ≡ false → kept ≡ None)
    → IsKept status (Some a) workers old new kept
kept-where a Done workers old new kept due none = due refl
kept-where a Alarmed workers old new kept due none = due refl
kept-where a BadWords workers old new kept due none = none refl
kept-where a BadScenario workers old new kept due none = none refl
kept-where a ReadFault workers old new kept due none = none refl
kept-where a WriteFault workers old new kept due none = none refl
kept-where a NoMemory workers old new kept due none = none refl
kept-where a TooLong workers old new kept due none = none refl

kept-read : (due : Result Seen Refusal) (j : Job) (s : Scenario) (status : Status) (workers : ℕ)
    (old new : Ends) (bytes : List ℕ) (kept : Option BenchView)
    → ReadWhole old new bytes → reads j bytes ≡ due → Answers due (Ok s)
    → IsKeptOf j s workers status kept
    → IsKept status (Some (Input j)) workers old new kept
kept-read due job.Map s status workers old new bytes kept read accepted a is =
    kept-where (Input job.Map) status workers old new kept (λ done. is) (λ failed. is)
kept-read due job.Unmap s status workers old new bytes kept read accepted a is =
    kept-where (Input job.Unmap) status workers old new kept (λ done. is) (λ failed. is)
kept-read (Ok seen) job.Run s status workers old new bytes kept read accepted a (keeps, none) =
    kept-where (Input job.Run) status workers old new kept
    (λ done. let (plan, is, has_run) = keeps done in (
      plan,
      record {
        bytes = bytes;
        whole = read;
        seen = seen;
        accepted = accepted;
        spelled = a.plan ∙ is;
      },
      has_run,
    )) none
kept-read (Err b) job.Run s status workers old new bytes kept read accepted a is = absurd a

-- after a job on an input that was read
pub input-kept : (j : Job) (s : Scenario) (status : Status) (workers : ℕ) (old new : Ends)
    (bytes : List ℕ) (kept : Option BenchView)
    → ReadWhole old new bytes → Answers (reads j bytes) (Ok s) → IsKeptOf j s workers status kept
    → IsKept status (Some (Input j)) workers old new kept
input-kept j s status workers old new bytes kept read a is =
    kept-read (reads j bytes) j s status workers old new bytes kept read refl a is

-- the bench of a run is there where the run is done
pub keeps-done : (done : Bool) (bench : BenchView) (kept : Option BenchView)
    → kept ≡ (if done then Some bench else None) → done ≡ true → kept ≡ Some bench
keeps-done true bench kept is e = is
keeps-done false bench kept is e = absurd (cc e)

pub drops-failed : (done : Bool) (bench : BenchView) (kept : Option BenchView)
    → kept ≡ (if done then Some bench else None) → done ≡ false → kept ≡ None
drops-failed false bench kept is e = is
drops-failed true bench kept is e = absurd (cc e)
