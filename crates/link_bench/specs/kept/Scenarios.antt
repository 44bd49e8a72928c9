-- The text of a job and its alarms, of the scenario as it was read.
use Rattle.std.specs.Prelude.{◌≡◌, ℕ, true, false, List, Option, Some, None, IsTrue, is_some}
use Rattle.scenario.specs.declared.kind.Job.{Job}
use Rattle.scenario.specs.declared.kind.Job.TheVariants as job
use Rattle.scenario.specs.declared.scenario_type.Scenario.{Scenario}
use Rattle.scenario.specs.Inputs.{input_words}
use Rattle.scenario.specs.Plans.{Plan, plan_of}
use Rattle.link_model.specs.Kinds.{report_of}
use Rattle.link_run.specs.Ran.{BenchView}
use Rattle.link_run.specs.Rows.{is_done}
use Rattle.jesd_base.specs.declared.status.Status.{Status}
use Rattle.jesd_base.specs.declared.status.Status.TheVariants.{Done, NoMemory}
use Rattle.link_bench.specs.KeptBench.{KeepsPlan}
use Rattle.link_bench.specs.Lines.{IsMapped, IsUnmapped}
use Rattle.link_bench.specs.kept.Written.{IsRunWritten, IsWritten}

-- the text of a job
abbrev pub IsLines : Job → Scenario → List ℕ → Type 0
IsLines job.Map s text = IsMapped s.shape (input_words s.input) text
IsLines job.Unmap s text = IsUnmapped s.shape s.octets.items text
IsLines job.Run s text = (plan : Plan) × (plan_of s ≡ Some plan) × (text ≡ report_of plan)

-- what came of a job that writes a text
abbrev pub IsTextWritten : Job → Scenario → Status → Option (List ℕ) → Option (List ℕ) → ℕ → ℕ
    → Type 0
IsTextWritten j s NoMemory old new old_faults new_faults = (new ≡ old) × (new_faults ≡ old_faults)
IsTextWritten j s status old new old_faults new_faults = (text : List ℕ) × IsLines j s text
    × IsWritten Done status text old new old_faults new_faults

-- what came of a job on a scenario
abbrev pub DoesScenario : Job → Scenario → Status → Option (List ℕ) → Option (List ℕ) → ℕ → ℕ
    → Type 0
DoesScenario job.Run s status old new old_faults new_faults = (plan : Plan)
    × (plan_of s ≡ Some plan) × IsRunWritten status plan false old new old_faults new_faults
DoesScenario j s status old new old_faults new_faults =
    IsTextWritten j s status old new old_faults new_faults

-- a run has a link
abbrev pub IsReady : Job → Scenario → Type 0
IsReady job.Map s = Unit {0}
IsReady job.Unmap s = Unit {0}
IsReady job.Run s = IsTrue (is_some s.link)

-- the bench that is there after a job
abbrev pub IsKeptOf : Job → Scenario → ℕ → Status → Option BenchView → Type 0
IsKeptOf job.Map s workers status kept = kept ≡ None
IsKeptOf job.Unmap s workers status kept = kept ≡ None
IsKeptOf job.Run s workers status kept = (is_done status ≡ true → (plan : Plan)
    × (plan_of s ≡ Some plan) × KeepsPlan kept plan workers)
    × (is_done status ≡ false → kept ≡ None)
