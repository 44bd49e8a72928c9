-- What the words ask for, and what is due for an input.
use Rattle.std.specs.Prelude.{◌≡◌, ℕ, true, List, ◌++◌, Option, Some, None, Result, Ok, Err, codes, decimal, option_map}
use Rattle.link_params.specs.declared.fields.Params.{Params}
use Rattle.bench_words.specs.Reading.{asked_by_words}
use Rattle.bench_words.specs.declared.asked.Task.{Task}
use Rattle.bench_words.specs.declared.asked.Task.TheVariants as task
use Rattle.bench_words.specs.declared.asked.Words.{Words}
use Rattle.scenario.specs.declared.kind.Job.{Job}
use Rattle.scenario.specs.declared.kind.Job.TheVariants as job
use Rattle.scenario.specs.Answer.{shape_of}
use Rattle.scenario.specs.Plans.{Plan, plan_read}
use Rattle.scenario.specs.Reads.{Seen, Refusal, reads}
use Rattle.link_model.specs.Kinds.{report_of}
use Rattle.link_model.specs.Report.{lines}
use Rattle.link_run.specs.Rows.{alarms_in, rows_handed}
use Rattle.link_bench.specs.declared.asked.Asked.{Asked}
use Rattle.link_bench.specs.declared.asked.Asked.TheVariants.{Input, Generated}
use Rattle.link_bench.specs.Lines.{IsMapped, IsUnmapped}

-- what a task asks for: a job on the input, or the run of the scenario of a number
abbrev pub asked_for : Task → ℕ → Asked
asked_for task.Map number = Input job.Map
asked_for task.Unmap number = Input job.Unmap
asked_for task.Run number = Input job.Run
asked_for task.Gen number = Generated number

-- what the words ask for, None where they are refused
abbrev pub asked : List (List ℕ) → Option Asked
asked words = option_map (λ (w : Words). asked_for w.task w.number) (asked_by_words words)

abbrev pub usage : List ℕ
usage = codes "usage: jesd_bench JOB [--workers N] [--number N]\n"

-- an input is at most so long
abbrev pub limit : ℕ
limit = 4194304

-- `bad,ROW,CAUSE,AT`
abbrev pub bad_line : Refusal → List ℕ
bad_line b = codes "bad,"
    ++ (decimal b.row
    ++ (codes "," ++ (decimal b.cause ++ (codes "," ++ (decimal b.at ++ codes "\n")))))

-- the text that a job writes for a scenario
abbrev pub IsText : Job → Seen → List ℕ → Type 0
IsText job.Map seen text = (p : Params) × (shape_of seen.stage ≡ Some p)
    × IsMapped p seen.words text
IsText job.Unmap seen text = (p : Params) × (shape_of seen.stage ≡ Some p)
    × IsUnmapped p seen.octets text
IsText job.Run seen text = (plan : Plan) × (plan_read seen ≡ Some plan)
    × (text ≡ report_of plan)

-- none where there is no plan
abbrev pub alarms_in_any : Option Plan → ℕ
alarms_in_any None = 0
alarms_in_any (Some plan) = alarms_in plan

-- how many alarms a job raises; only a run raises any
abbrev pub alarms_of : Job → Seen → ℕ
alarms_of job.Map seen = 0
alarms_of job.Unmap seen = 0
alarms_of job.Run seen = alarms_in_any (plan_read seen)

-- what is due for an input that was read to its end
abbrev pub IsDueFor : Job → Result Seen Refusal → List ℕ → Type 0
IsDueFor j (Ok seen) text = IsText j seen text
IsDueFor j (Err b) text = text ≡ bad_line b

abbrev pub IsDue : Job → List ℕ → List ℕ → Type 0
IsDue j bytes text = IsDueFor j (reads j bytes) text

-- the first line and the last line of the report of a plan's run
abbrev pub first_and_last : Plan → List ℕ
first_and_last plan = lines plan (rows_handed plan true)
