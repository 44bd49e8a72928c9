-- What each status of the top call says of the words, the input and the output.
use Rattle.std.specs.Prelude.{◌≡◌, ◌<◌, ◌≤◌, ◌⊎◌, ℕ, List, length, take, Option, Some, None, Ok, Err}
use Rattle.jesd_base.specs.Streams.{Gave, IsAtEnd, Added, Rose}
use Rattle.jesd_base.specs.declared.status.Status.{Status}
use Rattle.jesd_base.specs.declared.status.Status.TheVariants.{Done, Alarmed, BadWords, BadScenario, ReadFault, WriteFault, NoMemory, TooLong}
use Rattle.scenario.specs.declared.kind.Job.{Job}
use Rattle.scenario.specs.Reads.{Seen, Refusal, reads}
use Rattle.scenario.specs.Plans.{Plan}
use Rattle.scenario.specs.Generated.{generated}
use Rattle.link_bench.specs.declared.asked.Asked.{Asked}
use Rattle.link_bench.specs.declared.asked.Asked.TheVariants.{Input, Generated}
use Rattle.link_run.specs.Rows.{alarms_in}
use Rattle.link_bench.specs.Jobs.{usage, limit, bad_line, alarms_of, first_and_last, IsText, IsDue}

-- both ends of a call: what the source has left, what the sink holds, where they tell it, and how
-- often each failed
pub record Ends : Type 0 where
  pub left : Option (List ℕ)
  pub written : Option (List ℕ)
  pub reads_failed : ℕ
  pub writes_failed : ℕ

abbrev pub ends : Option (List ℕ) → Option (List ℕ) → ℕ → ℕ → Ends
ends left written reads_failed writes_failed = record {
  left = left;
  written = written;
  reads_failed = reads_failed;
  writes_failed = writes_failed;
}

-- nothing was read
abbrev pub ReadNothing : Ends → Ends → Type 0
ReadNothing old new = (new.left ≡ old.left) × (new.reads_failed ≡ old.reads_failed)

-- nothing was written
abbrev pub WroteNothing : Ends → Ends → Type 0
WroteNothing old new = (new.written ≡ old.written) × (new.writes_failed ≡ old.writes_failed)

-- the input was read to its end, and was these bytes
pub record ReadWhole (old new : Ends) (bytes : List ℕ) : Type 0 where
  pub given : Gave old.left new.left bytes
  pub at_end : IsAtEnd new.left
  pub short : length bytes ≤ limit

-- these bytes were written
abbrev pub Wrote : Ends → Ends → List ℕ → Type 0
Wrote old new text = Added old.written new.written text

-- a prefix of what was due was written
pub record WrotePrefix (old new : Ends) (due : List ℕ) : Type 0 where
  pub count : ℕ
  pub prefix : Added old.written new.written (take count due)

-- the cause of each status where the words are refused
abbrev pub OnRefusal : Status → Ends → Ends → Type 0
OnRefusal BadWords old new = ReadNothing old new × Wrote old new usage
OnRefusal WriteFault old new = Rose old.writes_failed new.writes_failed × ReadNothing old new
    × WrotePrefix old new usage
OnRefusal NoMemory old new = ReadNothing old new × WroteNothing old new
OnRefusal _ old new = ⊥

-- an accepted input was read to its end, and the text of the job on it was written
pub record IsDone (j : Job) (old new : Ends) (seen : Seen) : Type 0 where
  pub bytes : List ℕ
  pub whole : ReadWhole old new bytes
  pub accepted : reads j bytes ≡ Ok seen
  pub text : List ℕ
  pub due : IsText j seen text
  pub wrote : Wrote old new text

-- the cause of each status of a job on the input
abbrev pub OnInput : Job → Status → Ends → Ends → Type 0
OnInput j Done old new = (seen : Seen) × (alarms_of j seen ≡ 0) × IsDone j old new seen
OnInput j Alarmed old new = (seen : Seen) × (0 < alarms_of j seen) × IsDone j old new seen
OnInput j BadScenario old new = (bytes : List ℕ) × ReadWhole old new bytes
    × (b : Refusal) × (reads j bytes ≡ Err b) × Wrote old new (bad_line b)
OnInput j ReadFault old new = Rose old.reads_failed new.reads_failed
    × (given : List ℕ) × Gave old.left new.left given × (length given ≤ limit)
    × WroteNothing old new
OnInput j TooLong old new = (given : List ℕ) × Gave old.left new.left given
    × (limit < length given) × WroteNothing old new
OnInput j WriteFault old new = Rose old.writes_failed new.writes_failed
    × (bytes : List ℕ) × ReadWhole old new bytes × (due : List ℕ) × IsDue j bytes due
    × WrotePrefix old new due
OnInput j NoMemory old new = WroteNothing old new
OnInput j BadWords old new = ⊥

-- the cause of each status of a plan that is run without an input
abbrev pub OnPlan : Plan → Status → Ends → Ends → Type 0
OnPlan plan Done old new = (alarms_in plan ≡ 0) × ReadNothing old new
    × Wrote old new (first_and_last plan)
OnPlan plan Alarmed old new = (0 < alarms_in plan) × ReadNothing old new
    × Wrote old new (first_and_last plan)
OnPlan plan WriteFault old new = Rose old.writes_failed new.writes_failed × ReadNothing old new
    × WrotePrefix old new (first_and_last plan)
OnPlan plan NoMemory old new = ReadNothing old new × WroteNothing old new
OnPlan plan _ old new = ⊥

-- the cause of each status, for what the words ask for, None where they are refused
abbrev pub Causes : Status → Option Asked → Ends → Ends → Type 0
Causes status None old new = OnRefusal status old new
Causes status (Some (Input j)) old new = OnInput j status old new
Causes status (Some (Generated number)) old new = OnPlan (generated number) status old new

-- the job is done, with or without alarms, or memory ran out
abbrev pub IsDoneOrNoMemory : Status → Type 0
IsDoneOrNoMemory status = (status ≡ Done) ⊎ (status ≡ Alarmed) ⊎ (status ≡ NoMemory)

-- a job that was asked for is done, or memory ran out: for a number, where the sink's count did not
-- rise; for an input, where besides it is told, short enough and accepted, and the source's count
-- did not rise
abbrev pub IsComplete : Status → Option Asked → Ends → Ends → Type 0
IsComplete status None old new = Unit {0}
IsComplete status (Some (Input j)) old new = (bytes : List ℕ) (seen : Seen) → old.left ≡ Some bytes
    → length bytes ≤ limit → reads j bytes ≡ Ok seen → (Rose old.reads_failed new.reads_failed → ⊥)
    → (Rose old.writes_failed new.writes_failed → ⊥) → IsDoneOrNoMemory status
IsComplete status (Some (Generated number)) old new =
    (Rose old.writes_failed new.writes_failed → ⊥) → IsDoneOrNoMemory status
