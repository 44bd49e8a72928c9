-- What came of writing a text.
use Rattle.std.specs.Prelude.{◌≡◌, ◌⊎◌, ℕ, Bool, List, take, Option}
use Rattle.jesd_base.specs.Streams.{Added, Rose}
use Rattle.jesd_base.specs.declared.status.Status.{Status}
use Rattle.jesd_base.specs.declared.status.Status.TheVariants.{NoMemory, WriteFault}
use Rattle.scenario.specs.Plans.{Plan}
use Rattle.link_run.specs.Rows.{HasWritten}

-- all of the text was written, and the status is the one that is due then
pub record IsWhole (due status : Status) (text : List ℕ) (old new : Option (List ℕ)) : Type 0 where
  pub status_due : status ≡ due
  pub added : Added old new text

-- the sink failed behind a prefix of the text
pub record IsCutOff (status : Status) (text : List ℕ) (old new : Option (List ℕ))
    (old_faults new_faults : ℕ) : Type 0 where
  pub status_fault : status ≡ WriteFault
  pub rose : Rose old_faults new_faults
  pub count : ℕ
  pub prefix : Added old new (take count text)

abbrev pub IsWritten : Status → Status → List ℕ → Option (List ℕ) → Option (List ℕ) → ℕ → ℕ
    → Type 0
IsWritten due status text old new old_faults new_faults = IsWhole due status text old new
    ⊎ IsCutOff status text old new old_faults new_faults

-- what came of writing the lines of a plan's run; short: the first and the last one alone
abbrev pub IsRunWritten : Status → Plan → Bool → Option (List ℕ) → Option (List ℕ) → ℕ → ℕ
    → Type 0
IsRunWritten NoMemory s short old new old_faults new_faults =
    (new ≡ old) × (new_faults ≡ old_faults)
IsRunWritten status s short old new old_faults new_faults =
    HasWritten status s short old new old_faults new_faults
