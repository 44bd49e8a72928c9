-- The rows that a run hands on, and what their taker took (this project's own format).
-- Code: rows are handed on one at a time.
use Rattle.std.specs.Prelude.{◌≡◌, ◌<◌, ◌≤◌, ℕ, ◌+◌, ◌-◌, ◌*◌, ◌^◌, Bool, true, false, if◌then◌else◌, List, [], ◌++◌, All, length, take, drop, Option}
use Rattle.jesd_base.specs.Streams.{Added, Rose}
use Rattle.jesd_base.specs.declared.status.Status.{Status}
use Rattle.jesd_base.specs.declared.status.Status.TheVariants as status
use Rattle.link_params.specs.declared.fields.Params.{Params}
use Rattle.scenario.specs.Plans.{Plan}
use Rattle.scenario.specs.declared.report_row.Row.{Row}
use Rattle.scenario.specs.declared.report_row.Row.TheVariants as row
use Rattle.link_model.specs.Kinds.{run_of}
use Rattle.link_model.specs.Report.{Printed, lines, rows, totals}
use Rattle.link_run.specs.declared.bench.Played.{Played}
use Rattle.link_run.specs.declared.bench.Played.TheVariants.{Quiet, Alarmed, Stopped}

-- the first row and the last one
abbrev pub first_and_last_rows : List Printed → List Printed
first_and_last_rows all = take 1 all ++ drop (length all - 1) all

-- the rows of a plan's run; short: the first and the last one alone
abbrev pub rows_handed : Plan → Bool → List Printed
rows_handed s short = let all = rows s (run_of s s.ticks) in
    if short then first_and_last_rows all else all

-- how many alarms it raises
abbrev pub alarms_in : Plan → ℕ
alarms_in s = (totals s (run_of s s.ticks)).alarms

-- the words of a frame
pub record AreFrameWords (p : Params) (words : List ℕ) : Type 0 where
  pub count : length words ≡ p.m * p.s
  pub below : All (λ w. w < 2 ^ (p.n + p.cs)) words

-- the words that a row has: those of a frame where one enters or leaves, and else none
abbrev pub HasWords : Params → Row → List ℕ → Type 0
HasWords p (row.Enter o) words = AreFrameWords p words
HasWords p (row.Frame o m) words = AreFrameWords p words
HasWords p row.Link words = words ≡ []
HasWords p (row.Hunt t) words = words ≡ []
HasWords p (row.Arm t) words = words ≡ []
HasWords p (row.Release t) words = words ≡ []
HasWords p (row.Alarm t a) words = words ≡ []
HasWords p (row.End n) words = words ≡ []

-- a taker was handed these rows between two states, all of them (whole) or, where it failed, the
-- first ones; `took`, `shape` and `faults` are what it tells of itself
pub record WasHanded (A : Type 0) (took : A → A → List Printed → Type 0)
    (shape : A → Option Params) (faults : A → ℕ) (old now : A) (whole : Bool)
    (handed : List Printed) : Type 0 where
  pub all : whole ≡ true → (first : A) (before : List Printed) → took first old before
      → took first now (before ++ handed)
  pub prefix : whole ≡ false → (first : A) (before : List Printed) → took first old before
      → (n : ℕ) × took first now (before ++ take n handed)
  pub failed : whole ≡ false → Rose (faults old) (faults now)
  pub count : faults old ≤ faults now
  pub same_shape : shape now ≡ shape old

-- whether all rows were taken
abbrev pub is_whole : Played → Bool
is_whole Quiet = true
is_whole Alarmed = true
is_whole Stopped = false

-- how many alarms a run has after which this is answered
abbrev pub HasAlarms : Played → ℕ → Type 0
HasAlarms Quiet n = n ≡ 0
HasAlarms Alarmed n = 0 < n
HasAlarms Stopped n = Unit {0}

-- the run is done, with or without alarms
abbrev pub is_done : Status → Bool
is_done status.Done = true
is_done status.Alarmed = true
is_done _ = false

-- what a status says of a run whose lines are written: all were, without an alarm or with some, or
-- the sink failed and a prefix was
abbrev pub HasWritten : Status → Plan → Bool → Option (List ℕ) → Option (List ℕ) → ℕ → ℕ → Type 0
HasWritten status.Done s short old new old_faults new_faults = (alarms_in s ≡ 0)
    × Added old new (lines s (rows_handed s short))
HasWritten status.Alarmed s short old new old_faults new_faults = (0 < alarms_in s)
    × Added old new (lines s (rows_handed s short))
HasWritten status.WriteFault s short old new old_faults new_faults = Rose old_faults new_faults
    × (n : ℕ) × Added old new (take n (lines s (rows_handed s short)))
HasWritten _ s short old new old_faults new_faults = ⊥
