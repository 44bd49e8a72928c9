-- What a taker that writes lines keeps of the rows that it took.
-- Code: some bytes that are gathered.
use Rattle.std.specs.Prelude.{◌≡◌, ◌≤◌, ◌<◌, ◌^◌, ℕ, Bool, true, false, if◌then◌else◌, List, ◌++◌, take, Option, Some}
use Rattle.jesd_base.specs.Streams.{Added, Rose}
use Rattle.jesd_base.specs.declared.status.Status.{Status}
use Rattle.jesd_base.specs.declared.status.Status.TheVariants as status
use Rattle.link_params.specs.declared.alarms.Alarm.{Alarm}
use Rattle.link_params.specs.declared.alarms.Alarm.TheVariants as alarm
use Rattle.scenario.specs.declared.report_row.Row.{Row}
use Rattle.scenario.specs.declared.report_row.Row.TheVariants as row
use Rattle.scenario.specs.declared.report_row.Totals.{Totals}
use Rattle.scenario.specs.declared.scenario_type.Scenario.{Scenario}
use Rattle.scenario.specs.Plans.{Plan, plan_of}
use Rattle.link_model.specs.Report.{Printed, lines}
use Rattle.link_run.specs.declared.bench.Played.{Played}
use Rattle.link_run.specs.declared.bench.Played.TheVariants.{Quiet, Alarmed, Stopped}

-- the lines that are gathered, and for how many words a line has room
pub record Gathered : Type 0 where
  pub bytes : List ℕ
  pub words : ℕ

-- a taker of rows: its scenario, the lines that are gathered, what was written where the sink tells
-- it, whether the sink failed, and how often
pub record Writing : Type 0 where
  pub scenario : Scenario
  pub bytes : List ℕ
  pub written : Option (List ℕ)
  pub failed : Bool
  pub faults : ℕ

abbrev pub writing_of : Scenario → Gathered → Bool → Option (List ℕ) → ℕ → Writing
writing_of s lines failed written faults = record {
  scenario = s;
  bytes = lines.bytes;
  written = written;
  failed = failed;
  faults = faults;
}

-- all that is due was written or is gathered
pub record HasAll (first now : Writing) (due : List ℕ) : Type 0 where
  pub text : List ℕ
  pub added : Added first.written now.written text
  pub rest : text ++ now.bytes ≡ first.bytes ++ due

-- a prefix of what is due was written, and the sink failed
pub record HasPrefix (first now : Writing) (due : List ℕ) : Type 0 where
  pub count : ℕ
  pub added : Added first.written now.written (take count (first.bytes ++ due))
  pub rose : Rose first.faults now.faults

-- where the sink failed, or did not
abbrev pub HasTaken : Bool → Writing → Writing → List ℕ → Type 0
HasTaken true first now due = HasPrefix first now due
HasTaken false first now due = HasAll first now due

-- the lines of these rows were taken, where the sink had not failed
pub record TookLines (first now : Writing) (rows : List Printed) : Type 0 where
  pub same : now.scenario ≡ first.scenario
  pub faults : first.faults ≤ now.faults
  pub took : (s : Plan) → plan_of first.scenario ≡ Some s → first.failed ≡ false
      → HasTaken now.failed first now (lines s rows)

-- the status of a run whose rows were handed on and whose last lines were written or not
abbrev pub status_of : Played → Bool → Status
status_of Quiet flushed = if flushed then status.Done else status.WriteFault
status_of Alarmed flushed = if flushed then status.Alarmed else status.WriteFault
status_of Stopped flushed = status.WriteFault

-- the numbers of an alarm, of the counts, and of a row, have 32 bits
abbrev pub AlarmFits : Alarm → Type 0
AlarmFits (alarm.LaneWindow lane offset) = (lane < 2 ^ 32) × (offset < 2 ^ 32)
AlarmFits (alarm.LaneMissing lane) = lane < 2 ^ 32
AlarmFits (alarm.LaneLost lane) = lane < 2 ^ 32
AlarmFits (alarm.NoLock lane) = lane < 2 ^ 32
AlarmFits (alarm.IlasFault lane place) = (lane < 2 ^ 32) × (place < 2 ^ 32)
AlarmFits (alarm.ConfigMismatch lane octet) = (lane < 2 ^ 32) × (octet < 2 ^ 32)
AlarmFits (alarm.LaneId lane lid) = (lane < 2 ^ 32) × (lid < 2 ^ 32)
AlarmFits (alarm.SysrefPhase d off) = off < 2 ^ 32
AlarmFits alarm.StartTimeout = Unit {0}

pub record TotalsFit (n : Totals) : Type 0 where
  pub ticks : n.ticks < 2 ^ 32
  pub entered : n.entered < 2 ^ 32
  pub delivered : n.delivered < 2 ^ 32
  pub ok : n.ok < 2 ^ 32
  pub fixed : n.fixed < 2 ^ 32
  pub bad : n.bad < 2 ^ 32
  pub alarms : n.alarms < 2 ^ 32
  pub fullest : n.fullest < 2 ^ 32

abbrev pub RowFits : Row → Type 0
RowFits row.Link = Unit {0}
RowFits (row.Hunt t) = t < 2 ^ 32
RowFits (row.Arm t) = t < 2 ^ 32
RowFits (row.Release t) = t < 2 ^ 32
RowFits (row.Alarm t a) = (t < 2 ^ 32) × AlarmFits a
RowFits (row.Enter o) = o < 2 ^ 32
RowFits (row.Frame o m) = o < 2 ^ 32
RowFits (row.End n) = TotalsFit n
