-- The report of a run: its rows and their lines (this project's own format).
-- Code: lines are added tick by tick.
use Rattle.std.specs.Prelude.{ℕ, suc, ◌+◌, Bool, true, false, if◌then◌else◌, List, [], ◌∷◌, ◌++◌, map, length, fold, count_by, max, Option, Some, None}
use Rattle.std.specs.List.{flat_map}
use Rattle.link_params.specs.declared.cells.Mark.{Mark}
use Rattle.link_params.specs.declared.cells.Mark.TheVariants as mark
use Rattle.link_params.specs.declared.alarms.Device.{Device}
use Rattle.link_params.specs.declared.alarms.Device.TheVariants.{Tx, Rx}
use Rattle.link_params.specs.declared.alarms.Alarm.{Alarm}
use Rattle.link_params.specs.declared.alarms.Alarm.TheVariants.{SysrefPhase}
use Rattle.link_params.specs.Lanes.{LaneKind}
use Rattle.bring_up.specs.declared.stage.Decision.{Decision}
use Rattle.bring_up.specs.declared.stage.Decision.TheVariants as decision
use Rattle.scenario.specs.declared.plan.Print.{Print}
use Rattle.scenario.specs.declared.plan.Print.TheVariants as print
use Rattle.scenario.specs.declared.report_row.Row.{Row}
use Rattle.scenario.specs.declared.report_row.Row.TheVariants as row
use Rattle.scenario.specs.declared.report_row.Totals.{Totals}
use Rattle.scenario.specs.Plans.{Plan, source_frame}
use Rattle.scenario.specs.ReportLines.{line_of}
use Rattle.link_model.specs.Edges.{is_reset, off}
use Rattle.link_model.specs.Moments.{Delivered, History, Moment}
use Rattle.link_model.specs.Run.{run}

-- a row with its words
pub record Printed : Type 0 where
  pub row : Row
  pub words : List ℕ

abbrev pub bare : Row → Printed
bare r = record { row = r; words = [] }

abbrev pub prints_frames : Print → Bool
prints_frames print.None = false
prints_frames print.Frames = true
prints_frames print.All = true

abbrev pub prints_all : Print → Bool
prints_all print.None = false
prints_all print.Frames = false
prints_all print.All = true

abbrev pub off_alarm : Device → Option ℕ → List Alarm
off_alarm d None = []
off_alarm d (Some x) = SysrefPhase d x ∷ []

-- the SysrefPhase alarms of tick t, the transmitter's first
unfoldable pub off_alarms : Plan → ℕ → List Alarm
off_alarms s t = off_alarm Tx (off s Tx t) ++ off_alarm Rx (off s Rx t)

abbrev pub decision_rows : ℕ → Decision → List Row
decision_rows t decision.Stay = []
decision_rows t decision.Arm = row.Arm t ∷ []
decision_rows t decision.Release = row.Release t ∷ []
decision_rows t decision.Hunt = row.Hunt t ∷ []

-- the rows of source frames that begin at these octet times, the first of which has number n
unfoldable pub enter_rows : Plan → ℕ → List ℕ → List Printed
enter_rows s n [] = []
enter_rows s n (o ∷ os) = record { row = row.Enter o; words = source_frame s n }
    ∷ enter_rows s (suc n) os

abbrev pub frame_row : Delivered → Printed
frame_row d = record { row = row.Frame d.left d.mark; words = d.words }

abbrev pub bares : List Row → List Printed
bares rows = map bare rows

-- the rows of tick t, where n frames entered before it
unfoldable pub rows_of_tick : Plan → ℕ → ℕ → Moment → List Printed
rows_of_tick s t n m =
    bares (if is_reset s Rx t then row.Hunt t ∷ [] else [])
    ++ (bares (map (row.Alarm t) (off_alarms s t))
    ++ ((if prints_all s.print then enter_rows s n m.entered else [])
    ++ (bares (map (row.Alarm t) m.decided.alarms)
    ++ (bares (decision_rows t m.decided.decision)
    ++ (if prints_frames s.print then map frame_row m.delivered else [])))))

-- the rows of ticks from t on, before which n frames entered
unfoldable pub rows_from : Plan → ℕ → ℕ → History → List Printed
rows_from s t n [] = []
rows_from s t n (m ∷ h) = rows_of_tick s t n m ++ rows_from s (suc t) (n + length m.entered) h

abbrev pub is_ok : Mark → Bool
is_ok mark.Ok = true
is_ok mark.Fixed = false
is_ok mark.Bad = false

abbrev pub is_fixed : Mark → Bool
is_fixed mark.Ok = false
is_fixed mark.Fixed = true
is_fixed mark.Bad = false

abbrev pub is_bad : Mark → Bool
is_bad mark.Ok = false
is_bad mark.Fixed = false
is_bad mark.Bad = true

-- the marks of all frames that were delivered
abbrev pub marks : History → List Mark
marks h = flat_map (λ m. map (λ d. d.mark) m.delivered) h

-- how many alarms the ticks from t on raised
unfoldable pub alarms_from : Plan → ℕ → History → ℕ
alarms_from s t [] = 0
alarms_from s t (m ∷ h) = length (off_alarms s t) + length m.decided.alarms + alarms_from s
    (suc t) h

unfoldable pub totals : Plan → History → Totals
totals s h = record {
  ticks = length h;
  entered = length (flat_map (λ m. m.entered) h);
  delivered = length (marks h);
  ok = count_by is_ok (marks h);
  fixed = count_by is_fixed (marks h);
  bad = count_by is_bad (marks h);
  alarms = alarms_from s 0 h;
  fullest = fold max 0 (flat_map (λ m. m.held) h);
}

-- all rows: the link, the hunt that begins the run, the rows of its ticks, the counts
unfoldable pub rows : Plan → History → List Printed
rows s h = bare row.Link ∷ bare (row.Hunt 0)
    ∷ (rows_from s 0 0 h ++ bare (row.End (totals s h)) ∷ [])

-- the lines of some rows
unfoldable pub lines : Plan → List Printed → List ℕ
lines s printed = flat_map (λ x. line_of s.version s.link x.row x.words) printed

-- the report of a plan's run
unfoldable pub report : LaneKind → Plan → List ℕ
report kind s = lines s (rows s (run kind s s.ticks))
