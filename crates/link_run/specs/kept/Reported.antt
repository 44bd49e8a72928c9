-- What is reported of a tick.
-- Code: the counts of the rows so far.
use Rattle.std.specs.Prelude.{◌≡◌, ◌≤◌, ℕ, ◌+◌, ◌*◌, Bool, if◌then◌else◌, List, [], ◌∷◌, length}
use Rattle.link_params.specs.declared.alarms.Alarm.{Alarm}
use Rattle.link_params.specs.declared.alarms.Device.TheVariants.{Tx, Rx}
use Rattle.link_params.specs.Numbers.{octets_per_tick}
use Rattle.scenario.specs.declared.report_row.Row.TheVariants as row
use Rattle.scenario.specs.declared.report_row.Totals.{Totals}
use Rattle.scenario.specs.Plans.{Plan}
use Rattle.link_run.specs.declared.ticked.Ticked.{Ticked}
use Rattle.link_model.specs.Edges.{is_reset, off}
use Rattle.link_model.specs.Kinds.{moment_of}
use Rattle.link_model.specs.Moments.{History}
use Rattle.link_model.specs.Report.{Printed, bare, rows_from, totals}
use Rattle.link_model.specs.Sends.{data_place}
use Rattle.link_run.specs.kept.Gathered.{Whole, delivered_of}
use Rattle.link_run.specs.kept.Printing.{Printing}

-- the rows of these ticks, without the counts
abbrev pub rows_so_far : Plan → History → List Printed
rows_so_far s h = bare row.Link ∷ bare (row.Hunt 0) ∷ rows_from s 0 0 h

-- those that were handed on; short: the first one alone
abbrev pub handed_so_far : Bool → Plan → History → List Printed
handed_so_far short s h = if short then bare row.Link ∷ [] else rows_so_far s h

-- the counts are those of these ticks, but for the entries that lanes held
pub record HasReported (now : Printing) (s : Plan) (h : History) : Type 0 where
  pub counts : now.totals ≡ record (totals s h) { fullest = 0 }

-- what was seen of the tick after this history; alarms: those of the decision, frames: those that
-- left, begun: how many octets of each lane came behind the last of them
pub record IsSeen (x : Ticked) (alarms : List Alarm) (frames : List Whole) (begun : ℕ) (s : Plan)
    (h : History) : Type 0 where
  pub rx_reset : x.rx_reset ≡ is_reset s Rx (length h)
  pub tx_off : x.tx_off ≡ off s Tx (length h)
  pub rx_off : x.rx_off ≡ off s Rx (length h)
  pub place : x.place ≡ data_place (moment_of s h).order
  pub decision : x.decision ≡ (moment_of s h).decided.decision
  pub alarms_are : alarms ≡ (moment_of s h).decided.alarms
  pub delivered_is : (moment_of s h).delivered ≡ delivered_of s.link.params
      (octets_per_tick s.link.params * (length h + 1)) frames begun

-- at most n frames were counted
pub record AreFewFrames (now : Totals) (n : ℕ) : Type 0 where
  pub delivered : now.delivered ≤ n
  pub ok : now.ok ≤ n
  pub fixed : now.fixed ≤ n
  pub bad : now.bad ≤ n

-- the counts of t ticks are small: at most eight frames begin and leave in a tick
pub record AreFew (now : Totals) (t : ℕ) : Type 0 where
  pub ticks : now.ticks ≤ t
  pub entered : now.entered ≤ 8 * t
  pub frames : AreFewFrames now (8 * t)
  pub alarms : now.alarms ≤ 36 * t
