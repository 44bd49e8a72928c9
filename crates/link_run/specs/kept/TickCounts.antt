-- What the rows of a tick add to the counts.
-- Code: one row at a time.
use Rattle.std.specs.Prelude.{ℕ, ◌+◌, ◌*◌, List, map, length, count_by, Option}
use Rattle.link_params.specs.declared.cells.Mark.{Mark}
use Rattle.link_params.specs.declared.fields.Params.{Params}
use Rattle.link_params.specs.Numbers.{octets_per_tick}
use Rattle.scenario.specs.declared.report_row.Totals.{Totals}
use Rattle.link_model.specs.Report.{is_bad, is_fixed, is_ok}
use Rattle.link_model.specs.Sends.{beginnings}

-- the octet times at which frames begin in tick t, where it carries data at this place
abbrev pub entered_at : Params → ℕ → Option ℕ → List ℕ
entered_at p t place = map (λ j. octets_per_tick p * t + j) (beginnings p place)

-- the counts with some alarms more
abbrev pub with_alarms : Totals → ℕ → Totals
with_alarms n k = record n { alarms = n.alarms + k }

-- the counts with frames of these marks more
abbrev pub with_marks : Totals → List Mark → Totals
with_marks n ms = record n {
  delivered = n.delivered + length ms;
  ok = n.ok + count_by is_ok ms;
  fixed = n.fixed + count_by is_fixed ms;
  bad = n.bad + count_by is_bad ms;
}
