-- What is kept of the rows of a run.
-- Code: their counts.
use Rattle.std.specs.Prelude.{ℕ, ◌+◌, Bool, if◌then◌else◌}
use Rattle.link_params.specs.declared.cells.Mark.{Mark}
use Rattle.link_params.specs.declared.fields.Params.{Params}
use Rattle.scenario.specs.declared.report_row.Totals.{Totals}
use Rattle.link_model.specs.Report.{is_bad, is_fixed, is_ok}

-- the parameters of the frames, whether the first and the last row alone are handed on, and the
-- counts
pub record Printing : Type 0 where
  pub params : Params
  pub short : Bool
  pub totals : Totals

abbrev pub no_totals : Totals
no_totals = record {
  ticks = 0;
  entered = 0;
  delivered = 0;
  ok = 0;
  fixed = 0;
  bad = 0;
  alarms = 0;
  fullest = 0;
}

-- the counts with k frames of this mark more
abbrev pub counted_marks : Totals → Mark → ℕ → Totals
counted_marks n m k = record n {
  delivered = n.delivered + k;
  ok = n.ok + (if is_ok m then k else 0);
  fixed = n.fixed + (if is_fixed m then k else 0);
  bad = n.bad + (if is_bad m then k else 0);
}
