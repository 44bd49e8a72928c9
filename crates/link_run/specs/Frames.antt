-- The frames that a list keeps of the rows that it took, and the totals (this project's own).
-- Code: arrays of a fixed size.
use Rattle.std.specs.Prelude.{◌≡◌, ℕ, List, [], ◌∷◌, ◌++◌, take, Option, Some}
use Rattle.link_params.specs.declared.fields.Params.{Params}
use Rattle.link_params.specs.declared.cells.Mark.TheVariants.{Ok as Good}
use Rattle.scenario.specs.declared.report_row.Row.{Row}
use Rattle.scenario.specs.declared.report_row.Row.TheVariants as row
use Rattle.scenario.specs.declared.report_row.Totals.{Totals}
use Rattle.link_model.specs.Moments.{Delivered}
use Rattle.link_model.specs.Report.{Printed}

-- the parameters of the link, for how many frames there is room, the frames, and the totals
pub record Kept : Type 0 where
  pub params : Params
  pub room : ℕ
  pub frames : List Delivered
  pub totals : Option Totals

abbrev pub no_delivered : Delivered
no_delivered = record { left = 0; mark = Good; words = [] }

-- the frames of a row: one where one leaves
abbrev pub frames_of_row : Row → List ℕ → List Delivered
frames_of_row (row.Frame o m) words = record { left = o; mark = m; words = words } ∷ []
frames_of_row row.Link words = []
frames_of_row (row.Hunt t) words = []
frames_of_row (row.Arm t) words = []
frames_of_row (row.Release t) words = []
frames_of_row (row.Alarm t a) words = []
frames_of_row (row.Enter o) words = []
frames_of_row (row.End n) words = []

-- the totals of the last End row, where there is one
abbrev pub totals_with : Option Totals → Row → Option Totals
totals_with before (row.End n) = Some n
totals_with before row.Link = before
totals_with before (row.Hunt t) = before
totals_with before (row.Arm t) = before
totals_with before (row.Release t) = before
totals_with before (row.Alarm t a) = before
totals_with before (row.Enter o) = before
totals_with before (row.Frame o m) = before

unfoldable pub frames_in : List Printed → List Delivered
frames_in [] = []
frames_in (x ∷ xs) = frames_of_row x.row x.words ++ frames_in xs

unfoldable pub totals_in : Option Totals → List Printed → Option Totals
totals_in before [] = before
totals_in before (x ∷ xs) = totals_in (totals_with before x.row) xs

-- these rows were taken: as many of their frames are kept as there is room for
pub record TookFrames (first now : Kept) (rows : List Printed) : Type 0 where
  pub same_params : now.params ≡ first.params
  pub same_room : now.room ≡ first.room
  pub frames_are : now.frames ≡ take first.room (first.frames ++ frames_in rows)
  pub totals_are : now.totals ≡ totals_in first.totals rows
