-- Rows that a list of frames took.
use Rattle.std.proofs.Common.{◌≡◌, ◌≤◌, ℕ, List, [], ◌∷◌, ◌++◌, length, take, Option, refl, sym, ap, ◌∙◌, append_assoc, append-nil, arith, inl, inr}
use Rattle.std.proofs.lemmas.Bool.{cases_lt}
use Rattle.std.proofs.lemmas.List.{length-take, take-append-le, take_all}
use Rattle.link_params.specs.declared.cells.Mark.{Mark}
use Rattle.scenario.specs.declared.report_row.Row.{Row}
use Rattle.scenario.specs.declared.report_row.Row.TheVariants as row
use Rattle.scenario.specs.declared.report_row.Totals.{Totals}
use Rattle.link_model.specs.Moments.{Delivered}
use Rattle.link_model.specs.Report.{Printed}
use Rattle.link_run.specs.Frames.{Kept, TookFrames, frames_in, frames_of_row, totals_in, totals_with}

frames-more : (rows : List Printed) (x : Printed)
    → frames_in (rows ++ x ∷ []) ≡ frames_in rows ++ frames_of_row x.row x.words
unfolding frames_in
frames-more [] x = append-nil (frames_of_row x.row x.words)
frames-more (y ∷ rows) x =
    ap (λ (l : List Delivered). frames_of_row y.row y.words ++ l) (frames-more rows x)
    ∙ sym (append_assoc (frames_of_row y.row y.words) (frames_in rows) (frames_of_row x.row x.words))

totals-more : (before : Option Totals) (rows : List Printed) (x : Printed)
    → totals_in before (rows ++ x ∷ []) ≡ totals_with (totals_in before rows) x.row
unfolding totals_in
totals-more before [] x = refl
totals-more before (y ∷ rows) x = totals-more (totals_with before y.row) rows x

-- what is cut off before more is added would be cut off after it
take-again : (n : ℕ) (xs ys : List Delivered) → take n (take n xs ++ ys) ≡ take n (xs ++ ys)
take-again n xs ys = elim (cases_lt (length xs) n) [
  | inl below ↦ ap (λ (l : List Delivered). take n (l ++ ys)) (take_all n xs (omega arith))
  | inr up ↦
      let full : length (take n xs) ≡ n = length-take n xs ∙ omega arith in
      take-append-le n (take n xs) ys (omega arith) ∙ take_all n (take n xs) (omega arith)
      ∙ sym (take-append-le n xs ys (omega arith))
]

took-none : (v : Kept) → length v.frames ≤ v.room → TookFrames v v []
unfolding frames_in totals_in
took-none v few = record {
  same_params = refl;
  same_room = refl;
  frames_are = sym (ap (take v.room) (append-nil v.frames) ∙ take_all v.room v.frames few);
  totals_are = refl;
}

took-row : (first old now : Kept) (rows : List Printed) (x : Printed)
    → now.params ≡ old.params → now.room ≡ old.room
    → now.frames ≡ take old.room (old.frames ++ frames_of_row x.row x.words)
    → now.totals ≡ totals_with old.totals x.row
    → TookFrames first old rows → TookFrames first now (rows ++ x ∷ [])
took-row first old now rows x params room frames totals h =
    let more = frames_of_row x.row x.words in
    record {
      same_params = params ∙ h.same_params;
      same_room = room ∙ h.same_room;
      frames_are = frames
          ∙ ap (λ (n : ℕ). take n (old.frames ++ more)) h.same_room
          ∙ ap (λ (l : List Delivered). take first.room (l ++ more)) h.frames_are
          ∙ take-again first.room (first.frames ++ frames_in rows) more
          ∙ ap (take first.room) (append_assoc first.frames (frames_in rows) more
          ∙ ap (λ (l : List Delivered). first.frames ++ l) (sym (frames-more rows x)));
      totals_are = totals
          ∙ ap (λ (o : Option Totals). totals_with o x.row) h.totals_are
          ∙ sym (totals-more first.totals rows x);
    }

-- a frame leaves
pub took-frame : (first old now : Kept) (rows : List Printed) (x : Printed)
    → now ≡ record old { frames = take old.room (old.frames ++ frames_of_row x.row x.words) }
    → totals_with old.totals x.row ≡ old.totals
    → TookFrames first old rows → TookFrames first now (rows ++ x ∷ [])
took-frame first old now rows x is none h =
    took-row first old now rows x (ap (λ (v : Kept). v.params) is) (ap (λ (v : Kept). v.room) is)
    (ap (λ (v : Kept). v.frames) is) (ap (λ (v : Kept). v.totals) is ∙ sym none) h

-- none leaves
pub took-other : (first old now : Kept) (rows : List Printed) (x : Printed)
    → now ≡ record old { totals = totals_with old.totals x.row }
    → frames_of_row x.row x.words ≡ []
    → TookFrames first old rows → TookFrames first now (rows ++ x ∷ [])
took-other first old now rows x is none h =
    let cut : length old.frames ≤ old.room = rw (h.frames_are, length-take, h.same_room) (omega arith)
    in
    let same : old.frames ≡ take old.room (old.frames ++ frames_of_row x.row x.words) =
    sym (ap (λ (l : List Delivered). take old.room (old.frames ++ l)) none
    ∙ ap (take old.room) (append-nil old.frames) ∙ take_all old.room old.frames cut) in
    took-row first old now rows x (ap (λ (v : Kept). v.params) is) (ap (λ (v : Kept). v.room) is)
    (ap (λ (v : Kept). v.frames) is ∙ same) (ap (λ (v : Kept). v.totals) is) h

-- other rows have no frame and leave the totals
pub other-row : (r : Row) (words : List ℕ) (o : Option Totals)
    → ((time : ℕ) (m : Mark) → r ≡ row.Frame time m → ⊥)
    → ((n : Totals) → r ≡ row.End n → ⊥)
    → (frames_of_row r words ≡ []) × (totals_with o r ≡ o)
other-row row.Link words o frame end = (refl, refl)
other-row (row.Hunt t) words o frame end = (refl, refl)
other-row (row.Arm t) words o frame end = (refl, refl)
other-row (row.Release t) words o frame end = (refl, refl)
other-row (row.Alarm t a) words o frame end = (refl, refl)
other-row (row.Enter t) words o frame end = (refl, refl)
other-row (row.Frame t m) words o frame end = absurd (frame t m refl)
other-row (row.End n) words o frame end = absurd (end n refl)
