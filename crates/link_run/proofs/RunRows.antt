-- The rows of a run, tick by tick.
use Rattle.std.proofs.Common.{◌≡◌, ℕ, zero, suc, ◌+◌, ◌-◌, ◌≤◌, Bool, true, false, if◌then◌else◌, List, [], ◌∷◌, ◌++◌, drop, length, append-nil, append_assoc, length-append, arith, ap, sym, refl, ◌∙◌}
use Rattle.std.proofs.Math.Seq.{drop-append_seam}
use Rattle.scenario.specs.Plans.{Plan}
use Rattle.scenario.specs.declared.report_row.Row.TheVariants as row
use Rattle.link_model.proofs.RowHistory.{rows-more}
use Rattle.link_model.proofs.RunTicks.{length-run}
use Rattle.link_model.specs.Kinds.{kind_of, moment_of, run_of}
use Rattle.link_model.specs.Moments.{History, Moment}
use Rattle.link_model.specs.Report.{Printed, bare, rows, rows_from, rows_of_tick, totals}
use Rattle.link_model.specs.Run.{run}
use Rattle.link_model.specs.Sends.{frames_before}
use Rattle.link_run.specs.Rows.{rows_handed}
use Rattle.link_run.specs.kept.Reported.{handed_so_far}
use Rattle.link_run.proofs.TickFacts.{run-next}

-- those of a tick, where not only the first and the last one are handed on
abbrev pub rows_in : Bool → Plan → ℕ → List Printed
rows_in short s t =
    if short then [] else rows_of_tick s t (frames_before (run_of s t)) (moment_of s (run_of s t))

-- the first two rows
pub first-rows : (short : Bool) (s : Plan)
    → bare row.Link ∷ (if short then [] else bare (row.Hunt 0) ∷ []) ≡ handed_so_far short s (run_of s 0)
unfolding rows_from run
first-rows true s = refl
first-rows false s = refl

so-far-more : (short : Bool) (s : Plan) (h : History) (m : Moment)
    → handed_so_far short s (h ++ m ∷ [])
    ≡ handed_so_far short s h ++ (if short then [] else rows_of_tick s (length h) (frames_before h) m)
so-far-more true s h m = refl
so-far-more false s h m =
    ap (λ (xs : List Printed). bare row.Link ∷ bare (row.Hunt 0) ∷ xs) (rows-more s h m)

-- a tick more
pub so-far-next : (short : Bool) (s : Plan) (t : ℕ)
    → handed_so_far short s (run_of s t) ++ rows_in short s t
    ≡ handed_so_far short s (run_of s (t + 1))
so-far-next short s t =
    let h = run_of s t in
    ap (λ (n : ℕ). handed_so_far short s h
    ++ (if short then [] else rows_of_tick s n (frames_before h) (moment_of s h)))
    (sym (length-run (kind_of s.link.params) s t))
    ∙ sym (so-far-more short s h (moment_of s h))
    ∙ ap (handed_so_far short s) (sym (run-next t s))

-- more ticks
so-far-rest : (d : ℕ) (short : Bool) (s : Plan) (t : ℕ)
    → (rest : List Printed) × (handed_so_far short s (run_of s t) ++ rest
    ≡ handed_so_far short s (run_of s (t + d)))
so-far-rest zero short s t =
    let same : t ≡ t + 0 = omega arith in (
      [],
      append-nil (handed_so_far short s (run_of s t))
          ∙ ap (λ (n : ℕ). handed_so_far short s (run_of s n)) same,
    )
so-far-rest (suc d) short s t =
    let up : t + 1 + d ≡ t + suc d = omega arith in
    let (rest, is) = so-far-rest d short s (t + 1) in (
      rows_in short s t ++ rest,
      sym (append_assoc (handed_so_far short s (run_of s t)) (rows_in short s t) rest)
          ∙ ap (λ (xs : List Printed). xs ++ rest) (so-far-next short s t)
          ∙ is
          ∙ ap (λ (n : ℕ). handed_so_far short s (run_of s n)) up,
    )

pub so-far-to : (short : Bool) (s : Plan) (t n : ℕ) → t ≤ n
    → (rest : List Printed) × (handed_so_far short s (run_of s t) ++ rest
    ≡ handed_so_far short s (run_of s n))
so-far-to short s t n within =
    let long : t + (n - t) ≡ n = omega arith in
    let (rest, is) = so-far-rest (n - t) short s t in
    (rest, is ∙ ap (λ (k : ℕ). handed_so_far short s (run_of s k)) long)

-- the last row
abbrev pub end_row : Plan → Printed
end_row s = bare (row.End (totals s (run_of s s.ticks)))

last-one : (xs : List Printed) (x : Printed) → drop (length (xs ++ x ∷ []) - 1) (xs ++ x ∷ []) ≡ x ∷ []
last-one xs x =
    let long = length-append xs (x ∷ []) in
    let count : length (xs ++ x ∷ []) - 1 ≡ length xs = omega arith in
    ap (λ (n : ℕ). drop n (xs ++ x ∷ [])) count ∙ drop-append_seam xs (x ∷ [])

-- all rows
pub all-handed : (short : Bool) (s : Plan)
    → handed_so_far short s (run_of s s.ticks) ++ end_row s ∷ [] ≡ rows_handed s short
unfolding rows
all-handed true s =
    ap (λ (xs : List Printed). bare row.Link ∷ xs) (sym (last-one
    (bare row.Link ∷ bare (row.Hunt 0) ∷ rows_from s 0 0 (run_of s s.ticks)) (end_row s)))
all-handed false s = refl

pub handed-to-end : (short : Bool) (s : Plan) (t : ℕ) → t ≤ s.ticks
    → (rest : List Printed) × (handed_so_far short s (run_of s t) ++ rest ≡ rows_handed s short)
handed-to-end short s t within =
    let (rest, is) = so-far-to short s t s.ticks within in (
      rest ++ end_row s ∷ [],
      sym (append_assoc (handed_so_far short s (run_of s t)) rest (end_row s ∷ []))
          ∙ ap (λ (xs : List Printed). xs ++ end_row s ∷ []) is
          ∙ all-handed short s,
    )

pub link-to-end : (short : Bool) (s : Plan)
    → (rest : List Printed) × ((bare row.Link ∷ []) ++ rest ≡ rows_handed s short)
link-to-end short s =
    let (rest, is) = handed-to-end short s 0 (omega arith) in (
      (if short then [] else bare (row.Hunt 0) ∷ []) ++ rest,
      ap (λ (xs : List Printed). xs ++ rest) (first-rows short s) ∙ is,
    )
