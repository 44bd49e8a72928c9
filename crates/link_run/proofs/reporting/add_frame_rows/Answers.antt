use Rattle.std.proofs.Common.{◌≡◌, false, true, ℕ, ◌+◌, ◌-◌, ◌*◌, ◌≤◌, ◌∷◌, [], ◌∙◌, List, ap, arith, get_or, length, refl, sym}
use Rattle.std.proofs.Math.Nat.{mul-le-mul}
use Rattle.link_params.specs.declared.fields.Params.{Params}
use Rattle.sample_map.specs.Frames.{words_of}
use Rattle.scenario.specs.declared.report_row.Row.TheVariants as row
use Rattle.scenario.specs.Plans.{numbers_from}
use Rattle.link_model.specs.Report.{Printed}
use Rattle.link_run.specs.kept.Gathered.{Whole, no_frame}
use Rattle.link_run.specs.kept.Printing.{Printing}
use Rattle.link_run.proofs.HandedRows.{handed-cut, handed-failed, handed-none, handed-same, handed-then}
use Rattle.link_run.proofs.TickRows.{leaving-rest, leaving-shown, leaving_rows}
use Rattle.link_run.proofs.reporting.add_frame_rows.Goals as goal

-- the octet time at which a frame leaves
left-is : (time next end i size f begun at whole count : ℕ) → time ≡ next - (begun + whole * size)
    → next ≡ end + i * size → begun ≡ at → whole ≡ count → size ≡ f
    → time ≡ end + i * f - (at + count * f)
left-is time next end i size f begun at whole count is there begins all same =
    rw (← same, ← begins, ← all, ← there) is

-- the row of a frame
abbrev row_of : List Whole → ℕ → ℕ → Params → Printed
row_of frames i time p = record {
  row = row.Frame time (get_or frames i no_frame).mark;
  words = words_of p (get_or frames i no_frame).octets;
}

pub loop-i-init : goal.loop-i-init
unfolding numbers_from
loop-i-init g c = record {
  within = omega arith;
  next = omega arith;
  same = refl;
  handed = handed-none _;
}

pub overflow_add-next : goal.overflow_add-next
overflow_add-next g c =
    let size = c.size-size.ensures.most in
    let few = c.whole-i-end.ensures.few in
    let below = c.loop-i-test.true in
    let end = c.requires.end in
    let at = c.loop-i.invariant.next in
    let index : c.loop-i.i ≤ 8 = omega arith in
    let most : c.loop-i.i * c.size-size.result ≤ 8 * 256 = mul-le-mul index size in
    omega arith

pub returns-in_err-frame-clause-handed : goal.returns-in_err-frame-clause-handed
returns-in_err-frame-clause-handed g c =
    let had = c.loop-i.invariant in
    let p = c.args.report.now.params in
    let end = c.args.end in
    let frames = c.args.frames.now.frames in
    let at = c.args.frames.now.at in
    let i = c.loop-i.i in
    let time = c.saturating_sub.result in
    let below = c.loop-i-test.true in
    let count = c.whole-i-end.ensures.count in
    let left = left-is time c.loop-i.next end i c.size-size.result p.f c.begun.result at
    c.whole.result (length frames) c.saturating_sub.ensures had.next c.begun.ensures.begun
    c.whole.ensures.count
    (c.size-size.ensures.value ∙ ap (λ (q : Params). q.f) c.requires.frames) in
    let (rest, split) = leaving-rest p end frames at (i + 1) (length frames) (omega arith) in
    handed-failed c.from_residual.result c.from_residual.ensures.0
    (handed-same {whole = false} _ _ split
    (handed-cut _ _ (leaving_rows p end frames at (i + 1)) rest
    (handed-same {whole = false} _ _
    (sym (leaving-shown true [] p end frames at i time (get_or frames i no_frame) left refl))
    (handed-then _ _ _ false (leaving_rows p end frames at i) (row_of frames i time p ∷ [])
    had.handed
    (handed-same {whole = false} _ _
    (ap (λ (r : Printing). row_of frames i time r.params ∷ []) had.same)
    c.in_err-frame.ensures.handed)))))

pub loop-i-preserved : goal.loop-i-preserved
loop-i-preserved g c =
    let had = c.loop-i.invariant in
    let p = c.args.report.now.params in
    let end = c.args.end in
    let frames = c.args.frames.now.frames in
    let at = c.args.frames.now.at in
    let i = c.loop-i.i in
    let time = c.saturating_sub.result in
    let below = c.loop-i-test.true in
    let size = c.size-size.result in
    let left = left-is time c.loop-i.next end i size p.f c.begun.result at
    c.whole.result (length frames) c.saturating_sub.ensures had.next c.begun.ensures.begun
    c.whole.ensures.count
    (c.size-size.ensures.value ∙ ap (λ (q : Params). q.f) c.requires.frames) in
    record {
      within = omega arith;
      next = (let e : (i + 1) * size ≡ i * size + size = omega arith in
          let next = had.next in omega arith);
      same = c.in_ok-frame.ensures.same ∙ had.same;
      handed = handed-same {whole = true} _ _
          (sym (leaving-shown true [] p end frames at i time (get_or frames i no_frame) left refl))
          (handed-then _ _ _ true (leaving_rows p end frames at i) (row_of frames i time p ∷ [])
          had.handed
          (handed-same {whole = true} _ _
          (ap (λ (r : Printing). row_of frames i time r.params ∷ []) had.same)
          c.in_ok-frame.ensures.handed));
    }
