use Rattle.std.proofs.Common.{◌∙◌, length, ap, arith}
use Rattle.link_run.specs.kept.Lines.{Gathered}
use Rattle.link_run.proofs.LineLengths.{legal-short, length-row}
use Rattle.link_run.proofs.text_rows.Lines.add.Goals as goal

pub unreachable-requires-in_default-extend_from_slice :
    goal.unreachable-requires-in_default-extend_from_slice
unreachable-requires-in_default-extend_from_slice c =
    let k = c.in-Some.link in
    let short = legal-short k c.shape-shape.ensures.legal c.timing-timing.ensures.legal in
    let line = length-row c.args.s.now.version k c.args.row.now c.args.words.now short c.row_fits.ensures in
    let is = ap length (c.bytes.ensures ∙ c.line.ensures.line k c.in-Some.is) in
    let full = rw c.in_default-extend_from_slice.is at c.extend_from_slice.ensures.full in
    let words = ap (λ (l : Gathered). l.words) c.self.view_is in
    let bytes = ap (λ (l : Gathered). length l.bytes) c.self.view_is in
    omega (
      arith,
      line,
      is,
      full,
      words,
      bytes,
      c.requires.few,
      c.requires.room,
      c.self.invariant.1,
      c.self.inside.gathered.ok.0,
    )
