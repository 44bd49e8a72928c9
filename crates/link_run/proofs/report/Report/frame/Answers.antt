use Rattle.std.proofs.Common.{◌≡◌, ℕ, ◌*◌, ◌∷◌, [], ◌∙◌, List, ap, ap₂, get_or, length, subst, sym}
use Rattle.std.proofs.lemmas.List.{with_items_is}
use Rattle.link_params.specs.declared.cells.Mark.{Mark}
use Rattle.link_params.specs.declared.fields.Params.{Params}
use Rattle.sample_map.specs.Frames.{words_of}
use Rattle.sample_map.specs.Layout.{AreWords}
use Rattle.scenario.specs.declared.report_row.Row.TheVariants as row
use Rattle.link_model.specs.Report.{Printed}
use Rattle.link_run.specs.Rows.{AreFrameWords}
use Rattle.link_run.specs.kept.Gathered.{Whole, no_frame}
use Rattle.link_run.specs.kept.Printing.{Printing}
use Rattle.link_run.proofs.HandedRows.{handed-row, handed-same, read-words}
use Rattle.link_run.proofs.report.Report.frame.Goals as goal

pub row-requires : goal.row-requires
row-requires g c = record {
  words = λ p is.
      let read = c.deref-2.ensures.value
      ∙ with_items_is c.self.inside.words c.unmap.new.words
      (c.unmap.auto.words ∙ c.deref_mut-2.ensures.len) in
      let same = ap (λ (v : Printing). v.params) c.self.view_is ∙ sym (c.requires.shape p is) in
      subst (AreFrameWords p) (sym read)
      (read-words p c.deref.result.now c.unmap.new.words
      (subst (λ (q : Params). AreWords q c.deref.result.now c.unmap.new.words) same
      c.unmap.ensures));
}

pub returns-clause-handed : goal.returns-clause-handed
returns-clause-handed g c =
    let whole : Whole = get_or c.args.frames.now.frames c.args.i no_frame in
    let same = ap (λ (v : Printing). v.params) c.self.view_is in
    let octets = c.deref.ensures.value
    ∙ with_items_is c.self.inside.octets c.write_frame.new.octets
    (c.write_frame.auto.octets ∙ c.deref_mut.ensures.len) in
    let long : length c.deref.result.now ≡ c.self.inside.layout.l * c.self.inside.layout.f =
    ap length octets ∙ c.write_frame.auto.octets ∙ ap length c.deref_mut.ensures.value
    ∙ c.self.invariant.1 in
    let words = c.deref-2.ensures.value
    ∙ with_items_is c.self.inside.words c.unmap.new.words
    (c.unmap.auto.words ∙ c.deref_mut-2.ensures.len)
    ∙ c.layout_laws.ensures.one_reading c.self.inside.layout c.deref.result.now c.unmap.new.words
    c.self.invariant.2 long c.unmap.ensures
    ∙ ap₂ words_of same (octets ∙ c.write_frame.ensures) in
    let more = c.row.ensures in
    handed-same _ _ (ap₂ (λ (m : Mark) (ws : List ℕ). let x : Printed =
    record { row = row.Frame c.args.time m; words = ws } in x ∷ []) c.mark.ensures words)
    (handed-row _ _ _ c.row.result more.took more.nothing more.failed more.count more.shape)
