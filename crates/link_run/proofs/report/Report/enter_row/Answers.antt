use Rattle.std.proofs.Common.{◌≡◌, ℕ, ◌*◌, ◌∷◌, [], ◌∙◌, List, ap, length, sym}
use Rattle.std.proofs.lemmas.List.{with_items_is}
use Rattle.link_params.specs.declared.fields.Params.{Params}
use Rattle.scenario.specs.declared.report_row.Row.TheVariants as row
use Rattle.link_model.specs.Report.{Printed}
use Rattle.link_run.specs.kept.Printing.{Printing}
use Rattle.link_run.proofs.FeedLemmas.{some_plan}
use Rattle.link_run.proofs.HandedRows.{handed-row, handed-same, source-words}
use Rattle.link_run.proofs.report.Report.enter_row.Goals as goal

pub row-requires : goal.row-requires
row-requires g c = record {
  words = λ p is.
      let (plan, there) = some_plan c.args.s.now c.requires.link in
      let written = c.deref.ensures.value
      ∙ with_items_is c.self.inside.words c.source_frame.new.words
      (c.source_frame.auto.words ∙ c.deref_mut.ensures.len) in
      let same = c.requires.shape p is in
      let long : length c.deref.result.now ≡ p.m * p.s = ap length written
      ∙ c.source_frame.auto.words ∙ ap length c.deref_mut.ensures.value
      ∙ c.self.invariant.0
      ∙ ap (λ (v : Printing). v.params.m * v.params.s) c.self.view_is
      ∙ ap (λ (q : Params). q.m * q.s) (sym same) in
      source-words c.args.s.now plan c.args.number p c.deref.result.now there
      (sym (same ∙ c.requires.same)) (written ∙ c.source_frame.ensures.plan plan there) long;
}

pub returns-clause-handed : goal.returns-clause-handed
returns-clause-handed g c = λ plan is.
    let words = c.deref.ensures.value
    ∙ with_items_is c.self.inside.words c.source_frame.new.words
    (c.source_frame.auto.words ∙ c.deref_mut.ensures.len)
    ∙ c.source_frame.ensures.plan plan is in
    let more = c.row.ensures in
    handed-same _ _ (ap (λ (ws : List ℕ). let x : Printed =
    record { row = row.Enter c.args.time; words = ws } in x ∷ []) words)
    (handed-row _ _ _ c.row.result more.took more.nothing more.failed more.count more.shape)
