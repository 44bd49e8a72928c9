use Rattle.std.proofs.Common.{◌≡◌, ◌+◌, ◌∙◌, length, ap, sym, refl, ◌*◌, option_map}
use Rattle.scenario.specs.declared.cause.Cause.TheVariants as cause
use Rattle.scenario.specs.Check.{fault}
use Rattle.scenario.specs.Reads.{texts_of, words_in_fields, frame_checks}
use Rattle.scenario.proofs.CheckLemmas.{fault_of-none, fault_of-basic, basic-ranges, added, frame-ranges}
use Rattle.scenario.proofs.frame.read_frame.Goals as goal

pub returns-in-None : goal.returns-in-None
returns-in-None c =
    let ts = texts_of c.args.row.now in
    let kept = c.in_ok-push_words.ensures in
    let part = added c.args.words.now.items (words_in_fields ts) c.deref.result.now _
    (c.deref.ensures.value ∙ kept.1) (ap length c.as_slice-before.ensures.value) in
    let none = c.in-None.ensures ∙ frame-ranges ts c.args.shape.now c.limit_of.result _ part
    c.limit_of.ensures in
    let n : length ts ≡ c.args.shape.now.m * c.args.shape.now.s + 1 = sym c.count-fields.ensures
    ∙ c.if-fields-frame_words.false ∙ ap (λ k. k + 1) c.frame_words.ensures.value in (
      fault_of-none (length ts) (frame_checks c.args.shape.now ts)
          (basic-ranges (length ts) (frame_checks c.args.shape.now ts) n kept.0
          ∙ ap (option_map (fault cause.Range)) (sym none)) refl,
      kept.1,
    )

pub returns-in-Some : goal.returns-in-Some
returns-in-Some c =
    let ts = texts_of c.args.row.now in
    let kept = c.in_ok-push_words.ensures in
    let part = added c.args.words.now.items (words_in_fields ts) c.deref.result.now _
    (c.deref.ensures.value ∙ kept.1) (ap length c.as_slice-before.ensures.value) in
    let some = c.in-Some.ensures ∙ frame-ranges ts c.args.shape.now c.limit_of.result _ part
    c.limit_of.ensures in
    let n : length ts ≡ c.args.shape.now.m * c.args.shape.now.s + 1 = sym c.count-fields.ensures
    ∙ c.if-fields-frame_words.false ∙ ap (λ k. k + 1) c.frame_words.ensures.value in
    rw c.at-in-Some.ensures (fault_of-basic (length ts) (frame_checks c.args.shape.now ts) _
    (basic-ranges (length ts) (frame_checks c.args.shape.now ts) n kept.0
    ∙ ap (option_map (fault cause.Range)) (sym some)))
