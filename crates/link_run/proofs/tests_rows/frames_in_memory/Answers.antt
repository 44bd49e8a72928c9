use Rattle.std.proofs.Common.{◌≡◌, ◌∙◌, ◌≤◌, ◌*◌, sym, ap, arith}
use Rattle.std.specs.Prelude.{unwrap_or}
use Rattle.link_params.specs.declared.fields.Params.{Params}
use Rattle.link_run.proofs.tests_rows.frames_in_memory.Goals as goal

pub open-requires : goal.open-requires
open-requires g c = record {
  few =
      let same = ap (λ (p : Params). p.m * p.s) c.shape.ensures.same in
      let value = c.frame_words-words.ensures.value in
      let bound = c.frame_words-words.ensures.bound in
      omega arith;
}

pub play-requires-clause-shape : goal.play-requires-clause-shape
play-requires-clause-shape g c κs p told =
    let is = ap (λ o. unwrap_or o p) told in
    let taken = ap (λ f. f.params) c.in-Ok.ensures in
    let shape = c.in_ok-scenario.scenario.same_shape c.in-Some.link c.in-Some.is in
    let same = ap (λ s. s.shape) c.in-Ok-open.ensures.same.0 in
    sym is ∙ taken ∙ shape ∙ sym same
