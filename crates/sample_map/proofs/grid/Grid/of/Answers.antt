use Rattle.std.proofs.Common.{◌≡◌, ◌∙◌, Bool, ◌+◌, ◌*◌, ◌/◌, true, false, sym, ap}
use Rattle.link_params.specs.declared.fields.Params.{Params}
use Rattle.sample_map.proofs.SizeLemmas.{AreGroups, groups_fit}
use Rattle.sample_map.proofs.grid.Grid.of.Goals as goal
use Rattle.sample_map.proofs.grid.Grid.of.Goals.{then-params, else-params}

pub invariant_of-result : goal.invariant_of-result
invariant_of-result c =
    let p : Params = c.args.shape.now in
    let same = c.params-params.ensures.same in
    let np = ap (λ (q : Params). q.np) same in
    let hd = ap {B = Bool} (λ (q : Params). q.hd) same in
    let fit = groups_fit c.args.shape.now c.params-params.ensures.legal in
    elim c.if-params.branch [
      | then-params w ↦
          let t : c.args.shape.now.hd ≡ true = sym hd ∙ w.if-params.true in
          let are : AreGroups (record { words = p.m * p.s; octets = p.l * p.f; width = p.np; used = p.n + p.cs }) 1 (p.m * p.s) (p.l * p.f) = rw t at fit in
          rw (w.result-is, c.lanes-lanes.ensures.value, c.frame_words-words.ensures.value, c.frame_octets-octets.ensures.value, np, c.word_bits-used.ensures.value) (record {
            words_some = are.words_some;
            words_few = are.words_few;
            octets_some = are.octets_some;
            octets_few = are.octets_few;
            width_few = are.width_few;
            used_some = are.used_some;
            used_fit = are.used_fit;
            words_fit = are.words_fit;
            whole = rw (c.lanes-lanes.ensures.value, c.frame_words-words.ensures.value, c.frame_octets-octets.ensures.value, np) at w.whole_octets.ensures;
          })
      | else-params w ↦
          let f : c.args.shape.now.hd ≡ false = sym hd ∙ w.if-params.false in
          let are : AreGroups (record { words = p.m * p.s / p.l; octets = p.f; width = p.np; used = p.n + p.cs }) p.l (p.m * p.s) (p.l * p.f) = rw f at fit in
          rw (w.result-is, c.lanes-lanes.ensures.value, c.frame_words-words.ensures.value, c.frame_octets-octets.ensures.value, np, c.word_bits-used.ensures.value) (record {
            words_some = are.words_some;
            words_few = are.words_few;
            octets_some = are.octets_some;
            octets_few = are.octets_few;
            width_few = are.width_few;
            used_some = are.used_some;
            used_fit = are.used_fit;
            words_fit = are.words_fit;
            whole = rw (c.lanes-lanes.ensures.value, c.frame_words-words.ensures.value, c.frame_octets-octets.ensures.value, np) at w.whole_octets-else-params.ensures;
          })
    ]
