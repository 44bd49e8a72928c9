use Rattle.std.proofs.Common.{◌≡◌, false, sym, ap, ◌∙◌, inl, inr}
use Rattle.link_params.specs.declared.fields.Params.{Params}
use Rattle.link_params.specs.Laws.{is_b}
use Rattle.lane_threads.proofs.KindEnds.{width-c}
use Rattle.lane_threads.proofs.rx_lane.RxLane.open.Goals as goal

pub returns-in_ok-open-in-CCrc : goal.returns-in_ok-open-in-CCrc
returns-in_ok-open-in-CCrc c =
    let same : c.params.result.mode ≡ c.args.link.now.params.mode =
    ap (λ (p : Params). p.mode) (c.params.ensures.same ∙ c.shape.ensures.same) in
    let blocks : is_b c.args.link.now.params.mode ≡ false =
    ap is_b (sym same) ∙ elim c.in-CCrc.is [ inl e ↦ ap is_b e | inr e ↦ ap is_b e ] in
    record {
      taken = (blocks, c.in_ok-open-in-CCrc.ensures.taken c.args.lane);
      depth = c.in_ok-open-in-CCrc.ensures.depth;
      width = sym (width-c c.args.link.now.params blocks);
    }
