use Rattle.std.proofs.Common.{◌∙◌, List, None, ap, ap₂}
use Rattle.link_params.specs.declared.fields.Params.{Params}
use Rattle.link_model.specs.Moments.{Delivered}
use Rattle.link_run.specs.declared.frame_list.Left.{Left}
use Rattle.link_run.specs.kept.FrameLists.{frames_kept}
use Rattle.link_run.proofs.KeptFrames.{kept-none}
use Rattle.link_run.proofs.frame_list.FrameList.open.Goals as goal

pub returns : goal.returns
returns c =
    let words = c.in-Ok-Ok.words.items in
    let size = c.frame_words.result in
    ap₂ (λ (p : Params) (l : List Delivered). record {
      params = p;
      room = c.args.frames;
      frames = l;
      totals = None;
    }) c.shape-shape.ensures.same
    (ap (λ (l : List Left). frames_kept l words size) c.in-Ok-Ok.ensures.items ∙ kept-none words size)
