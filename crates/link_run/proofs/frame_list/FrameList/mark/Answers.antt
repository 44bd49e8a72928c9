use Rattle.std.proofs.Common.{◌<◌, ◌∙◌, length, refl, ap, arith}
use Rattle.std.proofs.lemmas.List.{get_or_read}
use Rattle.link_model.specs.Moments.{Delivered}
use Rattle.link_run.specs.declared.frame_list.Left.{Left}
use Rattle.link_run.specs.kept.FrameLists.{no_left}
use Rattle.link_run.proofs.KeptFrames.{count-kept, frame-kept}
use Rattle.link_run.proofs.frame_list.FrameList.mark.Goals as goal

pub index-requires : goal.index-requires
index-requires c =
    let i = c.self.inside in
    let count = count-kept _ c.args.self.now i.frames.items i.words.items i.size c.self.view_is refl in
    omega (arith, count, c.requires, i.frames.ok.0)

pub returns : goal.returns
returns c =
    let i = c.self.inside in
    let count = count-kept _ c.args.self.now i.frames.items i.words.items i.size c.self.view_is refl in
    let below : c.args.i < length i.frames.items = omega (arith, count, c.requires) in
    ap (λ (x : Left). x.mark)
    (get_or_read i.frames.items c.args.i c.index.result.now below c.index.ensures no_left)
    ∙ ap (λ (x : Delivered). x.mark)
    (frame-kept _ c.args.self.now i.frames.items i.words.items i.size c.args.i c.self.view_is refl below)
