use Rattle.std.proofs.Common.{refl, arith}
use Rattle.link_run.proofs.KeptFrames.{count-kept}
use Rattle.link_run.proofs.frame_list.FrameList.len.Goals as goal

pub overflow_cast-result : goal.overflow_cast-result
overflow_cast-result c =
    let few = c.self.invariant.1 in
    let room = c.self.invariant.3 in
    let is = c.self.inside.frames.ok.0 in
    omega (arith, c.len.ensures, few, room, is)

pub returns : goal.returns
returns c =
    let i = c.self.inside in
    let count = count-kept _ c.args.self.now i.frames.items i.words.items i.size c.self.view_is refl in
    omega (arith, count, c.len.ensures, i.frames.ok.0)
