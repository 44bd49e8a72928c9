use Rattle.std.proofs.Common.{◌≡◌, ◌+◌, ◌*◌, ◌∙◌, length, ap, arith, length-append}
use Rattle.link_run.specs.Frames.{Kept}
use Rattle.link_run.proofs.KeptFrames.{kept-full, kept-one}
use Rattle.link_run.proofs.frame_list.FrameList.keep.Goals as goal

pub invariant_of-self : goal.invariant_of-self
invariant_of-self c =
    let was = c.self.invariant in
    let frames = c.self.inside.frames.items in
    let size = c.self.inside.size in
    let whole = ap (λ (v : Kept). v.params.m * v.params.s) c.self.view_is in
    let count : length c.args.words.now ≡ size = c.requires.count ∙ (omega (arith, whole, was.0)) in
    let one : length c.push_reserved.new.self.items ≡ length frames + 1 =
    ap length c.push_reserved.ensures.items ∙ length-append frames _ in
    let all : length c.extend_from_slice.new.self.items ≡ length c.self.inside.words.items
    + length c.args.words.now =
    ap length c.in-Ok.ensures.items ∙ length-append c.self.inside.words.items _ in
    let product = ap (λ n. n * size) one in (
      was.0,
      omega (arith, one, c.if-len-self.true, c.len.ensures, c.self.inside.frames.ok.0),
      omega (arith, was.2, c.push_reserved.ensures.capacity),
      was.3,
      omega (arith, all, count, product, was.4),
      omega (arith, was.5, c.in-Ok.ensures.capacity),
      was.6,
    )

pub returns-in-Ok : goal.returns-in-Ok
returns-in-Ok c =
    let i = c.self.inside in
    let was = c.self.invariant in
    let whole = ap (λ (v : Kept). v.params.m * v.params.s) c.self.view_is in
    let count : length c.args.words.now ≡ i.size = c.requires.count ∙ (omega (arith, whole, was.0)) in
    kept-one c.args.self.now i.shape i.room i.size i.frames.items c.push_reserved.new.self.items
    i.words.items c.extend_from_slice.new.self.items i.totals
    (record { time = c.args.time; mark = c.args.mark }) c.args.words.now c.self.view_is
    c.push_reserved.ensures.items c.in-Ok.ensures.items was.4 count
    (omega (arith, c.if-len-self.true, c.len.ensures, i.frames.ok.0))

pub returns-else-len-self : goal.returns-else-len-self
returns-else-len-self c =
    let i = c.self.inside in
    kept-full c.args.self.now i.shape i.room i.size i.frames.items i.words.items i.totals
    (record { left = c.args.time; mark = c.args.mark; words = c.args.words.now }) c.self.view_is
    (omega (arith, c.if-len-self.false, c.len.ensures, i.frames.ok.0)) c.self.invariant.1
