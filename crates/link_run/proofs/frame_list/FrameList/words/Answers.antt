use Rattle.std.proofs.Common.{◌≡◌, ◌<◌, ◌+◌, ◌-◌, ◌*◌, ◌∙◌, length, take, drop, ℕ, List, refl, ap, ap₂, arith}
use Rattle.link_model.specs.Moments.{Delivered}
use Rattle.link_run.proofs.KeptFrames.{count-kept, frame-kept, words-within}
use Rattle.link_run.proofs.frame_list.FrameList.words.Goals as goal

pub overflow_mul-first : goal.overflow_mul-first
overflow_mul-first c =
    let i = c.self.inside in
    let was = c.self.invariant in
    let count = count-kept _ c.args.self.now i.frames.items i.words.items i.size c.self.view_is refl in
    let within = words-within c.args.i i.room i.size (omega (arith, count, c.requires, was.1)) in
    omega (arith, within, was.6)

pub overflow_add-result : goal.overflow_add-result
overflow_add-result c =
    let i = c.self.inside in
    let was = c.self.invariant in
    let count = count-kept _ c.args.self.now i.frames.items i.words.items i.size c.self.view_is refl in
    let within = words-within c.args.i i.room i.size (omega (arith, count, c.requires, was.1)) in
    omega (arith, within, was.6)

pub offset_bounds-deref-first : goal.offset_bounds-deref-first
offset_bounds-deref-first c =
    let i = c.self.inside in
    let was = c.self.invariant in
    let count = count-kept _ c.args.self.now i.frames.items i.words.items i.size c.self.view_is refl in
    let within = words-within c.args.i i.room i.size (omega (arith, count, c.requires, was.1)) in
    omega (arith, within, was.6)

pub slice_bounds-result-end : goal.slice_bounds-result-end
slice_bounds-result-end c =
    let i = c.self.inside in
    let was = c.self.invariant in
    let count = count-kept _ c.args.self.now i.frames.items i.words.items i.size c.self.view_is refl in
    let below : c.args.i < length i.frames.items = omega (arith, count, c.requires) in
    let within = words-within c.args.i (length i.frames.items) i.size below in
    let long : length c.deref.result.now ≡ length i.words.items = ap length c.deref.ensures.value in
    omega (arith, within, was.4, long)

pub returns : goal.returns
returns c =
    let i = c.self.inside in
    let count = count-kept _ c.args.self.now i.frames.items i.words.items i.size c.self.view_is refl in
    let below : c.args.i < length i.frames.items = omega (arith, count, c.requires) in
    let size : c.args.i * i.size + i.size - c.args.i * i.size ≡ i.size = omega arith in
    ap₂ (λ (n : ℕ) (l : List ℕ). take n (drop (c.args.i * i.size) l)) size c.deref.ensures.value
    ∙ ap (λ (x : Delivered). x.words)
    (frame-kept _ c.args.self.now i.frames.items i.words.items i.size c.args.i c.self.view_is refl below)
