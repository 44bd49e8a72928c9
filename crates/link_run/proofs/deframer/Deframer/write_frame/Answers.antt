use Rattle.std.proofs.Common.{◌≡◌, ◌≤◌, ◌+◌, ◌-◌, ◌*◌, ◌∙◌, ℕ, List, take, drop, refl, length, get_or, ap, sym, subst, arith}
use Rattle.std.proofs.Math.Nat.{mul-le-mul_right}
use borrow.Rule.Slice.PartMut.{same_len_mid}
use Rattle.link_run.specs.kept.Gathered.{Gathering, Whole, no_frame}
use Rattle.link_run.proofs.Gathering.{copied-frame, frame-shown, in-frames}
use Rattle.link_run.proofs.RowOctets.{IsCopied, copied-more, part-within, row-within}
use Rattle.link_run.proofs.deframer.Deframer.write_frame.Goals as goal

pub overflow_mul-from-in-loop-lane : goal.overflow_mul-from-in-loop-lane
overflow_mul-from-in-loop-lane c =
    let d = c.self.inside in
    let lanes = c.lanes-lane-end.ensures.value in
    let below = c.loop-lane-test.true in
    let part = part-within c.loop-lane.lane d.shape.l d.room c.args.i d.whole d.size d.at _
    (omega arith) (in-frames _ d.whole c.args.i _ (ap (λ (v : Gathering). v.frames) c.self.view_is)
    c.requires.inside) c.self.invariant.fits c.self.invariant.count in
    let first = part.0 in
    let room = c.self.invariant.room_is in
    let size = c.self.invariant.most in
    omega arith

pub overflow_add-from : goal.overflow_add-from
overflow_add-from c =
    let d = c.self.inside in
    let lanes = c.lanes-lane-end.ensures.value in
    let below = c.loop-lane-test.true in
    let part = part-within c.loop-lane.lane d.shape.l d.room c.args.i d.whole d.size d.at _
    (omega arith) (in-frames _ d.whole c.args.i _ (ap (λ (v : Gathering). v.frames) c.self.view_is)
    c.requires.inside) c.self.invariant.fits c.self.invariant.count in
    let first = part.0 in
    let room = c.self.invariant.room_is in
    let size = c.self.invariant.most in
    let bound = c.lanes-lane-end.ensures.bound in
    let few = c.self.invariant.few in
    let rows : c.loop-lane.lane * d.room ≤ 32 * d.room =
    mul-le-mul_right d.room (let q : c.loop-lane.lane ≤ 32 = omega arith in q) in
    omega arith

pub overflow_add-from-in-loop-lane : goal.overflow_add-from-in-loop-lane
overflow_add-from-in-loop-lane c =
    let d = c.self.inside in
    let lanes = c.lanes-lane-end.ensures.value in
    let below = c.loop-lane-test.true in
    let part = part-within c.loop-lane.lane d.shape.l d.room c.args.i d.whole d.size d.at _
    (omega arith) (in-frames _ d.whole c.args.i _ (ap (λ (v : Gathering). v.frames) c.self.view_is)
    c.requires.inside) c.self.invariant.fits c.self.invariant.count in
    let all = part.1 in
    let same = ap length c.deref.ensures.value in
    let fits = c.deref.type_inv.0 in
    omega arith

pub slice_bounds-copy_from_slice-end-in-loop-lane :
    goal.slice_bounds-copy_from_slice-end-in-loop-lane
slice_bounds-copy_from_slice-end-in-loop-lane c =
    let d = c.self.inside in
    let lanes = c.lanes-lane-end.ensures.value in
    let below = c.loop-lane-test.true in
    let part = part-within c.loop-lane.lane d.shape.l d.room c.args.i d.whole d.size d.at _
    (omega arith) (in-frames _ d.whole c.args.i _ (ap (λ (v : Gathering). v.frames) c.self.view_is)
    c.requires.inside) c.self.invariant.fits c.self.invariant.count in
    let all = part.1 in
    let same = ap length c.deref.ensures.value in
    let fits = c.deref.type_inv.0 in
    omega arith

pub loop-lane-preserved : goal.loop-lane-preserved
loop-lane-preserved c =
    let d = c.self.inside in
    let lane = c.loop-lane.lane in
    let lanes = c.lanes-lane-end.ensures.value in
    let below = c.loop-lane-test.true in
    let part = part-within lane d.shape.l d.room c.args.i d.whole d.size d.at _
    (omega arith) (in-frames _ d.whole c.args.i _ (ap (λ (v : Gathering). v.frames) c.self.view_is)
    c.requires.inside) c.self.invariant.fits c.self.invariant.count in
    let all = part.1 in
    let old = c.loop-lane.octets in
    let from : ℕ = lane * d.room + c.args.i * d.size in
    let k : ℕ = (lane + 1) * d.size - lane * d.size in
    let size : k ≡ d.size = omega arith in
    let count = c.loop-lane.invariant.0 in
    let params = ap (λ (v : Gathering). v.params) c.self.view_is in
    let long : length c.args.octets.now ≡ d.shape.l * d.size =
    c.requires.size ∙ ap (λ p. p.l * p.f) (sym params)
    ∙ ap (λ (f : ℕ). d.shape.l * f) (sym c.self.invariant.size_is) in
    let inside = row-within lane d.shape.l d.size d.size (omega arith) (omega arith) in
    let copy : c.copy_from_slice.new.self ≡ take (from + d.size - from) (drop from d.rows.items) =
    c.copy_from_slice.ensures.after
    ∙ ap (λ (l : List ℕ). take (from + d.size - from) (drop from l)) c.deref.ensures.value in (
      same_len_mid (lane * d.size) k old c.copy_from_slice.new.self c.copy_from_slice.ensures.len
          ∙ count,
      copied-more d.rows.items old _ c.copy_from_slice.new.self d.room d.size c.args.i lane k from
          (from + d.size - from) (omega arith) all refl size (omega arith) copy refl
          c.loop-lane.invariant.1,
    )

pub returns : goal.returns
returns c =
    let d = c.self.inside in
    let i = c.args.i in
    let shown = frame-shown d.rows.items d.shape d.room d.first d.others d.whole i
    (in-frames _ d.whole i _ (ap (λ (v : Gathering). v.frames) c.self.view_is) c.requires.inside) in
    let params = ap (λ (v : Gathering). v.params) c.self.view_is in
    let past = c.loop-lane-test.false in
    let end = c.loop-lane.auto.lane-end in
    let lanes = c.lanes-lane-end.ensures.value in
    let all : c.loop-lane.lane ≡ d.shape.l = omega arith in
    let had : IsCopied d.rows.items c.loop-lane.octets d.room d.size i d.shape.l =
    subst (IsCopied d.rows.items c.loop-lane.octets d.room d.size i) all
    c.loop-lane.invariant.1 in
    copied-frame d.rows.items c.loop-lane.octets d.shape d.room d.size i c.self.invariant.size_is
    (c.loop-lane.invariant.0 ∙ c.requires.size ∙ ap (λ p. p.l * p.f) (sym params)) had
    ∙ sym (ap (λ (w : Whole). w.octets) shown)
    ∙ ap (λ (v : Gathering). (get_or v.frames i no_frame).octets) c.self.view_is
