use Rattle.std.proofs.Common.{◌≡◌, ◌<◌, ◌≤◌, ◌+◌, ◌*◌, ◌/◌, ◌^◌, ℕ, None, All, fold, length, not, replicate, sym, subst, ap, ap₂, ◌∙◌, arith}
use Rattle.std.proofs.lemmas.List.{length-replicate}
use Rattle.link_params.specs.declared.fields.Params.{Params}
use Rattle.link_params.specs.Laws.{broken_law}
use Rattle.link_params.specs.Numbers.{octets_per_tick}
use Rattle.scenario.proofs.SourceLemmas.{plan-kept}
use Rattle.link_run.specs.kept.Seen.{Fed}
use Rattle.link_run.proofs.FeedLemmas.{left_in, left_length, same_params, some_plan, still-sizes}
use Rattle.link_run.proofs.WholeFrames.{HasFrames, are-frames, count-is, counted, few-frames, one-lane, one-tick, several-lanes, small-set, some-frames, some-octets, some-words, tick-frames, whole-hands, words-below}
use Rattle.link_run.proofs.FrameOctets.{behind}
use Rattle.link_run.proofs.feed.Feed.hand_frames.Goals as goal

pub source_frames-requires : goal.source_frames-requires
source_frames-requires c =
    let i = c.self.inside in
    let p = c.args.s.now.shape in
    let inv = c.self.invariant in
    let plan = some_plan c.args.s.now (c.is_none.ensures ∙ ap not c.if-is_none.false) in
    let some = some-frames _ _ c.self.view_is c.requires.some in
    let begun : i.begun ≡ c.args.self.now.begun = ap (λ (f : Fed). f.begun) c.self.view_is in
    let long : length c.deref_mut.result.now ≡ i.frames * (p.m * p.s) =
    ap length c.deref_mut.ensures.value ∙ inv.words_are.of_all some
    ∙ ap (λ (q : Params). i.frames * (q.m * q.s))
    (ap (λ (f : Fed). f.params) c.self.view_is ∙ sym c.requires.shape) in
    let each = some-words p c.params-params.ensures.legal in
    let few = few-frames i.frames i.size i.per_tick inv.some (inv.whole some) in
    let most = inv.few in
    let count = count-is (length c.deref_mut.result.now) i.frames (p.m * p.s) each long in
    let from = c.from.ensures in
    let room = c.requires.count in (
      counted (length c.deref_mut.result.now) i.frames (p.m * p.s) each long,
      ((plan-kept c.args.s.now plan.0 plan.1).words, omega arith),
    )

pub map_frames-requires : goal.map_frames-requires
map_frames-requires c =
    let i = c.self.inside in
    let p = i.layout in
    let q = c.args.s.now.shape in
    let inv = c.self.invariant in
    let plan = some_plan c.args.s.now (c.is_none.ensures ∙ ap not c.if-is_none.false) in
    let some = some-frames _ _ c.self.view_is c.requires.some in
    let shape : q ≡ p = c.requires.shape ∙ sym (ap (λ (f : Fed). f.params) c.self.view_is) in
    let legal : broken_law p ≡ None = ap broken_law (sym shape) ∙ c.params-params.ensures.legal in
    let left = left_in i.words.len c.source_frames.new.words i.words.items
    (sym (c.source_frames.auto.words ∙ c.deref_mut.ensures.len)) in
    let before : length c.deref_mut.result.now ≡ i.frames * (p.m * p.s) =
    ap length c.deref_mut.ensures.value ∙ inv.words_are.of_all some in
    let long : length c.deref.result.now ≡ i.frames * (p.m * p.s) =
    ap length (c.deref.ensures.value ∙ left) ∙ c.source_frames.auto.words ∙ before in
    let count = count-is (length c.deref_mut.result.now) i.frames (q.m * q.s)
    (some-words q c.params-params.ensures.legal)
    (before ∙ ap (λ (r : Params). i.frames * (r.m * r.s)) (sym shape)) in
    let frames = are-frames c.args.s.now p i.frames i.begun _ c.from.result c.deref.result.now
    c.source_frames.new.words shape count c.from.ensures (c.deref.ensures.value ∙ left)
    c.source_frames.ensures.plan in
    let each = some-words p legal in
    let now = count-is (length c.deref.result.now) i.frames (p.m * p.s) each long in (
      counted (length c.deref.result.now) i.frames (p.m * p.s) each long,
      (
        words-below c.args.s.now plan.0 p i.frames i.begun c.deref.result.now plan.1 shape each long
            frames,
        ap length c.deref_mut-2.ensures.value ∙ inv.octets_are.of_all some
            ∙ sym (ap (λ (k : ℕ). k * (p.l * p.f)) now),
      ),
    )

pub overflow_add-self : goal.overflow_add-self
overflow_add-self c =
    let i = c.self.inside in
    let inv = c.self.invariant in
    let some = some-frames _ _ c.self.view_is c.requires.some in
    let begun : i.begun ≡ c.args.self.now.begun = ap (λ (f : Fed). f.begun) c.self.view_is in
    let few = few-frames i.frames i.size i.per_tick inv.some (inv.whole some) in
    let most = inv.few in
    let room = c.requires.count in
    omega arith

pub number_of-requires : goal.number_of-requires
number_of-requires c =
    let i = c.self.inside in
    let inv = c.self.invariant in
    let some = some-frames _ _ c.self.view_is c.requires.some in
    let left = left_length i.octets.len c.map_frames.new.octets i.octets.items
    (sym (c.map_frames.auto.octets ∙ c.deref_mut-2.ensures.len))
    (sym c.deref_mut-2.ensures.len ∙ ap length c.deref_mut-2.ensures.value) in
    let long : length c.deref-in-len1.result.now ≡ i.frames * (i.layout.l * i.layout.f) =
    ap length c.deref-in-len1.ensures.value ∙ left ∙ inv.octets_are.of_all some in
    let least = c.in-len1.len_at_least in
    let most = c.in-len1.len_below in
    let lanes : length c.args.handed.now ≡ c.args.self.now.params.l = ap length c.requires.none
    ∙ length-replicate c.args.self.now.params.l 0 in
    let same = ap (λ (f : Fed). f.params.l) c.self.view_is in
    let one : i.layout.l ≡ 1 = omega arith in
    let tick = one-tick i.layout.l i.layout.f i.frames i.per_tick one
    (ap (λ (k : ℕ). i.frames * k) (sym inv.size_is) ∙ inv.whole some) in
    let few = inv.few in
    record { few = omega arith }

pub invariant_of-self : goal.invariant_of-self
invariant_of-self c =
    still-sizes c.self.inside.layout c.self.inside.size c.self.inside.per_tick
    c.self.inside.frames c.self.inside.words.items c.self.inside.octets.items _ _
    c.self.invariant
    (left_length c.self.inside.words.len c.source_frames.new.words c.self.inside.words.items
    (sym (c.source_frames.auto.words ∙ c.deref_mut.ensures.len))
    (sym c.deref_mut.ensures.len ∙ ap length c.deref_mut.ensures.value))
    (left_length c.self.inside.octets.len c.map_frames.new.octets c.self.inside.octets.items
    (sym (c.map_frames.auto.octets ∙ c.deref_mut-2.ensures.len))
    (sym c.deref_mut-2.ensures.len ∙ ap length c.deref_mut-2.ensures.value))

pub add_frames-requires : goal.add_frames-requires
add_frames-requires c =
    let i = c.self.inside in
    let p = i.layout in
    let inv = c.self.invariant in
    let some = some-frames _ _ c.self.view_is c.requires.some in
    let shape : c.args.s.now.shape ≡ p = c.requires.shape
    ∙ sym (ap (λ (f : Fed). f.params) c.self.view_is) in
    let legal : broken_law p ≡ None = ap broken_law (sym shape) ∙ c.params-params.ensures.legal in
    let left = left_length i.octets.len c.map_frames.new.octets i.octets.items
    (sym (c.map_frames.auto.octets ∙ c.deref_mut-2.ensures.len))
    (sym c.deref_mut-2.ensures.len ∙ ap length c.deref_mut-2.ensures.value) in
    let lanes : length c.args.handed.now ≡ c.args.self.now.params.l = ap length c.requires.none
    ∙ length-replicate c.args.self.now.params.l 0 in
    let l : length c.args.handed.now ≡ p.l = lanes
    ∙ sym (ap (λ (f : Fed). f.params.l) c.self.view_is) in
    let all : length c.args.handed.now * i.size ≡ p.l * p.f = ap₂ (λ (a b : ℕ). a * b) l inv.size_is
    in
    let long : length c.deref-in_default.result.now
    ≡ i.frames * (length c.args.handed.now * i.size) =
    ap length c.deref-in_default.ensures.value ∙ left ∙ inv.octets_are.of_all some
    ∙ ap (λ (k : ℕ). i.frames * k) (sym all) in
    let each : 0 < length c.args.handed.now * i.size =
    subst (λ (k : ℕ). 0 < k) (sym all) (some-octets p legal) in
    let count = count-is (length c.deref-in_default.result.now) i.frames
    (length c.args.handed.now * i.size) each long in
    let few = inv.few in
    let tick : length c.deref-in_default.result.now / (length c.args.handed.now * i.size) * i.size
    ≡ i.per_tick = ap (λ (k : ℕ). k * i.size) count ∙ inv.whole some in (
      subst (λ (k : ℕ). 0 < k) (sym count) some,
      (
        each,
        (
          counted (length c.deref-in_default.result.now) i.frames (length c.args.handed.now * i.size) each
              long,
          (
            subst (λ (k : ℕ). k ≤ 8) (sym tick) few,
            c.requires.none ∙ ap (λ (k : ℕ). replicate k 0) (sym lanes),
          ),
        ),
      ),
    )

pub invariant_of-self-in_default : goal.invariant_of-self-in_default
invariant_of-self-in_default c =
    still-sizes c.self.inside.layout c.self.inside.size c.self.inside.per_tick
    c.self.inside.frames c.self.inside.words.items c.self.inside.octets.items _ _
    c.self.invariant
    (left_length c.self.inside.words.len c.source_frames.new.words c.self.inside.words.items
    (sym (c.source_frames.auto.words ∙ c.deref_mut.ensures.len))
    (sym c.deref_mut.ensures.len ∙ ap length c.deref_mut.ensures.value))
    (left_length c.self.inside.octets.len c.map_frames.new.octets c.self.inside.octets.items
    (sym (c.map_frames.auto.octets ∙ c.deref_mut-2.ensures.len))
    (sym c.deref_mut-2.ensures.len ∙ ap length c.deref_mut-2.ensures.value))

pub returns-in-len1-clause-handed : goal.returns-in-len1-clause-handed
returns-in-len1-clause-handed c =
    let i = c.self.inside in
    let p = i.layout in
    let f = c.args.self.now in
    let inv = c.self.invariant in
    let some = some-frames _ _ c.self.view_is c.requires.some in
    let shape : c.args.s.now.shape ≡ p = c.requires.shape
    ∙ sym (ap (λ (f : Fed). f.params) c.self.view_is) in
    let left = left_in i.words.len c.source_frames.new.words i.words.items
    (sym (c.source_frames.auto.words ∙ c.deref_mut.ensures.len)) in
    let frames = subst (λ (f : Fed). HasFrames c.args.s.now f c.map_frames.new.octets)
    c.self.view_is
    (tick-frames c.args.s.now p i.frames i.begun c.from.result c.deref_mut.result.now
    c.deref.result.now c.source_frames.new.words c.map_frames.new.octets
    c.layout_laws.ensures.one_frame c.params-params.ensures.legal shape
    (ap length c.deref_mut.ensures.value ∙ inv.words_are.of_all some) c.source_frames.auto.words
    c.from.ensures (c.deref.ensures.value ∙ left) c.source_frames.ensures.plan c.map_frames.ensures)
    in
    let long : length c.map_frames.new.octets ≡ f.frames * (f.params.l * f.params.f) =
    c.map_frames.auto.octets ∙ ap length c.deref_mut-2.ensures.value ∙ inv.octets_are.of_all some
    ∙ ap (λ (f : Fed). f.frames * (f.params.l * f.params.f)) c.self.view_is in
    let size : i.size ≡ f.params.f = inv.size_is ∙ ap (λ (f : Fed). f.params.f) c.self.view_is in
    let whole : f.frames * f.params.f ≡ octets_per_tick f.params =
    ap₂ (λ (a b : ℕ). a * b) (sym (ap (λ (f : Fed). f.frames) c.self.view_is)) (sym size)
    ∙ inv.whole some ∙ inv.per_tick_is
    ∙ ap (λ (f : Fed). octets_per_tick f.params) c.self.view_is in
    let least = inv.some in
    let each : 1 ≤ f.params.f = omega arith in
    let lanes : length c.args.handed.now ≡ f.params.l = ap length c.requires.none
    ∙ length-replicate f.params.l 0 in
    let read : c.deref-in-len1.result.now ≡ c.map_frames.new.octets = c.deref-in-len1.ensures.value
    ∙ left_in i.octets.len c.map_frames.new.octets i.octets.items
    (sym (c.map_frames.auto.octets ∙ c.deref_mut-2.ensures.len)) in
    let at_least = c.in-len1.len_at_least in
    let below = c.in-len1.len_below in
    let one : f.params.l ≡ 1 = omega arith in
    let handed = one-lane c.map_frames.new.octets f.params.l f.params.f f.frames c.number_of.result
    c.args.handed.now c.requires.none one long
    (c.number_of.ensures.value ∙ ap (fold behind 0) read) in
    λ place. whole-hands c.args.s.now f _ place c.map_frames.new.octets _
    (λ plan is. same_params c.args.s.now plan is ∙ c.requires.shape) each c.requires.some whole
    (ap (λ (f : Fed). f.params) c.self.view_is) (ap (λ (f : Fed). f.frames) c.self.view_is)
    (ap (λ (f : Fed). f.begun + f.frames) c.self.view_is) frames handed

pub returns-in-len1-clause-small : goal.returns-in-len1-clause-small
returns-in-len1-clause-small c =
    let i = c.self.inside in
    let inv = c.self.invariant in
    let some = some-frames _ _ c.self.view_is c.requires.some in
    let left = left_length i.octets.len c.map_frames.new.octets i.octets.items
    (sym (c.map_frames.auto.octets ∙ c.deref_mut-2.ensures.len))
    (sym c.deref_mut-2.ensures.len ∙ ap length c.deref_mut-2.ensures.value) in
    let long : length c.deref-in-len1.result.now ≡ i.frames * (i.layout.l * i.layout.f) =
    ap length c.deref-in-len1.ensures.value ∙ left ∙ inv.octets_are.of_all some in
    let least = c.in-len1.len_at_least in
    let below = c.in-len1.len_below in
    let lanes : length c.args.handed.now ≡ c.args.self.now.params.l = ap length c.requires.none
    ∙ length-replicate c.args.self.now.params.l 0 in
    let same = ap (λ (f : Fed). f.params.l) c.self.view_is in
    let one : i.layout.l ≡ 1 = omega arith in
    let tick = one-tick i.layout.l i.layout.f i.frames i.per_tick one
    (ap (λ (k : ℕ). i.frames * k) (sym inv.size_is) ∙ inv.whole some) in
    let only : length c.args.handed.now ≡ 1 = omega arith in
    small-set c.args.handed.now c.number_of.result _ only
    (subst (λ (k : ℕ). c.number_of.result < 256 ^ k)
    (long ∙ tick ∙ inv.per_tick_is ∙ ap (λ (f : Fed). octets_per_tick f.params) c.self.view_is)
    c.number_of.ensures.small)

pub returns-in_default-clause-handed : goal.returns-in_default-clause-handed
returns-in_default-clause-handed c =
    let i = c.self.inside in
    let p = i.layout in
    let f = c.args.self.now in
    let inv = c.self.invariant in
    let some = some-frames _ _ c.self.view_is c.requires.some in
    let shape : c.args.s.now.shape ≡ p = c.requires.shape
    ∙ sym (ap (λ (f : Fed). f.params) c.self.view_is) in
    let left = left_in i.words.len c.source_frames.new.words i.words.items
    (sym (c.source_frames.auto.words ∙ c.deref_mut.ensures.len)) in
    let frames = subst (λ (f : Fed). HasFrames c.args.s.now f c.map_frames.new.octets)
    c.self.view_is
    (tick-frames c.args.s.now p i.frames i.begun c.from.result c.deref_mut.result.now
    c.deref.result.now c.source_frames.new.words c.map_frames.new.octets
    c.layout_laws.ensures.one_frame c.params-params.ensures.legal shape
    (ap length c.deref_mut.ensures.value ∙ inv.words_are.of_all some) c.source_frames.auto.words
    c.from.ensures (c.deref.ensures.value ∙ left) c.source_frames.ensures.plan c.map_frames.ensures)
    in
    let long : length c.map_frames.new.octets ≡ f.frames * (f.params.l * f.params.f) =
    c.map_frames.auto.octets ∙ ap length c.deref_mut-2.ensures.value ∙ inv.octets_are.of_all some
    ∙ ap (λ (f : Fed). f.frames * (f.params.l * f.params.f)) c.self.view_is in
    let size : i.size ≡ f.params.f = inv.size_is ∙ ap (λ (f : Fed). f.params.f) c.self.view_is in
    let whole : f.frames * f.params.f ≡ octets_per_tick f.params =
    ap₂ (λ (a b : ℕ). a * b) (sym (ap (λ (f : Fed). f.frames) c.self.view_is)) (sym size)
    ∙ inv.whole some ∙ inv.per_tick_is
    ∙ ap (λ (f : Fed). octets_per_tick f.params) c.self.view_is in
    let least = inv.some in
    let each : 1 ≤ f.params.f = omega arith in
    let lanes : length c.args.handed.now ≡ f.params.l = ap length c.requires.none
    ∙ length-replicate f.params.l 0 in
    let read : c.deref-in_default.result.now ≡ c.map_frames.new.octets =
    c.deref-in_default.ensures.value
    ∙ left_in i.octets.len c.map_frames.new.octets i.octets.items
    (sym (c.map_frames.auto.octets ∙ c.deref_mut-2.ensures.len)) in
    let all : length c.args.handed.now * i.size ≡ f.params.l * f.params.f =
    ap₂ (λ (a b : ℕ). a * b) lanes size in
    let some_octets : 0 < f.params.l * f.params.f = some-octets f.params
    (ap broken_law (sym c.requires.shape) ∙ c.params-params.ensures.legal) in
    let count = count-is (length c.deref-in_default.result.now) f.frames
    (length c.args.handed.now * i.size) (subst (λ (k : ℕ). 0 < k) (sym all) some_octets)
    (ap length read ∙ long ∙ ap (λ (k : ℕ). f.frames * k) (sym all)) in
    let handed = several-lanes c.map_frames.new.octets c.deref-in_default.result.now
    c.args.handed.now c.add_frames.new.handed f.params.l f.params.f f.frames i.size
    (length c.args.handed.now * i.size) _ read size all count c.requires.none
    c.add_frames.ensures.handed in
    λ place. whole-hands c.args.s.now f _ place c.map_frames.new.octets _
    (λ plan is. same_params c.args.s.now plan is ∙ c.requires.shape) each c.requires.some whole
    (ap (λ (f : Fed). f.params) c.self.view_is) (ap (λ (f : Fed). f.frames) c.self.view_is)
    (ap (λ (f : Fed). f.begun + f.frames) c.self.view_is) frames handed

pub returns-in_default-clause-small : goal.returns-in_default-clause-small
returns-in_default-clause-small c =
    let i = c.self.inside in
    let inv = c.self.invariant in
    let some = some-frames _ _ c.self.view_is c.requires.some in
    let f = c.args.self.now in
    let p = f.params in
    let read = c.deref-in_default.ensures.value
    ∙ left_in i.octets.len c.map_frames.new.octets i.octets.items
    (sym (c.map_frames.auto.octets ∙ c.deref_mut-2.ensures.len)) in
    let long : length c.deref-in_default.result.now ≡ f.frames * (p.l * p.f) =
    ap length read ∙ c.map_frames.auto.octets ∙ ap length c.deref_mut-2.ensures.value
    ∙ inv.octets_are.of_all some
    ∙ ap (λ (f : Fed). f.frames * (f.params.l * f.params.f)) c.self.view_is in
    let lanes : length c.args.handed.now ≡ p.l = ap length c.requires.none
    ∙ length-replicate p.l 0 in
    let size : i.size ≡ p.f = inv.size_is ∙ ap (λ (f : Fed). f.params.f) c.self.view_is in
    let all : length c.args.handed.now * i.size ≡ p.l * p.f = ap₂ (λ (a b : ℕ). a * b) lanes size in
    let some_octets : 0 < p.l * p.f = some-octets p
    (ap broken_law (sym c.requires.shape) ∙ c.params-params.ensures.legal) in
    let count = count-is (length c.deref-in_default.result.now) f.frames
    (length c.args.handed.now * i.size) (subst (λ (k : ℕ). 0 < k) (sym all) some_octets)
    (long ∙ ap (λ (k : ℕ). f.frames * k) (sym all)) in
    subst (λ (k : ℕ). All (λ v. v < 256 ^ k) c.add_frames.new.handed)
    (ap (λ (k : ℕ). k * i.size) (count ∙ sym (ap (λ (f : Fed). f.frames) c.self.view_is))
    ∙ inv.whole some ∙ inv.per_tick_is ∙ ap (λ (f : Fed). octets_per_tick f.params) c.self.view_is)
    c.add_frames.ensures.small
