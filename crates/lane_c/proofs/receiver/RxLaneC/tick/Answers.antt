use Rattle.std.proofs.Common.{◌≡◌, ◌≢◌, ◌≤◌, ◌%◌, ◌-◌, ◌++◌, ◌∷◌, [], ◌+◌, arith, length, length-append, drop, refl, sym, ◌∙◌, ap, subst}
use Rattle.jesd_base.specs.Bits.{bits}
use Rattle.jesd_base.proofs.BitLemmas.{bits_length}
use Rattle.link_params.specs.declared.fields.Mode.TheVariants.{B}
use Rattle.link_params.specs.declared.fields.Params.{Params}
use Rattle.link_params.specs.Lanes.{Taken}
use Rattle.lane_c.specs.Received.{entries_c}
use Rattle.lane_c.specs.kept.Receivers.{Holds, HoldsFirst, Hunts, Receiver}
use Rattle.std.proofs.lemmas.Bool.{true≢false}
use Rattle.lane_c.proofs.Reporting.{inside-unplaced}
use Rattle.lane_c.proofs.Searching.{holds-one-more, holds-same, hunts-none, hunts-on-more}
use Rattle.lane_c.proofs.Ticking.{hunts-next, next-anew, next-first, next-tick}
use Rattle.lane_c.proofs.receiver.RxLaneC.tick.Goals as goal

pub returns-in_default-clause-goes_on : goal.returns-in_default-clause-goes_on
returns-in_default-clause-goes_on c = λ p t lane taken gave h armed.
    let x : Taken = record { order = c.args.order.now; word = bits 66 c.args.bits } in
    let size : length x.word ≡ 66 = bits_length 66 c.args.bits in
    let old = rw (← c.self.view_is) at h in
    let hunt = rw c.in-Hunting.is at old.stands in
    let later = hunts-on-more c.in-Hunting.hunt c.push.new.self p.e taken x hunt
    (λ bs hunted. c.push.ensures.hunts_on p.e bs hunted c.in_default.is) in
    next-tick _ _ p t lane taken gave x old size refl refl later
    (holds-same _ _ _ gave (hunts-next p t lane taken x c.in-Hunting.hunt c.push.new.self
    old.words size hunt later) old.holds)

pub returns-in-Some-clause-goes_on : goal.returns-in-Some-clause-goes_on
returns-in-Some-clause-goes_on c = λ p t lane taken gave h armed.
    let x : Taken = record { order = c.args.order.now; word = bits 66 c.args.bits } in
    let size : length x.word ≡ 66 = bits_length 66 c.args.bits in
    let old = rw (← c.self.view_is) at h in
    let hunt = rw c.in-Hunting.is at old.stands in
    let params = old.params in
    let not_b : p.mode ≢ B = subst (λ (q : Params). q.mode ≢ B) params c.self.invariant.0 in
    let some : 1 ≤ p.e = subst (λ (q : Params). 1 ≤ q.e) params c.hold.ensures.some in
    let same = c.hold.ensures.same in
    let begun = subst (λ (q : Params). HoldsFirst c.hold.new.self.state q.e c.in-Some.place x.word)
    params c.hold.ensures.held in
    next-first _ c.hold.new.self p t lane taken gave x c.in-Hunting.hunt c.in-Some.place
    c.hold.new.self.state
    old size some not_b hunt (λ bs hunted. sym (c.push.ensures.answer p.e bs hunted)
    ∙ c.in-Some.is) begun
    (ap (λ r. r.params) same) (ap (λ r. r.timing) same) refl (ap (λ r. r.buffer) same)

pub returns-in-Stay-clause-goes_on : goal.returns-in-Stay-clause-goes_on
returns-in-Stay-clause-goes_on c = λ p t lane taken gave h armed.
    let x : Taken = record { order = c.args.order.now; word = bits 66 c.args.bits } in
    let size : length x.word ≡ 66 = bits_length 66 c.args.bits in
    let old = rw (← c.self.view_is) at h in
    let held = rw c.in-Held.is at old.stands in
    let does = rw c.in-Stay.is at c.take.ensures p t lane taken held old.words old.params old.timing
    armed in
    next-tick _ _ p t lane taken gave x old size refl refl does.0
    (holds-same _ _ _ gave (sym does.1) old.holds)

pub returns-in-Keep-clause-goes_on : goal.returns-in-Keep-clause-goes_on
returns-in-Keep-clause-goes_on c = λ p t lane taken gave h armed.
    let x : Taken = record { order = c.args.order.now; word = bits 66 c.args.bits } in
    let size : length x.word ≡ 66 = bits_length 66 c.args.bits in
    let old = rw (← c.self.view_is) at h in
    let held = rw c.in-Held.is at old.stands in
    let does = rw c.in-Keep.is at c.take.ensures p t lane taken held old.words old.params old.timing
    armed in
    let cells = ap (λ q. q.cells) c.push-in-Keep.ensures in
    let holds = holds-same _ _ _ gave (sym does.1) (holds-one-more _ c.in-Keep.cell _ gave
    old.holds) in
    next-tick _ _ p t lane taken gave x old size refl refl does.0
    (subst (λ qs. Holds (entries_c p t lane (taken ++ x ∷ [])) qs gave) (sym cells) holds)

pub returns-in-Drop-clause-goes_on : goal.returns-in-Drop-clause-goes_on
returns-in-Drop-clause-goes_on c = λ p t lane taken gave h armed.
    let x : Taken = record { order = c.args.order.now; word = bits 66 c.args.bits } in
    let size : length x.word ≡ 66 = bits_length 66 c.args.bits in
    let old = rw (← c.self.view_is) at h in
    let held = rw c.in-Held.is at old.stands in
    let does = rw c.in-Drop.is at c.take.ensures p t lane taken held old.words old.params old.timing
    armed in
    let same = c.hunt_on.ensures.same in
    let hunts = subst (λ (q : Params). Hunts c.hunt_on.new.self.state q.e
    (drop (66 - c.take.new.self.rest % 66) x.word)) old.params c.hunt_on.ensures.hunts in
    next-anew _ c.hunt_on.new.self p t lane taken gave x c.take.new.self c.hunt_on.new.self.state
    old size does.0 does.1 hunts
    (ap (λ r. r.params) same) (ap (λ r. r.timing) same) refl (ap (λ r. r.buffer) same)

pub returns-in_default-clause-grows : goal.returns-in_default-clause-grows
returns-in_default-clause-grows c = λ p t lane taken gave h armed inside.
    let old = rw (← c.self.view_is) at h in
    let hunt = rw c.in-Hunting.is at old.stands in
    let none = hunts-none c.in-Hunting.hunt p.e taken old.words hunt in
    absurd (true≢false (sym inside ∙ inside-unplaced p t lane taken none))

pub returns-in-Some-clause-grows : goal.returns-in-Some-clause-grows
returns-in-Some-clause-grows c = λ p t lane taken gave h armed inside.
    let old = rw (← c.self.view_is) at h in
    let hunt = rw c.in-Hunting.is at old.stands in
    let none = hunts-none c.in-Hunting.hunt p.e taken old.words hunt in
    absurd (true≢false (sym inside ∙ inside-unplaced p t lane taken none))

pub returns-in-Stay-clause-grows : goal.returns-in-Stay-clause-grows
returns-in-Stay-clause-grows c = λ p t lane taken gave h armed inside.
    let old = rw (← c.self.view_is) at h in
    let held = rw c.in-Held.is at old.stands in
    let does = rw c.in-Stay.is at c.take.ensures p t lane taken held old.words old.params old.timing
    armed in
    absurd (true≢false (sym inside ∙ does.2))

pub returns-in-Keep-clause-grows : goal.returns-in-Keep-clause-grows
returns-in-Keep-clause-grows c = λ p t lane taken gave h armed inside.
    let more = ap (λ q. length q.cells) c.push-in-Keep.ensures
    ∙ length-append c.self.inside.buffer.cells (c.in-Keep.cell ∷ []) in
    let same = ap (λ (r : Receiver). length r.buffer.cells) c.self.view_is in
    let old = rw (← c.self.view_is) at h in
    let held = rw c.in-Held.is at old.stands in
    let does = rw c.in-Keep.is at c.take.ensures p t lane taken held old.words old.params old.timing
    armed in
    (more ∙ ap (λ n. n + 1) same ∙ omega arith, does.2)

pub returns-in-Drop-clause-grows : goal.returns-in-Drop-clause-grows
returns-in-Drop-clause-grows c = λ p t lane taken gave h armed inside.
    let old = rw (← c.self.view_is) at h in
    let held = rw c.in-Held.is at old.stands in
    let does = rw c.in-Drop.is at c.take.ensures p t lane taken held old.words old.params old.timing
    armed in
    absurd (true≢false (sym inside ∙ does.2))
