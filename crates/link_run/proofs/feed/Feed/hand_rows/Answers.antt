use Rattle.std.proofs.Common.{◌≡◌, ◌<◌, ◌+◌, ◌*◌, ◌%◌, ◌^◌, ℕ, List, All, refl, sym, subst, ap, ◌∙◌, arith}
use Rattle.link_params.specs.Numbers.{octets_per_tick}
use Rattle.link_run.proofs.FeedLemmas.{same_params}
use Rattle.link_run.proofs.Handing.{first-place, frame-ends, hands-none, hands-run, small-more, small-none, small-room}
use Rattle.link_run.specs.kept.Handed.{Hands}
use Rattle.link_run.specs.kept.Seen.{Fed}
use Rattle.link_run.proofs.feed.Feed.hand_rows.Goals as goal

pub loop-done-init : goal.loop-done-init
loop-done-init c =
    record {
      hands = subst
          (λ (l : List ℕ). Hands c.args.s.now c.args.self.now c.args.self.now c.args.place 0 l)
          (sym c.requires.none)
          (hands-none c.args.s.now c.args.self.now c.args.place c.args.self.now.params.l
          (λ plan is. same_params c.args.s.now plan is ∙ c.requires.shape) refl);
      small = subst (λ (l : List ℕ). All (λ v. v < 256 ^ 0) l) (sym c.requires.none)
          (small-none c.args.self.now.params.l);
      most = omega arith;
      inside = c.place_in_frame-at.ensures.below;
      place = λ more. c.place_in_frame-at.ensures.value
          ∙ first-place c.self.inside.layout c.args.self.now.params c.args.place
          c.self.inside.size c.self.inside.per_tick c.self.invariant.size_is
          c.self.invariant.per_tick_is (ap (λ (f : Fed). f.params) c.self.view_is);
    }

pub hand_octets-requires-clause-part : goal.hand_octets-requires-clause-part
hand_octets-requires-clause-part c = c.loop-done.invariant.hands.frames ∙ c.requires.part

pub hand_octets-requires-clause-small : goal.hand_octets-requires-clause-small
hand_octets-requires-clause-small c =
    let on = c.loop-done-test.true in
    let few = c.self.invariant.few in
    let count = c.min-count.ensures in
    small-room c.loop-done.done c.min-count.result c.loop-done.handed (omega arith)
    c.loop-done.invariant.small

pub loop-done-preserved : goal.loop-done-preserved
loop-done-preserved c =
    let on = c.loop-done-test.true in
    let i = c.loop-done.invariant in
    let e = c.hand_octets.ensures in
    let count = c.min-count.ensures in
    let inside = i.inside in
    let size : c.self.inside.size ≡ c.args.self.now.params.f = c.self.invariant.size_is
    ∙ ap (λ (f : Fed). f.params.f) c.self.view_is in
    let x : ℕ = octets_per_tick c.args.self.now.params * c.args.place in
    let all : x + c.loop-done.done + c.min-count.result
    ≡ x + (c.loop-done.done + c.min-count.result) = omega arith in
    record {
      hands = hands-run c.args.s.now c.args.self.now c.loop-done.self c.hand_octets.new.self
          c.args.place c.loop-done.done c.loop-done.at c.min-count.result c.loop-done.handed
          c.hand_octets.new.handed i.hands
          (λ plan is. same_params c.args.s.now plan is ∙ c.requires.shape) c.requires.part
          (i.place on) (omega arith) (omega arith) e.same e.frames e.count e.handed
          (λ plan n is was. e.fed plan n is was);
      small = small-more c.loop-done.done c.min-count.result c.hand_octets.new.handed
          (e.small (256 ^ c.loop-done.done) i.small);
      most = omega arith;
      inside = omega arith;
      place = λ more. frame-ends (x + c.loop-done.done) c.min-count.result
          c.args.self.now.params.f c.loop-done.at (omega arith) (i.place on) (omega arith)
          ∙ ap (λ (k : ℕ). k % c.args.self.now.params.f) all;
    }

-- all octets of the tick were handed
all-handed : (c : goal.After-loop-done) → c.loop-done.done ≡ octets_per_tick c.args.self.now.params
all-handed c =
    let end = c.loop-done-test.false in
    let most = c.loop-done.invariant.most in
    let is : c.loop-done.done ≡ c.self.inside.per_tick = omega arith in
    is ∙ c.self.invariant.per_tick_is ∙ ap (λ (f : Fed). octets_per_tick f.params) c.self.view_is

pub returns-clause-handed : goal.returns-clause-handed
returns-clause-handed c = subst
    (λ j. Hands c.args.s.now c.args.self.now c.loop-done.self c.args.place j c.loop-done.handed)
    (all-handed c) c.loop-done.invariant.hands

pub returns-clause-small : goal.returns-clause-small
returns-clause-small c = subst (λ j. All (λ v. v < 256 ^ j) c.loop-done.handed) (all-handed c)
    c.loop-done.invariant.small
