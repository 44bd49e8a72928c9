use Rattle.std.proofs.Common.{◌≡◌, ◌<◌, ◌+◌, ◌∙◌, ℕ, refl, sym, ap, subst, arith}
use Rattle.std.proofs.lemmas.Bool.{true≢false}
use Rattle.link_params.specs.declared.orders.RxOrder.{RxOrder}
use Rattle.link_params.specs.Numbers.{period}
use Rattle.link_params.specs.Runs.{later}
use Rattle.link_params.proofs.RunLemmas.{later-more, later-start}
use Rattle.lane_b.proofs.RunSteps.{GoesSo, goes-more, goes-none, tells-more, tells-none, tells-other}
use Rattle.lane_b.proofs.receiver.RxLaneB.run_to_change.Goals as goal

pub loop-i-init : goal.loop-i-init
loop-i-init c =
    let low : c.args.order.now.offset < c.period-period.result =
    subst (λ (k : ℕ). c.args.order.now.offset < k) (sym c.period-period.ensures) c.requires.offset in (
      later-start c.args.order.now c.period-period.result c.requires.hunt low,
      low,
      omega arith,
      refl,
      goes-none c.args.self.now c.args.order.now c.args.words.now,
      tells-none c.args.self.now c.args.order.now c.args.words.now,
    )

pub loop-i-preserved : goal.loop-i-preserved
loop-i-preserved c =
    let so_far = c.loop-i.invariant in
    let is : c.loop-i.next ≡ later c.args.order.now (period c.args.self.now.params) c.loop-i.i =
    c.loop-i.invariant.0 ∙ ap {B = RxOrder} (λ (k : ℕ). later c.args.order.now k c.loop-i.i)
    c.period-period.ensures in
    let most = c.tick.ensures.most in
    let held = so_far.2 in
    let next = later-more c.args.order.now c.period-period.result c.loop-i.i c.loop-i.next
    c.place_after.result so_far.0 so_far.1 (c.place_after.ensures.next so_far.1) in
    let goes : GoesSo c.args.self.now c.tick.new.self c.args.order.now
    c.args.words.now (c.loop-i.i + 1) =
    goes-more c.args.self.now c.loop-i.self c.tick.new.self c.args.order.now
    c.args.words.now c.loop-i.i c.loop-i.next is so_far.4 c.tick.ensures.goes_on in (
      next.0,
      next.1,
      omega arith,
      c.tick.ensures.depth ∙ so_far.3,
      goes,
      tells-more c.args.self.now c.tick.new.self c.args.order.now c.args.words.now
          c.loop-i.i c.report-before.result c.report.result so_far.5 goes c.report-before.ensures
          c.report.ensures (c.is_same.ensures.0 c.if-not-is_same.false),
    )

pub returns-then-not-is_same-clause-goes_on : goal.returns-then-not-is_same-clause-goes_on
returns-then-not-is_same-clause-goes_on c =
    let so_far = c.loop-i.invariant in
    let is : c.loop-i.next ≡ later c.args.order.now (period c.args.self.now.params) c.loop-i.i =
    c.loop-i.invariant.0 ∙ ap {B = RxOrder} (λ (k : ℕ). later c.args.order.now k c.loop-i.i)
    c.period-period.ensures in
    let goes : GoesSo c.args.self.now c.tick.new.self c.args.order.now
    c.args.words.now (c.loop-i.i + 1) =
    goes-more c.args.self.now c.loop-i.self c.tick.new.self c.args.order.now
    c.args.words.now c.loop-i.i c.loop-i.next is so_far.4 c.tick.ensures.goes_on in
    goes

pub returns-then-not-is_same-clause-change : goal.returns-then-not-is_same-clause-change
returns-then-not-is_same-clause-change c = λ p t lane taken gave h short.
    let so_far = c.loop-i.invariant in
    let is : c.loop-i.next ≡ later c.args.order.now (period c.args.self.now.params) c.loop-i.i =
    c.loop-i.invariant.0 ∙ ap {B = RxOrder} (λ (k : ℕ). later c.args.order.now k c.loop-i.i)
    c.period-period.ensures in
    let goes : GoesSo c.args.self.now c.tick.new.self c.args.order.now
    c.args.words.now (c.loop-i.i + 1) =
    goes-more c.args.self.now c.loop-i.self c.tick.new.self c.args.order.now
    c.args.words.now c.loop-i.i c.loop-i.next is so_far.4 c.tick.ensures.goes_on in
    tells-other c.args.self.now c.tick.new.self c.args.order.now c.args.words.now
    (c.loop-i.i + 1) c.report-before.result c.report.result goes c.report-before.ensures
    c.report.ensures (λ same. true≢false (sym (c.is_same.ensures.1 same) ∙ c.if-not-is_same.true))
    p t lane taken gave h
