use Rattle.std.proofs.Common.{◌≡◌, ℕ, ◌/◌, ◌<◌, ◌^◌, refl, sym, ◌∙◌, ap, below_more, arith}
use Rattle.fire_fec.specs.kept.Shifting.{over_x, over_pow}
use Rattle.fire_fec.proofs.Blocks.{over_x-is}
use Rattle.fire_fec.proofs.TrappedByDividing.{over_pow-more, trapped_after, trapped_nowhere}
use Rattle.fire_fec.proofs.burst.burst_of.Goals as goal

pub loop-shifts-init : goal.loop-shifts-init
unfolding over_pow
loop-shifts-init g c = record {
  trap = refl;
  small = rw c.value-rest.ensures.value at c.value-rest.ensures.below;
  rises = omega arith;
  steps = omega arith;
  none = λ k below. absurd (omega arith);
}

pub returns-then-rest-eq1-clause-burst : goal.returns-then-rest-eq1-clause-burst
returns-then-rest-eq1-clause-burst g c =
    let i = c.loop-shifts.invariant in
    let k : ℕ = c.loop-shifts.shifts in
    let small : c.args.trap < 2 ^ 26 = rw c.value-rest.ensures.value at c.value-rest.ensures.below in
    let v = c.value-rest-in-loop-shifts.ensures.value ∙ i.trap in
    let e : over_pow k c.args.trap / 256 ≡ 1 = rw v at c.if-rest-eq1.true in
    rw v (trapped_after c.args.trap k small (omega arith) e)

pub loop-shifts-preserved : goal.loop-shifts-preserved
loop-shifts-preserved g c =
    let i = c.loop-shifts.invariant in
    let s = c.shift.ensures in
    let k : ℕ = c.loop-shifts.shifts in
    let v = c.value-rest-in-loop-shifts.ensures.value ∙ i.trap in
    record {
      trap = over_x-is c.loop-shifts.trap c.shift.new.self s.below s.divided ∙ ap over_x i.trap
          ∙ sym (over_pow-more k c.args.trap);
      small = s.below;
      rises = omega (arith, i.rises, s.steps);
      steps = omega (arith, i.steps, s.steps);
      none = below_more _ _ i.none (λ e. c.if-rest-eq1.false (ap (λ r. r / 256) v ∙ e));
    }

pub returns-clause-burst : goal.returns-clause-burst
returns-clause-burst g c =
    let none = c.loop-shifts.invariant.none in
    let v = c.value-rest.ensures.value in
    let small : c.args.trap < 2 ^ 26 = rw v at c.value-rest.ensures.below in
    trapped_nowhere c.args.trap small (omega arith) (λ k lt. none k (omega arith))
