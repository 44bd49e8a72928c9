use Rattle.std.proofs.Common.{◌-◌, arith}
use Rattle.std.proofs.lemmas.Nat.{or_lt}
use Rattle.line_model.proofs.LineLemmas.{mask-step}
use Rattle.line_model.proofs.line.flip_mask.Goals as goal

pub loop-k-preserved : goal.loop-k-preserved
loop-k-preserved c =
    let k = c.loop-k.k in
    let m = c.requires.to in
    record {
      most = omega arith;
      none = λ e. absurd (omega arith);
      below = or_lt c.args.width c.loop-k.mask c.flip_bit-mask.result c.loop-k.invariant.below c.flip_bit-mask.ensures.below;
      mask = λ before p low. mask-step c.args.flips.now k c.args.delay (c.args.end - 1 - p) p c.loop-k.mask c.flip_bit-mask.result (omega arith)
          (c.loop-k.invariant.mask before p low) (c.flip_bit-mask.ensures.bit p low);
    }
