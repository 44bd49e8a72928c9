use Rattle.std.proofs.Common.{◌≡◌, ◌≤◌, ◌<◌, ◌+◌, ◌-◌, ◌^◌, ◌==◌, false, ℕ, take}
use Rattle.std.specs.Int.{bit_at}
use Rattle.line_model.specs.LineBits.{is_flipped}
use Rattle.line_model.specs.kept.Lines.{arrived}
use Rattle.line_model.proofs.line.flip_mask.Given as goal

abbrev pub invariant-loop-k : goal.invariant-loop-k
invariant-loop-k l = record {
  most : l.k ≤ l.to;
  none : l.k ≡ l.from → l.mask ≡ 0;
  below : l.mask < 2 ^ l.width;
  mask : ((i : ℕ) → l.end ≤ i + l.width → is_flipped (take l.from l.flips) i ≡ false)
      → (p : ℕ) → p < l.width → (bit_at l.mask p == 1) ≡ arrived l.delay (l.end - 1 - p) (is_flipped (take l.k l.flips) (l.end - 1 - p));
}
