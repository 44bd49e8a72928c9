use Rattle.std.proofs.Common.{◌≡◌, ◌≢◌, ℕ, ◌+◌, ◌/◌, ◌^◌, ◌<◌, ◌≤◌}
use Rattle.fire_fec.specs.kept.Shifting.{over_pow}
use Rattle.fire_fec.proofs.burst.burst_of.Given as goal

abbrev pub invariant-loop-shifts : goal.invariant-loop-shifts
invariant-loop-shifts g l = record {
  trap : l.trap ≡ over_pow l.shifts l.fn.trap;
  small : l.trap < 2 ^ 26;
  rises : l.fn.steps ≤ l.steps;
  steps : l.steps ≤ l.fn.steps + l.shifts;
  none : (k : ℕ) → k < l.shifts → over_pow k l.fn.trap / 256 ≢ 1;
}
