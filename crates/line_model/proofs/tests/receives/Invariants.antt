use Rattle.std.proofs.Common.{◌≡◌}
use Rattle.line_model.proofs.tests.receives.Given as goal

abbrev pub invariant-loop-delay : goal.invariant-loop-delay
invariant-loop-delay l = record {
  width : l.line.set.width ≡ l.width;
  reach : l.line.set.reach ≡ 100;
}
