use Rattle.std.proofs.Common.{sym, ap, ◌∙◌}
use Rattle.sysref_clock.proofs.Edges.{no_phase}
use Rattle.sysref_clock.proofs.local_clock.LocalClock.clear.Goals as goal

pub returns : goal.returns
returns c = λ period edges was. record {
  same_period = ap (λ k. k.period) c.self.view_is ∙ was.same_period;
  kept_phase = sym (no_phase period);
}
