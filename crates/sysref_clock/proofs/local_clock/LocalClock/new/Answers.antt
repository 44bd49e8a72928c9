use Rattle.std.proofs.Common.{refl, sym}
use Rattle.sysref_clock.proofs.Edges.{no_phase}
use Rattle.sysref_clock.proofs.local_clock.LocalClock.new.Goals as goal

pub returns : goal.returns
returns c = record { same_period = refl; kept_phase = sym (no_phase c.args.period) }
