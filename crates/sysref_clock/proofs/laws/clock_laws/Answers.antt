use Rattle.sysref_clock.proofs.Captures.{captured_is_least}
use Rattle.sysref_clock.proofs.Edges.{phase_is_of_first, next_phase}
use Rattle.sysref_clock.proofs.laws.clock_laws.Goals as goal

pub returns : goal.returns
returns c = record { captured = captured_is_least; first = phase_is_of_first; next = next_phase }
