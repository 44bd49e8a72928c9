use Rattle.fire_fec.proofs.Remainders.{parity-none}
use Rattle.fire_fec.proofs.trap.Trap.new.Goals as goal

pub returns-clause-parity : goal.returns-clause-parity
returns-clause-parity c = parity-none
