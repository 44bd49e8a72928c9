use Rattle.fire_fec.proofs.Corrected.{parity_below, parity_makes_whole, one_burst_is_corrected}
use Rattle.fire_fec.proofs.laws.corrections.Goals as goal

pub returns : goal.returns
returns c = record { below = parity_below; whole = parity_makes_whole; corrected = one_burst_is_corrected }
