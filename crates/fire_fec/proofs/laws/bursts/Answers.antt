use Rattle.fire_fec.proofs.Trapping.{burst_is_trapped, only_pair, one_burst_is_found}
use Rattle.fire_fec.proofs.laws.bursts.Goals as goal

pub returns : goal.returns
returns c = record { trapped = λ v long. burst_is_trapped v long; only = λ v s t m n long. only_pair v long s t m n; found = one_burst_is_found }
