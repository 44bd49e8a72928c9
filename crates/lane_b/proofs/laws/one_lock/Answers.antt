use Rattle.lane_b.proofs.OneLock.{one-lock}
use Rattle.lane_b.proofs.laws.one_lock.Goals as goal

pub returns : goal.returns
returns c = one-lock
