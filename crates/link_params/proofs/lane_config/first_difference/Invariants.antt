use Rattle.std.proofs.Common.{◌≡◌, ◌<◌, ℕ, false, get_or}
use Rattle.link_params.specs.Config.{differs}
use Rattle.link_params.proofs.lane_config.first_difference.Given as goal

abbrev pub invariant-loop-index : goal.invariant-loop-index
invariant-loop-index l = (k : ℕ) → k < l.index → differs l.link.params l.lane k (get_or l.octets k 0) ≡ false
