use Rattle.std.proofs.Common.{◌≡◌, ◌≤◌, ◌*◌, take}
use Rattle.std.specs.List.{sum}
use Rattle.link_params.proofs.lane_config.sum_of_octets.Given as goal

abbrev pub invariant-loop-octet : goal.invariant-loop-octet
invariant-loop-octet l = (l.sum ≡ sum (take l.octet-index l.first)) × (l.sum ≤ 255 * l.octet-index)
