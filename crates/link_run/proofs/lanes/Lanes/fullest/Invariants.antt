use Rattle.std.proofs.Common.{◌≡◌, fold, map, max, take}
use Rattle.link_run.proofs.LaneLemmas.{fullest_in}
use Rattle.link_run.proofs.lanes.Lanes.fullest.Given as goal

abbrev pub invariant-loop-pair : goal.invariant-loop-pair
invariant-loop-pair l = l.most ≡ fold max 0 (map fullest_in (take l.pair-index l.pair-items))
