use Rattle.std.proofs.Common.{fold}
use Rattle.link_run.proofs.FrameOctets.{Changed, behind, lane_octets}
use Rattle.link_run.proofs.frame_octets.add_each.Given as goal

abbrev pub invariant-loop-lane : goal.invariant-loop-lane
invariant-loop-lane l = Changed
    (λ lane v. fold behind v (lane_octets l.octets l.size l.at l.count lane)) l.fn.handed l.handed
    l.lane
