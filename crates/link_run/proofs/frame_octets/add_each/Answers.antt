use Rattle.std.proofs.Common.{◌≡◌, fold, sym, ◌∙◌, arith}
use Rattle.link_run.specs.kept.Handed.{with_octets}
use Rattle.link_run.proofs.FrameOctets.{behind, changed-all, in-frame, lane_octets, with_octets-are, with_octets-below}
use Rattle.link_run.proofs.frame_octets.add_each.Goals as goal

handed-is : (c : goal.After-loop-lane) → c.loop-lane.handed
    ≡ with_octets c.args.octets.now c.args.size c.args.at c.args.count c.args.handed.now
handed-is c = changed-all
    (λ lane v. fold behind v
    (lane_octets c.args.octets.now c.args.size c.args.at c.args.count lane))
    c.args.handed.now c.loop-lane.handed c.loop-lane.lane c.loop-lane.invariant (omega arith)
    ∙ sym (with_octets-are c.args.octets.now c.args.size c.args.at c.args.count
    c.args.handed.now (λ lane below.
    let all = c.requires.octets in
    let room = in-frame _ c.args.size lane c.args.at c.args.count below c.requires.at in
    omega arith))

pub returns-clause-handed : goal.returns-clause-handed
returns-clause-handed c = handed-is c

pub returns-clause-small : goal.returns-clause-small
returns-clause-small c = λ m small.
    rw (handed-is c) (with_octets-below c.args.octets.now c.args.size c.args.at c.args.count m
    c.args.handed.now (λ k. let octet = c.type_inv.octets k in omega arith) small)
