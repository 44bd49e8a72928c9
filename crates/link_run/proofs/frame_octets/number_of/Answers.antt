use Rattle.std.proofs.Common.{◌<◌, ◌≤◌, ◌^◌, ◌-◌, length, arith}
use Rattle.std.proofs.Math.Nat.{pow-le-pow_right}
use Rattle.link_run.proofs.FrameOctets.{fold-below}
use Rattle.link_run.proofs.frame_octets.number_of.Goals as goal

pub joined-requires-clause-small : goal.joined-requires-clause-small
joined-requires-clause-small c =
    let some : 0 < 256 = omega arith in
    let none : 0 ≤ 8 - length c.args.octets.now = omega arith in
    let least : 256 ^ 0 ≤ 256 ^ (8 - length c.args.octets.now) = pow-le-pow_right some none in
    omega arith

pub returns-clause-small : goal.returns-clause-small
returns-clause-small c =
    let below = fold-below c.args.octets.now 0 1 (omega arith)
    (λ k. let octet = c.type_inv.octets k in omega arith) in
    let is = c.joined.ensures in
    omega arith
