use Rattle.std.proofs.Common.{arith}
use Rattle.link_run.proofs.FrameOctets.{fold-fits}
use Rattle.link_run.proofs.frame_octets.joined_each.Goals as goal

pub overflow_mul-all : goal.overflow_mul-all
overflow_mul-all c =
    let room = fold-fits c.args.octets.now c.args.number c.loop-octet.octet-index c.requires.few
    c.loop-octet-test.true c.requires.small (λ k. let octet = c.type_inv.octets k in omega arith) in
    let is = c.loop-octet.invariant in
    omega arith

pub overflow_add-all : goal.overflow_add-all
overflow_add-all c =
    let room = fold-fits c.args.octets.now c.args.number c.loop-octet.octet-index c.requires.few
    c.loop-octet-test.true c.requires.small (λ k. let octet = c.type_inv.octets k in omega arith) in
    let is = c.loop-octet.invariant in
    let octet = c.type_inv.octets c.loop-octet.octet-index in
    omega (arith, c.from.ensures)
