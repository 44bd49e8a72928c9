use Rattle.block_66b.proofs.BlockLemmas.{joined, joined-small}
use Rattle.block_66b.proofs.bit_window.across.Goals as goal

pub returns : goal.returns
returns c =
    let l = c.args.last in
    let t = c.args.tick in
    let rest = c.args.rest in
    let e = joined l t rest c.requires.rest c.requires.tick in
    record { block = e; below = rw e (joined-small l t rest c.requires.rest c.requires.tick) }
