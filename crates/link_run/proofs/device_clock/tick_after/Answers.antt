use Rattle.std.proofs.Common.{arith}
use Rattle.link_model.proofs.EdgeTicks.{next_place}
use Rattle.link_run.proofs.device_clock.tick_after.Goals as goal

pub overflow_add-edge : goal.overflow_add-edge
overflow_add-edge c =
    let place = next_place c.args.link.now c.args.edge c.args.t c.requires.paced c.requires.near
    c.requires.tick in
    let low = place.1 in
    omega arith

pub tick_of-requires-clause-place : goal.tick_of-requires-clause-place
tick_of-requires-clause-place c =
    (next_place c.args.link.now c.args.edge c.args.t c.requires.paced c.requires.near
    c.requires.tick).0

pub returns-clause-edge : goal.returns-clause-edge
returns-clause-edge c =
    (next_place c.args.link.now c.args.edge c.args.t c.requires.paced c.requires.near
    c.requires.tick).1
