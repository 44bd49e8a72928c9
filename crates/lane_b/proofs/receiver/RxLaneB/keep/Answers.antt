use Rattle.std.proofs.Common.{◌∙◌, sym}
use Rattle.lane_b.proofs.BufferLemmas.{holds-cell, holds-place}
use Rattle.lane_b.proofs.receiver.RxLaneB.keep.Goals as goal

pub returns-in-Some-clause-entry : goal.returns-in-Some-clause-entry
returns-in-Some-clause-entry c = λ entries e gave holds is order.
    rw (c.push.ensures) (holds-cell entries c.self.inside.placed gave c.self.inside.buffer.cells c.in-Some.cell e (rw (← c.self.view_is) at holds) (sym c.in-Some.is ∙ is))

pub returns-in-None-clause-entry : goal.returns-in-None-clause-entry
returns-in-None-clause-entry c = λ entries e gave holds is order.
    rw (c.push-in-None.ensures) (holds-place entries c.self.inside.placed gave c.self.inside.buffer.cells _ e (rw (← c.self.view_is) at holds) (sym c.in-None.is ∙ is) order)
