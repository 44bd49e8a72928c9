use Rattle.link_params.proofs.LawFacts.{timely}
use Rattle.link_params.proofs.link.Link.lat_ticks.Goals as goal

pub returns-clause-below : goal.returns-clause-below
returns-clause-below c =
    let t = timely c.self.inside.shape c.self.inside.timing c.self.invariant in
    let below = rw (← c.latency_of.ensures.value) at t.latency in
    rw (← c.self.view_is) below
