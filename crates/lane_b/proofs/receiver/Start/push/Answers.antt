use Rattle.std.proofs.Common.{refl}
use Rattle.lane_b.proofs.receiver.Start.push.Goals as goal

pub returns-then-self : goal.returns-then-self
returns-then-self c = λ p lane since h.
    record {
      offset = refl;
      inside = refl;
      has_read = c.push-entry.ensures.goes_on p lane since h;
      step_of = (c.if-self.true, c.push-entry.ensures.entry p lane since h);
    }
