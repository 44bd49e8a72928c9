use Rattle.std.proofs.Common.{◌∙◌, ap}
use Rattle.lane_c.specs.Received.{entries_c}
use Rattle.lane_c.proofs.Searching.{holds-one-less}
use Rattle.lane_c.proofs.receiver.RxLaneC.give.Goals as goal

pub returns-clause-goes_on : goal.returns-clause-goes_on
returns-clause-goes_on c = λ p t lane taken gave h.
    let holds = rw (← c.self.view_is, c.pop.ensures) at h.holds in
    record {
      params = ap (λ r. r.params) c.self.view_is ∙ h.params;
      timing = ap (λ r. r.timing) c.self.view_is ∙ h.timing;
      words = h.words;
      stands = rw (← c.self.view_is) at h.stands;
      holds = holds-one-less (entries_c p t lane taken) _ _ gave holds;
    }
