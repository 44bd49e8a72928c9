use Rattle.std.proofs.Common.{◌∙◌, ap, refl}
use Rattle.lane_b.proofs.TakenLemmas.{has_taken-nothing}
use Rattle.lane_b.proofs.receiver.RxLaneB.begin.Goals as goal

pub returns-clause-begins : goal.returns-clause-begins
returns-clause-begins c = λ p t lane taken gave h.
    has_taken-nothing _ p t lane c.new.result (ap (λ r. r.params) c.self.view_is ∙ h.params) (ap (λ r. r.timing) c.self.view_is ∙ h.timing)
    (ap (λ r. r.lane) c.self.view_is ∙ h.of_lane) refl refl (ap (λ q. q.cells) c.clear.ensures) c.new.ensures
