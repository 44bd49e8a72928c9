use Rattle.std.proofs.Common.{ap, ◌∙◌}
use Rattle.lane_b.specs.Loss.{is_lost}
use Rattle.lane_b.specs.kept.Starts.{Reader}
use Rattle.lane_b.proofs.started.Started.is_lost.Goals as goal

pub returns : goal.returns
unfolding is_lost
returns c = λ p lane since h. c.is_lost.ensures ∙ ap (λ (s : Reader). s.loss.lost) c.self.view_is ∙ h.loss.lost
