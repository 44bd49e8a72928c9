use Rattle.lane_b.proofs.StageLemmas.{report-hunts}
use Rattle.lane_b.proofs.receiver.RxLaneB.report.Goals as goal

pub returns-in-Hunting : goal.returns-in-Hunting
returns-in-Hunting c = λ p t lane taken gave h.
    report-hunts p t lane c.in-Hunting.field-0 taken h.words (rw (← c.self.view_is, c.in-Hunting.is) at h.stands)
