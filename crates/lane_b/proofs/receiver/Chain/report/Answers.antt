use Rattle.lane_b.proofs.StageLemmas.{report-unstarted, report-started}
use Rattle.lane_b.proofs.receiver.Chain.report.Goals as goal

pub returns-in-None : goal.returns-in-None
returns-in-None c = λ p t lane taken tens o. report-unstarted c.args.self.now p t lane taken tens o c.in-None.is

pub returns-in-Some : goal.returns-in-Some
returns-in-Some c = λ p t lane taken tens o.
    report-started c.args.self.now c.in-Some.start p t lane taken c.is_lost.result c.ilas.result tens o c.in-Some.is (c.is_lost.ensures p lane) (c.ilas.ensures p lane)
