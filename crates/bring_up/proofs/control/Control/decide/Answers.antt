use Rattle.std.proofs.Common.{ap, ◌∙◌}
use Rattle.bring_up.specs.Decisions.{Decided}
use Rattle.bring_up.proofs.Standings.{has_decided-same, has_decided-next}
use Rattle.bring_up.proofs.control.Control.decide.Goals as goal

pub judge-decision-requires-clause-octets : goal.judge-decision-requires-clause-octets
judge-decision-requires-clause-octets c = rw (← c.self.view_is) at c.requires.octets

pub returns-clause-decision : goal.returns-clause-decision
returns-clause-decision c = λ p t before h.
    let was = rw (← c.self.view_is) at h in
    c.judge-decision.ensures.decision ∙ ap (λ (d : Decided). d.decision) (has_decided-same _ p t before c.args.reports.now was)

pub returns-clause-alarms : goal.returns-clause-alarms
returns-clause-alarms c = λ p t before h.
    let was = rw (← c.self.view_is) at h in
    c.judge-decision.ensures.alarms ∙ ap (λ (d : Decided). d.alarms) (has_decided-same _ p t before c.args.reports.now was)

pub returns-clause-goes_on : goal.returns-clause-goes_on
returns-clause-goes_on c = λ p t before h.
    let was = rw (← c.self.view_is) at h in
    rw (c.stand.ensures, ← c.self.view_is) (has_decided-next _ p t before c.args.reports.now c.judge-decision.result was c.judge-decision.ensures.decision)
