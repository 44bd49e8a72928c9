use Rattle.std.proofs.Common.{◌≡◌, length, true, false, refl, sym, ◌∙◌, ap}
use Rattle.link_params.specs.Numbers.{period}
use Rattle.ilas.specs.kept.Checks.{has_fault}
use Rattle.ilas.proofs.Checking.{answer-fault, checked-fault, answer-going, checked-going, state-next, octets-next}
use Rattle.ilas.proofs.check.IlasCheck.push.Goals as goal

pub returns-then-is_fault-clause-answer : goal.returns-then-is_fault-clause-answer
returns-then-is_fault-clause-answer c = λ p lane rs h.
    let fault : has_fault c.args.self.now.state ≡ true = ap (λ k. has_fault k.state) (sym c.self.view_is) ∙ sym c.is_fault.ensures ∙ c.if-is_fault.true in
    ap (λ k. k.state) c.self.view_is ∙ answer-fault c.args.self.now p lane rs c.args.reading h fault

pub returns-then-is_fault-clause-goes_on : goal.returns-then-is_fault-clause-goes_on
returns-then-is_fault-clause-goes_on c = λ p lane rs h more.
    let fault : has_fault c.args.self.now.state ≡ true = ap (λ k. has_fault k.state) (sym c.self.view_is) ∙ sym c.is_fault.ensures ∙ c.if-is_fault.true in
    checked-fault c.args.self.now p lane rs c.args.reading h fault

pub returns-clause-answer : goal.returns-clause-answer
returns-clause-answer c = λ p lane rs h.
    let was = rw (← c.self.view_is) at h in
    let fault : has_fault c.self.inside.state ≡ false = sym c.is_fault.ensures ∙ c.if-is_fault.false in
    let size : c.period-period.result ≡ period c.self.inside.link.params = c.period-period.ensures.value ∙ ap period c.shape.ensures.same in
    let fourteen : length c.self.inside.octets ≡ 14 = c.self.told in
    c.next_state-self-inside.ensures
    ∙ state-next _ p lane rs c.args.reading _ _ _ was fault fourteen size c.kept-self-inside.ensures c.cause_at-cause.ensures
    ∙ answer-going _ p lane rs c.args.reading was fault

pub returns-clause-goes_on : goal.returns-clause-goes_on
returns-clause-goes_on c = λ p lane rs h more.
    let was = rw (← c.self.view_is) at h in
    let fault : has_fault c.self.inside.state ≡ false = sym c.is_fault.ensures ∙ c.if-is_fault.false in
    let size : c.period-period.result ≡ period c.self.inside.link.params = c.period-period.ensures.value ∙ ap period c.shape.ensures.same in
    let fourteen : length c.self.inside.octets ≡ 14 = c.self.told in
    let state = c.next_state-self-inside.ensures
    ∙ state-next _ p lane rs c.args.reading _ _ _ was fault fourteen size c.kept-self-inside.ensures c.cause_at-cause.ensures in
    let octets = octets-next _ p lane rs c.args.reading _ _ was fault size c.kept-self-inside.ensures in
    checked-going _ _ p lane rs c.args.reading was fault fourteen refl refl refl state octets more
