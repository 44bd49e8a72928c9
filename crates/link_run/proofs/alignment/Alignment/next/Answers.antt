use Rattle.std.proofs.Common.{◌≡◌, suc, ◌+◌, ◌*◌, ◌%◌, ◌<◌, ◌≤◌, refl, sym, ap, ◌∙◌, arith}
use Rattle.link_model.proofs.OrderLemmas.{boundary-is}
use Rattle.link_run.proofs.OrderLemmas.{idle, begins, waits, aligns, ends, streams}
use Rattle.link_run.proofs.alignment.Alignment.next.Goals as goal

pub returns-in-Idle-clause-goes_on : goal.returns-in-Idle-clause-goes_on
returns-in-Idle-clause-goes_on c = rw c.in-Idle.is (λ p observed b same was. idle p observed _ b refl was)

pub returns-in-Synchronizing-clause-goes_on : goal.returns-in-Synchronizing-clause-goes_on
returns-in-Synchronizing-clause-goes_on c = rw c.in-Synchronizing.is (λ p observed b same was.
    begins p observed _ b refl (rw same c.requires.short) (sym (boundary-is c.args.phase)
    ∙ sym c.eq.ensures ∙ c.if-eq.true) was)

pub returns-in-Synchronizing-2-clause-goes_on : goal.returns-in-Synchronizing-2-clause-goes_on
returns-in-Synchronizing-2-clause-goes_on c = rw c.in-Synchronizing-2.is (λ p observed b same was.
    waits p observed _ b refl (sym (boundary-is c.args.phase) ∙ sym c.eq.ensures ∙ c.if-eq.false)
    was)

pub returns-in-Aligning-clause-goes_on : goal.returns-in-Aligning-clause-goes_on
returns-in-Aligning-clause-goes_on c =
    rw c.in-Aligning.is (λ p observed b same was. aligns p observed _ c.in-Aligning.x b refl
    (rw same (let e : c.in-Aligning.x + 1 < 4 * c.args.period = omega arith in e)) was)

pub returns-in-Aligning-2-clause-goes_on : goal.returns-in-Aligning-2-clause-goes_on
returns-in-Aligning-2-clause-goes_on c = rw c.in-Aligning.is (λ p observed b same was.
    ends p observed _ c.in-Aligning.x b refl (rw same c.requires.short)
    (rw same (let e : 4 * c.args.period ≤ c.in-Aligning.x + 1 = omega arith in e)) was)

pub returns-in-Streaming-clause-goes_on : goal.returns-in-Streaming-clause-goes_on
returns-in-Streaming-clause-goes_on c = rw c.in-Streaming.is (λ p observed b same was.
    streams p observed _ c.in-Streaming.x _ b refl (rw same c.requires.short)
    (rw same (λ lt. c.place_after-place.ensures.next lt ∙ ap (λ n. n % c.args.period)
    (let e : suc c.in-Streaming.x ≡ c.in-Streaming.x + 1 = omega arith in e))) was)
