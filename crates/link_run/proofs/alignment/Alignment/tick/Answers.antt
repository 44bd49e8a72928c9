use Rattle.link_run.proofs.OrderLemmas.{seen_low}
use Rattle.link_run.proofs.alignment.Alignment.tick.Goals as goal

pub returns-then-low-clause-order : goal.returns-then-low-clause-order
returns-then-low-clause-order c = λ p observed b same was. (seen_low p observed _ b c.if-low.true).0

pub returns-then-low-clause-goes_on : goal.returns-then-low-clause-goes_on
returns-then-low-clause-goes_on c =
    λ p observed b same was. (seen_low p observed _ b c.if-low.true).1

pub returns-clause-order : goal.returns-clause-order
returns-clause-order c =
    rw c.if-low.false (λ p observed b same was. (c.next-alignment.ensures.goes_on p observed b same was).due)

pub returns-clause-goes_on : goal.returns-clause-goes_on
returns-clause-goes_on c =
    rw c.if-low.false
    (λ p observed b same was. (c.next-alignment.ensures.goes_on p observed b same was).goes_on)

pub returns-clause-follows : goal.returns-clause-follows
returns-clause-follows c =
    λ p observed b same was. (c.next-alignment.ensures.goes_on p observed b same was).follows

pub returns-clause-next : goal.returns-clause-next
returns-clause-next c = λ p observed b same was. (c.next-alignment.ensures.goes_on p observed b same was).next
