use Rattle.std.proofs.Common.{◌≡◌, suc, ◌+◌, ◌%◌, sym, ap, ◌∙◌, arith}
use Rattle.link_run.proofs.BlockOrders.{first_block, next_block, silent}
use Rattle.link_run.proofs.sending.next_block.Goals as goal

pub returns-in-Some-clause-goes_on : goal.returns-in-Some-clause-goes_on
returns-in-Some-clause-goes_on c = rw c.in-Some.is (λ p observed same.
    next_block p observed c.args.phase _ _ (rw same c.requires.short)
    (rw same (λ lt. c.place_after-place.ensures.next lt ∙ ap (λ n. n % c.args.period)
    (let e : suc c.in-Some.x ≡ c.in-Some.x + 1 = omega arith in e))))

pub returns-in-None-clause-goes_on : goal.returns-in-None-clause-goes_on
returns-in-None-clause-goes_on c = rw c.in-None.is (λ p observed same.
    first_block p observed c.args.phase (sym c.is_some.ensures ∙ c.if-is_some.true) (rw same c.requires.short))

pub returns-in-None-2-clause-goes_on : goal.returns-in-None-2-clause-goes_on
returns-in-None-2-clause-goes_on c = rw c.in-None-2.is (λ p observed same.
    silent p observed c.args.phase (sym c.is_some.ensures ∙ c.if-is_some.false))
