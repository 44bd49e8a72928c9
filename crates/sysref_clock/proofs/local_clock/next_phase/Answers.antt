use Rattle.std.proofs.Common.{◌≡◌, ◌+◌, ◌%◌, Some, sym, ap, ◌∙◌, arith}
use Rattle.std.proofs.Math.Nat.{mod-eq_of_lt, mod_self}
use Rattle.sysref_clock.proofs.Edges.{next_phase, first_phase, still_none}
use Rattle.sysref_clock.proofs.local_clock.next_phase.Goals as goal

pub returns-in-Some-clause-is : goal.returns-in-Some-clause-is
returns-in-Some-clause-is c = λ edges was.
    let next = next_phase c.args.period edges c.args.edge c.in-Some.p c.requires.period (sym was ∙ c.in-Some.is) in
    sym (next ∙ ap Some (mod-eq_of_lt c.if-p-period.true))

pub returns-in-Some-2-clause-is : goal.returns-in-Some-2-clause-is
returns-in-Some-2-clause-is c = λ edges was.
    let next = next_phase c.args.period edges c.args.edge c.in-Some.p c.requires.period (sym was ∙ c.in-Some.is) in
    let below = rw c.in-Some.is at c.requires.phase in
    let whole : c.in-Some.p + 1 ≡ c.args.period = omega arith in
    sym (next ∙ ap (λ n. Some (n % c.args.period)) whole ∙ ap Some (mod_self c.args.period))

pub returns-in-None-clause-is : goal.returns-in-None-clause-is
returns-in-None-clause-is c = λ edges was.
    rw c.if-edge.true (sym (first_phase c.args.period edges c.requires.period (sym was ∙ c.in-None.is)))

pub returns-in-None-2-clause-is : goal.returns-in-None-2-clause-is
returns-in-None-2-clause-is c = λ edges was. rw c.if-edge.false (sym (still_none c.args.period edges (sym was ∙ c.in-None.is)))
