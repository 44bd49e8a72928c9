use Rattle.std.proofs.Common.{◌≡◌, Some, sym, ap, ◌∙◌, arith}
use Rattle.sysref_clock.proofs.Edges.{off_at, off_after-is, off_at-some, off_at-zero, off_at-no_edge, off_at-none}
use Rattle.sysref_clock.proofs.local_clock.off_phase.Goals as goal

pub returns-in-Some : goal.returns-in-Some
returns-in-Some c = λ period edges was.
    let is = rw (c.in-Some.is, c.if-edge.true) at (off_after-is c.args.phase period edges c.args.edge was) in
    rw c.if-edge.true (sym (off_at-some c.in-Some.p c.if-p-gt0.true) ∙ is)

pub returns-in_default : goal.returns-in_default
returns-in_default c = λ period edges was.
    let zero : c.in-Some.p ≡ 0 = omega arith in
    let none = off_at-zero c.args.edge in
    sym (ap (λ o. off_at o c.args.edge) (c.in-Some.is ∙ ap Some zero) ∙ none) ∙ off_after-is c.args.phase period edges c.args.edge was

pub returns-in_default-2 : goal.returns-in_default-2
returns-in_default-2 c = λ period edges was.
    sym (ap (off_at c.args.phase) c.if-edge.false ∙ off_at-no_edge c.args.phase) ∙ off_after-is c.args.phase period edges c.args.edge was

pub returns-in_default-3 : goal.returns-in_default-3
returns-in_default-3 c = λ period edges was.
    sym (ap (λ o. off_at o c.args.edge) c.in_default.is ∙ off_at-none c.args.edge) ∙ off_after-is c.args.phase period edges c.args.edge was
