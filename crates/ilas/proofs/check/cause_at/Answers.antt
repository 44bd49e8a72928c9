use Rattle.std.proofs.Common.{◌≡◌, ◌∙◌, ◌+◌, ◌-◌, ap, sym, true, false, arith}
use Rattle.link_params.specs.Numbers.{period}
use Rattle.ilas.specs.Checked.{config_cause, is_allowed}
use Rattle.ilas.specs.Sequence.{ilas_char}
use Rattle.ilas.proofs.Causes.{code-cause, wrong-cause, early-cause, late-cause, octet-cause}
use Rattle.ilas.proofs.check.cause_at.Goals.{then-place-first-via-then-place-first, then-place-first-via-else-place-first+then-first-place}
use Rattle.ilas.proofs.check.cause_at.Goals as goal

pub returns-in_default : goal.returns-in_default
returns-in_default c = λ rs same. code-cause _ _ rs _ _ c.in_default.not-Char

pub returns-then-not-is_allowed : goal.returns-then-not-is_allowed
returns-then-not-is_allowed c = λ rs same.
    let wrong : is_allowed (ilas_char c.args.link.now.params c.args.lane c.args.place) c.in-Char.c ≡ false = ap (λ d. is_allowed d c.in-Char.c) (sym c.ilas_char.ensures) ∙ sym c.is_allowed.ensures ∙ c.if-not-is_allowed.true in
    wrong-cause _ _ rs _ _ c.in-Char.c c.in-Char.is wrong

pub returns-then-place-first : goal.returns-then-place-first
returns-then-place-first c = λ rs same.
    let allowed : is_allowed (ilas_char c.args.link.now.params c.args.lane c.args.place) c.in-Char.c ≡ true = ap (λ d. is_allowed d c.in-Char.c) (sym c.ilas_char.ensures) ∙ sym c.is_allowed.ensures ∙ c.if-not-is_allowed.false in
    let size : c.period-first.result ≡ period c.args.link.now.params = c.period-first.ensures.value ∙ ap period c.shape.ensures.same in
    elim c.then-place-first.branch [
      | then-place-first-via-then-place-first w ↦ early-cause _ _ rs _ _ c.in-Char.c c.in-Char.is allowed (omega (arith, w.if-place-first.true, size))
      | then-place-first-via-else-place-first+then-first-place w ↦ late-cause _ _ rs _ _ c.in-Char.c c.in-Char.is allowed (omega (arith, w.if-first-place.true, size))
    ]

pub returns : goal.returns
returns c = λ rs same.
    let allowed : is_allowed (ilas_char c.args.link.now.params c.args.lane c.args.place) c.in-Char.c ≡ true = ap (λ d. is_allowed d c.in-Char.c) (sym c.ilas_char.ensures) ∙ sym c.is_allowed.ensures ∙ c.if-not-is_allowed.false in
    let size : c.period-first.result ≡ period c.args.link.now.params = c.period-first.ensures.value ∙ ap period c.shape.ensures.same in
    c.config_cause.ensures rs (λ last. same (omega (arith, last, size, c.if-place-first.false)))
    ∙ ap (λ n. config_cause c.args.link.now.params c.args.lane rs (c.args.place - (n + 2)) c.octet_of_char.result) size
    ∙ ap (λ o. config_cause c.args.link.now.params c.args.lane rs (c.args.place - (period c.args.link.now.params + 2)) o) c.octet_of_char.ensures
    ∙ octet-cause _ _ rs _ _ c.in-Char.c c.in-Char.is allowed (omega (arith, c.if-place-first.false, size)) (omega (arith, c.if-first-place.false, size))
