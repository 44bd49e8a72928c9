use Rattle.std.proofs.Common.{◌≡◌, ◌∙◌, ap, ℕ, ◌%◌, ◌-◌}
use Rattle.link_params.specs.Numbers.{period}
use Rattle.code_8b10b.specs.declared.character.Char.TheVariants.{Data}
use Rattle.std.proofs.Common.{slice_index}
use Rattle.ilas.proofs.Places.{start-char, end-char, q-char, config-char, late-char, other-char}
use Rattle.ilas.proofs.sequence.ilas_char.Goals.{then-place-period-eq1+else-at-eq1+else-at-le15, else-place-period-eq1}
use Rattle.ilas.proofs.sequence.ilas_char.Goals as goal

pub returns-then-at-eq0 : goal.returns-then-at-eq0
returns-then-at-eq0 c = start-char _ _ _ _ (c.period-period.ensures.value ∙ ap period c.shape.ensures.same) c.if-at-eq0.true

pub returns-then-at-period : goal.returns-then-at-period
returns-then-at-period c = end-char _ _ _ _ (c.period-period.ensures.value ∙ ap period c.shape.ensures.same) c.if-at-eq0.false c.if-at-period.true

pub returns-then-at-eq1 : goal.returns-then-at-eq1
returns-then-at-eq1 c =
    q-char _ _ _ _ (c.period-period.ensures.value ∙ ap period c.shape.ensures.same) c.if-at-eq0.false c.if-at-period.false c.if-place-period-eq1.true c.if-at-eq1.true

pub returns-then-at-le15 : goal.returns-then-at-le15
returns-then-at-le15 c =
    let j : ℕ = c.args.place % c.period-period.result in
    ap (λ xs. Data (slice_index xs (j - 2))) c.config_octets.ensures
    ∙ config-char _ _ _ _ (c.period-period.ensures.value ∙ ap period c.shape.ensures.same) c.if-at-eq0.false c.if-at-period.false c.if-place-period-eq1.true c.if-at-eq1.false c.if-at-le15.true

pub returns : goal.returns
returns c =
    let size : c.period-period.result ≡ period c.args.link.now.params = c.period-period.ensures.value ∙ ap period c.shape.ensures.same in
    elim c.if-place-period-eq1.branch [
      | then-place-period-eq1+else-at-eq1+else-at-le15 w ↦ late-char _ _ _ _ size c.if-at-eq0.false c.if-at-period.false w.if-at-eq1.false w.if-at-le15.false
      | else-place-period-eq1 w ↦ other-char _ _ _ _ size c.if-at-eq0.false c.if-at-period.false w.if-place-period-eq1.false
    ]
