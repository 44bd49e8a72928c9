use Rattle.std.proofs.Common.{◌∙◌, sym, arith}
use Rattle.link_params.proofs.LawFacts.{legal_sizes}
use Rattle.link_params.proofs.shape.Shape.period.Goals as goal

pub overflow_mul-result : goal.overflow_mul-result
overflow_mul-result c =
    let b = sym c.is_mode_b.ensures ∙ c.if-is_mode_b.true in
    let high = rw b at (legal_sizes c.self.inside.params c.self.invariant).period in
    omega (arith, high)

pub returns-then-is_mode_b-clause-low : goal.returns-then-is_mode_b-clause-low
returns-then-is_mode_b-clause-low c =
    let b = sym c.is_mode_b.ensures ∙ c.if-is_mode_b.true in rw b at (legal_sizes c.self.inside.params c.self.invariant).period_low

pub returns-then-is_mode_b-clause-high : goal.returns-then-is_mode_b-clause-high
returns-then-is_mode_b-clause-high c =
    let b = sym c.is_mode_b.ensures ∙ c.if-is_mode_b.true in rw b at (legal_sizes c.self.inside.params c.self.invariant).period
