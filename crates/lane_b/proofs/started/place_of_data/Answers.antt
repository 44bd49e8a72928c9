use Rattle.std.proofs.Common.{◌≡◌, ◌+◌, ◌*◌, ◌%◌, ◌-◌, ℕ, ap, sym, ◌∙◌, arith}
use Rattle.std.proofs.lemmas.Nat.{mod-mul-add}
use Rattle.lane_b.proofs.started.place_of_data.Goals as goal

pub returns-then-past-period : goal.returns-then-past-period
returns-then-past-period c =
    let p : ℕ = c.args.period in
    let low = c.if-past-period.true in
    let from = c.requires.from in
    let whole : 4 * p + (c.args.place - 4 * p) ≡ c.args.place = omega arith in
    sym (mod-mul-add 4 p (c.args.place - 4 * p) low) ∙ ap (λ x. x % p) whole

pub returns-else-past-period : goal.returns-else-past-period
returns-else-past-period c =
    let p : ℕ = c.args.period in
    let high = c.if-past-period.false in
    let from = c.requires.from in
    let end = c.requires.place in
    let whole : 5 * p + (c.args.place - 4 * p - p) ≡ c.args.place = omega arith in
    sym (mod-mul-add 5 p (c.args.place - 4 * p - p) (omega arith)) ∙ ap (λ x. x % p) whole
