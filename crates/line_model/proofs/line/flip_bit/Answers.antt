use Rattle.std.proofs.Common.{◌-◌, ◌*◌, ◌%◌, ◌^◌, ◌==◌, ◌∙◌, ap, arith}
use Rattle.std.specs.Int.{bit_at}
use Rattle.line_model.proofs.LineLemmas.{flip-below, flip-is}
use Rattle.line_model.proofs.line.flip_bit.Goals as goal

pub returns-clause-below : goal.returns-clause-below
returns-clause-below c =
    let w = c.requires.width in
    let a = c.requires.above in
    let b = c.requires.below in
    let f = c.from-2.ensures in
    flip-below (c.args.end - 1 - c.from-2.result) c.args.width (omega arith) w

pub returns-clause-bit : goal.returns-clause-bit
returns-clause-bit c = λ p low.
    let f = c.from-2.ensures in
    let d = c.from.ensures in
    let late = c.if-flip-from.false in
    ap (λ x. bit_at (1 * 2 ^ (c.args.end - 1 - x) % 2 ^ 128) p == 1) f
    ∙ flip-is c.args.flip c.args.end c.args.width c.args.delay p c.requires.width c.requires.long c.requires.below c.requires.above (omega arith) low
