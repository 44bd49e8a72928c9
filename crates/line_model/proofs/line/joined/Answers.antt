use Rattle.std.proofs.Common.{◌∙◌, ◌^◌}
use Rattle.std.proofs.lemmas.Nat.{mod_below, pow_pos}
use Rattle.line_model.proofs.LineLemmas.{joined-is}
use Rattle.line_model.proofs.line.joined.Goals as goal

pub returns-clause-is : goal.returns-clause-is
returns-clause-is c = λ small.
    c.low_bits.ensures
    ∙ joined-is c.args.older c.args.newer c.args.width c.args.rest c.requires.width c.requires.rest small

pub returns-clause-below : goal.returns-clause-below
returns-clause-below c = rw c.low_bits.ensures (mod_below _ (2 ^ c.args.width) (pow_pos c.args.width))
