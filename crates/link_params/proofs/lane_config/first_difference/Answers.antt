use Rattle.std.proofs.Common.{ℕ, Bool, get_or, below_more, sym, ◌∙◌, arith}
use Rattle.jesd_base.proofs.BitLemmas.{finds_least, finds_none}
use Rattle.link_params.specs.Config.{differs}
use Rattle.link_params.proofs.lane_config.first_difference.Goals as goal

pub loop-index-preserved : goal.loop-index-preserved
loop-index-preserved c =
    below_more _ _ c.loop-index.invariant (sym (c.is_other.ensures c.args.link.now.params c.args.lane c.config_octets-due.ensures) ∙ c.if-is_other.false)

pub returns-then-is_other : goal.returns-then-is_other
returns-then-is_other c =
    let test : ℕ → Bool = λ i. differs c.args.link.now.params c.args.lane i (get_or c.args.octets.now i 0) in
    let here = sym (c.is_other.ensures c.args.link.now.params c.args.lane c.config_octets-due.ensures) ∙ c.if-is_other.true in
    sym ((finds_least test 13 0 c.loop-index.index).1 (record { from = omega arith; passes = here; least = λ y low below. c.loop-index.invariant y below }) (omega arith))

pub returns : goal.returns
returns c =
    let test : ℕ → Bool = λ i. differs c.args.link.now.params c.args.lane i (get_or c.args.octets.now i 0) in
    sym ((finds_none test 13 0).1 (λ y low below. c.loop-index.invariant y (omega arith)))
