use Rattle.std.proofs.Common.{length, arith}
use Rattle.scenario.proofs.TextLemmas.{pow_16}
use Rattle.scenario.proofs.text.read_word.Goals as goal

pub overflow_cast-result : goal.overflow_cast-result
overflow_cast-result c = let few = c.if-text-gt8.false in
    let s = pow_16 (length c.args.text.now) 8 c.in_ok-value.value few c.in_ok-value.ensures.small in
    omega (arith, s)
