use Rattle.std.proofs.Common.{rules, arith, sym}
use Rattle.std.proofs.lemmas.Bool.Decides.{nat_tests}
use Rattle.bench_words.proofs.Number.{too_large}
use Rattle.bench_words.proofs.reading.read_number.Goals as goal

pub returns-in-Err : goal.returns-in-Err
returns-in-Err c = sym (too_large c.args.text.now c.args.low c.args.high (omega arith) (search rules) (grind (arith, nat_tests)) c.in-Err.ensures.value.0)
