use Rattle.std.proofs.Common.{◌≡◌, ◌+◌, ◌*◌, ◌/◌, ◌%◌, ◌^◌, ◌<◌, ap, arith}
use Rattle.std.proofs.Math.ListN.{set}
use Rattle.sample_map.proofs.WholeLemmas.{laid_out}
use Rattle.sample_map.proofs.whole.write_pair.Goals as goal

pub overflow_cast-out : goal.overflow_cast-out
overflow_cast-out c =
    let laid = laid_out c.args.word c.args.tail 16 c.requires.tail (omega arith) c.requires.below in
    let same : c.args.word * 2 ^ c.args.tail % 4294967296 ≡ c.args.word * 2 ^ c.args.tail = laid.1 in
    let few : c.args.word * 2 ^ c.args.tail < 65536 = laid.0 in
    omega arith

pub returns : goal.returns
returns c =
    let laid = laid_out c.args.word c.args.tail 16 c.requires.tail (omega arith) c.requires.below in
    ap (λ n. set (set c.args.out.now (2 * c.args.r) (n / 256)) (2 * c.args.r + 1) (n % 256)) laid.1
