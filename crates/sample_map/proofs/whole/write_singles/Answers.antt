use Rattle.std.proofs.Common.{◌≡◌, ℕ, ◌*◌, ◌%◌, ◌^◌, ◌<◌, get_or, arith}
use Rattle.sample_map.proofs.WholeLemmas.{laid_out}
use Rattle.sample_map.proofs.whole.write_singles.Goals as goal

pub overflow_cast-out : goal.overflow_cast-out
overflow_cast-out c =
    let v : ℕ = get_or c.args.words.now c.loop-r.r 0 in
    let laid = laid_out v c.args.tail 8 c.requires.tail (omega arith) (c.requires.below c.loop-r.r (omega arith)) in
    let same : v * 2 ^ c.args.tail % 4294967296 ≡ v * 2 ^ c.args.tail = laid.1 in
    let few : v * 2 ^ c.args.tail < 256 = laid.0 in
    omega arith
