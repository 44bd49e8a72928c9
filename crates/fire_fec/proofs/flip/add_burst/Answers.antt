use Rattle.std.proofs.Common.{◌≡◌, ℕ, ◌-◌, ◌*◌, ◌%◌, ◌^◌, ◌≤◌, arith}
use Rattle.std.proofs.lemmas.Nat.{mul-le}
use Rattle.std.proofs.Math.Nat.{mod-eq_of_lt}
use Rattle.std.proofs.Math.Pow.{pow_mono}
use Rattle.fire_fec.specs.Corrects.{payload_bits}
use Rattle.fire_fec.proofs.Flipping.{burst_by_blocks}
use Rattle.fire_fec.proofs.flip.add_burst.Goals as goal

pub returns : goal.returns
returns c =
    let k : ℕ = 119 - c.args.start % 64 in
    let p : 2 ^ k ≤ 2 ^ 119 = pow_mono {i = k} {j = 119} (omega arith) in
    let b : c.args.mask * 2 ^ k ≤ 511 * 2 ^ 119 = mul-le c.args.mask (2 ^ k) 511 (2 ^ 119) (omega arith) p in
    let m : c.args.mask * 2 ^ k % 2 ^ 128 ≡ c.args.mask * 2 ^ k = mod-eq_of_lt (omega arith) in
    let e = rw (c.from.ensures, m) at c.add_to_block.ensures in
    let f = rw (c.from.ensures, m) at c.add_to_block-2.ensures in
    burst_by_blocks (payload_bits c.args.payload.now) (payload_bits c.add_to_block.new.payload) (payload_bits c.add_to_block-2.new.payload) c.args.start c.args.mask c.requires.1 e f
