use Rattle.std.proofs.Common.{◌≡◌, ◌-◌, ◌*◌, ◌%◌, ◌^◌, ◌<◌, ap, ◌∙◌, bit_and, arith}
use Rattle.std.proofs.lemmas.Nat.{and_mask}
use Rattle.std.proofs.Math.Nat.{mod-eq_of_lt}
use Rattle.std.proofs.Math.Pow.{pow-lt}
use Rattle.multiblock.proofs.place_hunt.low_bits.Goals as goal

pub returns : goal.returns
returns c =
    let size = c.args.count in
    let wide : size < 128 = omega arith in
    let small : 2 ^ size < 2 ^ 128 = pow-lt wide in
    let mask : 1 * 2 ^ size % 2 ^ 128 ≡ 2 ^ size = ap (λ t. t % 2 ^ 128) (let e : 1 * 2 ^ size ≡ 2 ^ size = omega arith in e) ∙ mod-eq_of_lt small in
    ap (λ t. bit_and c.args.word (t - 1)) mask ∙ and_mask c.args.word size
