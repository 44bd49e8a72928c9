use Rattle.std.proofs.Common.{◌≡◌, ℕ, ◌-◌, ◌*◌, ◌%◌, ◌^◌, arith}
use Rattle.fire_fec.proofs.TrappedByDividing.{first_bit, trapped_at_end}
use Rattle.fire_fec.proofs.burst.burst_at_end.Goals as goal

pub overflow_sub-past-2 : goal.overflow_sub-past-2
overflow_sub-past-2 c =
    let e = c.ilog2.ensures in
    let f = first_bit c.args.rest c.ilog2.result c.requires.1 e.power_le e.next_power_gt in
    omega arith

pub returns : goal.returns
returns c =
    let e = c.ilog2.ensures in
    let f = first_bit c.args.rest c.ilog2.result c.requires.1 e.power_le e.next_power_gt in
    let j : ℕ = 8 - c.ilog2.result in
    let m : c.args.rest * 2 ^ j % 4294967296 ≡ c.args.rest * 2 ^ j = omega arith in
    rw m (record {
      burst = trapped_at_end c.args.rest j c.requires.1 (omega arith) f.1 f.2;
      place = (omega arith, f.2);
    })
