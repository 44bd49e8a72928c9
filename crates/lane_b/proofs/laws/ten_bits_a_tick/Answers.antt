use Rattle.lane_b.proofs.OneChain.{ten_bits-a_tick, words-stay}
use Rattle.lane_b.proofs.laws.ten_bits_a_tick.Goals as goal

pub returns : goal.returns
returns c = record { ten = ten_bits-a_tick; stay = words-stay }
