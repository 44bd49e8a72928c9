use Rattle.jesd_base.proofs.DivisionLemmas.{division_is_shifting, sum_is_xor, remainder_is_linear, remainder_length, zeros_in_front, remainder_goes_on}
use Rattle.jesd_base.proofs.bit_laws.division.Goals as goal

pub returns : goal.returns
returns c = record {
  shifting = division_is_shifting;
  xor = sum_is_xor;
  linear = remainder_is_linear;
  length = remainder_length;
  zeros = zeros_in_front;
  goes_on = remainder_goes_on;
}
