use Rattle.jesd_base.proofs.BitLemmas.{bits_length, value_of_bits, bits_of_value, value_below, value_of_append, bits_of_both, bits_of_parts, zeros_length, finds_least, finds_none}
use Rattle.jesd_base.proofs.bit_laws.bits_and_numbers.Goals as goal

pub returns : goal.returns
returns c = record {
  length = bits_length;
  value_of_bits = value_of_bits;
  bits_of_value = bits_of_value;
  below = value_below;
  append = value_of_append;
  both = bits_of_both;
  parts = bits_of_parts;
  zeros = zeros_length;
  least = finds_least;
  none = finds_none;
}
