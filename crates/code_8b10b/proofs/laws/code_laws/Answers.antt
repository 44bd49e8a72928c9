use Rattle.code_8b10b.proofs.Spellings.{one_character, ten_bits}
use Rattle.code_8b10b.proofs.Readings.{one_reading, reads_spelling}
use Rattle.code_8b10b.proofs.laws.code_laws.Goals as goal

pub returns : goal.returns
returns c = record {
  one = one_character;
  ten = ten_bits;
  reading = one_reading;
  spelling = reads_spelling;
}
