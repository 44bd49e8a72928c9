use Rattle.code_8b10b.proofs.Entries.{readings_minus, readings_plus, disparities_minus, disparities_plus}
use Rattle.code_8b10b.proofs.code.reading_entry.Goals as goal

pub returns-in-Minus : goal.returns-in-Minus
returns-in-Minus c = rw c.in-Minus.is (record {
  reading = readings_minus c.args.word c.requires;
  disparity = disparities_minus c.args.word c.requires;
})

pub returns-in-Plus : goal.returns-in-Plus
returns-in-Plus c = rw c.in-Plus.is (record {
  reading = readings_plus c.args.word c.requires;
  disparity = disparities_plus c.args.word c.requires;
})
