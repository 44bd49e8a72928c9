use Rattle.std.proofs.Common.{arith}
use Rattle.code_8b10b.proofs.Entries.{data_minus, data_plus, controls_minus, controls_plus}
use Rattle.code_8b10b.proofs.code.spelling_entry.Goals as goal
use Rattle.code_8b10b.proofs.code.spelling_entry.Goals.{in-Data, in-Control}

pub returns-in-Minus : goal.returns-in-Minus
returns-in-Minus c = rw c.in-Minus.is (elim c.match-c.branch [
  | in-Data w ↦ rw (w.index-is, w.in-Data.is) (data_minus w.in-Data.octet (omega arith))
  | in-Control w ↦ rw (w.index-is, w.in-Control.is) (controls_minus w.in-Control.octet (omega arith))
])

pub returns-in-Plus : goal.returns-in-Plus
returns-in-Plus c = rw c.in-Plus.is (elim c.match-c.branch [
  | in-Data w ↦ rw (w.index-is, w.in-Data.is) (data_plus w.in-Data.octet (omega arith))
  | in-Control w ↦ rw (w.index-is, w.in-Control.is) (controls_plus w.in-Control.octet (omega arith))
])
