use Rattle.std.proofs.Common.{arith}
use Rattle.char_replace.proofs.FramePlaces.{HasPeriod, has_period, multiframe_end-of_place}
use Rattle.char_replace.proofs.places.is_multiframe_end.Goals as goal

pub overflow_mul-result : goal.overflow_mul-result
overflow_mul-result c = let h : HasPeriod c.args.params.now = has_period c.args.params.now c.requires in omega arith

pub overflow_sub-result : goal.overflow_sub-result
overflow_sub-result c = let h : HasPeriod c.args.params.now = has_period c.args.params.now c.requires in omega arith

pub returns : goal.returns
returns c = λ x at. multiframe_end-of_place c.args.params.now x c.args.place (has_period c.args.params.now c.requires) at
