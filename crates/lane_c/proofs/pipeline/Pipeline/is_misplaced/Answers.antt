use Rattle.std.proofs.Common.{◌==◌, ◌&&◌, not, ◌∙◌, ap, ap₂}
use Rattle.std.specs.Bool.{beq}
use Rattle.lane_c.proofs.Judging.{misplaced-is}
use Rattle.lane_c.proofs.pipeline.Pipeline.is_misplaced.Goals as goal

pub returns : goal.returns
returns c = λ blocks size come.
    ap not (c.is_in_place.ensures
    ∙ ap₂ (λ u v. u && v) (ap₂ (λ x y. not x && beq y c.args.end) c.sync_bit-end_is_bad.ensures
    c.sync_bit-found_end.ensures)
    (ap₂ (λ x y. (x == 0) && (y == 1)) c.last_five-last_bad.ensures c.last_five-last.ensures))
    ∙ misplaced-is c.args.self.now.arriving blocks c.args.end size come
