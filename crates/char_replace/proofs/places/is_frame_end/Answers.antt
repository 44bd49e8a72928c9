use Rattle.std.proofs.Common.{◌+◌, ◌==◌, ℕ, ap, ◌∙◌}
use Rattle.char_replace.proofs.FramePlaces.{has_period, frame_end-of_place}
use Rattle.char_replace.proofs.places.is_frame_end.Goals as goal

pub returns : goal.returns
returns c = λ x at. ap (λ (r : ℕ). r + 1 == c.args.params.now.f) c.place_in_frame.ensures.value ∙ frame_end-of_place c.args.params.now x c.args.place (has_period c.args.params.now c.requires) at
