use Rattle.std.proofs.Common.{◌∙◌, ap₂, Bool}
use Rattle.std.specs.Prelude.{◌&&◌}
use Rattle.multiblock.proofs.Masks.{and-is}
use Rattle.multiblock.proofs.place_hunt.PlaceHunt.word_phases.Goals as goal

pub returns : goal.returns
returns c = λ r low. and-is c.pilot_phases-pilots.result c.good_phases.result r
    ∙ ap₂ {C = Bool} (λ x y. x && y) (c.good_phases.ensures r low) (c.pilot_phases-pilots.ensures r low)
