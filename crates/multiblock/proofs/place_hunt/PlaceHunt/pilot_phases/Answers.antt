use Rattle.std.proofs.Common.{◌==◌, ◌∙◌}
use Rattle.std.specs.Prelude.{◌&&◌, not}
use Rattle.std.specs.Int.{bit_at}
use Rattle.multiblock.proofs.Masks.{pilot-is}
use Rattle.multiblock.proofs.place_hunt.PlaceHunt.pilot_phases.Goals as goal

pub returns : goal.returns
returns c = λ r low.
    pilot-is c.aged-ones.result c.aged.result c.aged-2.result c.aged-3.result c.aged-4.result r
    ∙ (λ i. (bit_at (c.aged-ones.ensures i) r == 1) && (not (bit_at (c.aged.ensures i) r == 1) && (not (bit_at (c.aged-2.ensures i) r == 1)
    && (not (bit_at (c.aged-3.ensures i) r == 1) && not (bit_at (c.aged-4.ensures i) r == 1)))))
