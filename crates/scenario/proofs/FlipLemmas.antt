-- Facts on the counts of flips.
use Rattle.std.proofs.Common.{◌≡◌, ◌+◌, ◌++◌, ◌∷◌, [], List, arith}
use Rattle.scenario.specs.declared.plan.Flip.{Flip}
use Rattle.scenario.specs.Reads.{flipped}

pub flipped-more : (fs : List Flip) (f : Flip) → flipped (fs ++ f ∷ []) ≡ flipped fs + f.count
flipped-more [] f = omega arith
flipped-more (g ∷ gs) f = let e : flipped (gs ++ f ∷ []) ≡ flipped gs + f.count =
    flipped-more gs f in omega arith
