use Rattle.std.proofs.Common.{◌<◌, ◌+◌, ℕ}
use Rattle.multiblock.specs.kept.Hunts.{IsNothing}
use Rattle.multiblock.proofs.place_hunt.PlaceHunt.place_in.Given as goal

abbrev pub invariant-loop-i : goal.invariant-loop-i
invariant-loop-i l = (r : ℕ) → 65 < r + l.i → r < 66 → IsNothing l.self l.phases r
