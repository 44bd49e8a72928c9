use Rattle.std.proofs.Common.{◌≡◌, ◌<◌, ◌==◌, ℕ}
use Rattle.std.specs.Int.{bit_at}
use Rattle.multiblock.specs.kept.Hunts.{is_good, all_good}
use Rattle.multiblock.proofs.place_hunt.PlaceHunt.good_phases.Given as goal

abbrev pub invariant-loop-n : goal.invariant-loop-n
invariant-loop-n l = (r : ℕ) → r < 66 → (bit_at l.phases r == 1) ≡ all_good (is_good l.self r) l.age l.n
