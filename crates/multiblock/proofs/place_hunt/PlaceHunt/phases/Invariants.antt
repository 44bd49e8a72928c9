use Rattle.std.proofs.Common.{◌≡◌, ◌<◌, ◌==◌, ℕ}
use Rattle.std.specs.Int.{bit_at}
use Rattle.multiblock.specs.kept.Hunts.{is_good, sync_bit, all_words}
use Rattle.multiblock.proofs.place_hunt.PlaceHunt.phases.Given as goal

abbrev pub invariant-loop-n : goal.invariant-loop-n
invariant-loop-n l = (r : ℕ) → r < 66 → (bit_at l.phases r == 1) ≡ all_words (is_good l.self r) (sync_bit l.self r) l.n
