use Rattle.std.proofs.Common.{◌≡◌, ◌<◌, ℕ, false}
use Rattle.multiblock.specs.Places.{pattern_size}
use Rattle.multiblock.specs.kept.Hunts.{sync_bit, ends_of}
use Rattle.multiblock.proofs.place_hunt.PlaceHunt.remainder.Given as goal

abbrev pub invariant-loop-m : goal.invariant-loop-m
invariant-loop-m l = (y : ℕ) → y < l.m → ends_of l.self.e y (sync_bit l.self l.rest) 0 (pattern_size l.self.e) ≡ false
