use Rattle.std.proofs.Common.{◌≡◌, ◌-◌}
use Rattle.multiblock.specs.Places.{pattern_size}
use Rattle.multiblock.specs.kept.Hunts.{sync_bit, ends_of}
use Rattle.multiblock.proofs.place_hunt.PlaceHunt.has_ends.Given as goal

abbrev pub invariant-loop-j : goal.invariant-loop-j
invariant-loop-j l = ends_of l.self.e l.m (sync_bit l.self l.rest) 0 (pattern_size l.self.e) ≡ ends_of l.self.e l.m (sync_bit l.self l.rest) l.j (pattern_size l.self.e - l.j)
