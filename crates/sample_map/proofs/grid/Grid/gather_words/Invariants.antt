use Rattle.std.proofs.Common.{ℕ, ◌<◌, ◌^◌, get_or}
use Rattle.sample_map.specs.kept.Grids.{sizes}
use Rattle.sample_map.specs.kept.Groups.{HasWord}
use Rattle.sample_map.proofs.grid.Grid.gather_words.Given as goal

abbrev pub invariant-loop-r : goal.invariant-loop-r
invariant-loop-r l = record {
  below : (j : ℕ) → j < l.r → get_or l.words j 0 < 2 ^ l.self.used;
  bits : (j : ℕ) → j < l.r → HasWord (sizes l.self) l.octets j (get_or l.words j 0);
}
