use Rattle.std.proofs.Common.{◌≡◌, ℕ, ◌+◌, ◌*◌, ◌<◌, get_or}
use Rattle.sample_map.specs.kept.Cursors.{Stands}
use Rattle.sample_map.specs.kept.Grids.{sizes}
use Rattle.sample_map.specs.kept.Groups.{HasOctet}
use Rattle.sample_map.proofs.grid.Grid.gather_octets.Given as goal

abbrev pub invariant-loop-octet : goal.invariant-loop-octet
invariant-loop-octet l = record {
  place : l.cursor.group * l.self.octets + l.cursor.place ≡ l.octet-index;
  holds : Stands (sizes l.self) l.words l.cursor;
  below : (j : ℕ) → j < l.octet-index → get_or l.out j 0 < 256;
  written : (j : ℕ) → j < l.octet-index → HasOctet (sizes l.self) l.words j (get_or l.out j 0);
}
