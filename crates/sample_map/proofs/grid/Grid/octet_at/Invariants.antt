use Rattle.std.proofs.Common.{◌≡◌, ℕ, ◌+◌, ◌-◌, ◌*◌, ◌<◌, ◌≤◌, ◌^◌}
use Rattle.std.specs.Int.{bit_at}
use Rattle.sample_map.specs.kept.Groups.{group_bit}
use Rattle.sample_map.specs.kept.Grids.{sizes}
use Rattle.sample_map.proofs.grid.Grid.octet_at.Given as goal

abbrev pub invariant-gathering : goal.invariant-gathering
invariant-gathering l = record {
  next : 8 * l.place + l.have ≡ l.next * l.self.width;
  few : l.have ≤ 7 + l.self.width;
  below : l.bits < 2 ^ l.have;
  bits : (j : ℕ) → j < l.have → bit_at l.bits (l.have - 1 - j) ≡ group_bit (sizes l.self) l.words l.group (8 * l.place + j);
}

abbrev pub decreases-gathering : goal.decreases-gathering
decreases-gathering l = 8 - l.have
