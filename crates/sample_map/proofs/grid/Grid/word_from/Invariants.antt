use Rattle.std.proofs.Common.{◌≡◌, ℕ, ◌+◌, ◌-◌, ◌*◌, ◌/◌, ◌%◌, ◌<◌, ◌≤◌, ◌^◌, get_or}
use Rattle.std.specs.Int.{bit_at}
use Rattle.sample_map.proofs.grid.Grid.word_from.Given as goal

abbrev pub invariant-gathering : goal.invariant-gathering
invariant-gathering l = record {
  place : 8 * l.at ≡ 8 * (l.r / l.self.words * l.self.octets + l.first / 8) + l.have;
  have : l.have ≤ l.due + 7;
  below : l.bits < 2 ^ l.have;
  bits : (j : ℕ) → j < l.have → bit_at l.bits (l.have - 1 - j) ≡ bit_at (get_or l.octets (l.r / l.self.words * l.self.octets + l.first / 8 + j / 8) 0) (7 - j % 8);
}

abbrev pub decreases-gathering : goal.decreases-gathering
decreases-gathering l = l.due - l.have
