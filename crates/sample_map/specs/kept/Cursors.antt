-- What a cursor holds that makes the octets of a group from its words: its place counts octets, and
-- `have` bits.
-- Code: the fields themselves.
use Rattle.std.specs.Prelude.{◌≡◌, ℕ, ◌+◌, ◌-◌, ◌*◌, ◌^◌, ◌<◌, ◌≤◌, List}
use Rattle.std.specs.Int.{bit_at}
use Rattle.sample_map.specs.kept.Groups.{Grouping, group_bit}
use Rattle.sample_map.specs.declared.cursor.Cursor.{Cursor}

-- it has read its bits from the words of its group
pub record Stands (g : Grouping) (words : List ℕ) (c : Cursor) : Type 0 where
  pub in_group : c.place < g.octets
  pub next : 8 * c.place + c.have ≡ c.next * g.width
  pub few : c.have ≤ 7 + g.width
  pub below : c.bits < 2 ^ c.have
  pub bits : (j : ℕ) → j < c.have → bit_at c.bits (c.have - 1 - j) ≡ group_bit g words c.group (8 * c.place + j)
