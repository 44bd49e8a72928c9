-- The sizes of a grid, in words, octets and bits.
-- Code: the fields themselves.
use Rattle.sample_map.specs.kept.Groups.{Grouping}
use Rattle.sample_map.specs.declared.grid.Grid.{Grid}

abbrev pub sizes : Grid → Grouping
sizes g = record { words = g.words; octets = g.octets; width = g.width; used = g.used }
