use Rattle.std.proofs.Common.{◌≡◌, ℕ, ◌/◌, ◌<◌, ◌^◌, get_or}
use Rattle.sample_map.proofs.whole.read_singles.Given as goal

abbrev pub invariant-loop-r : goal.invariant-loop-r
invariant-loop-r l = (j : ℕ) → j < l.r → get_or l.words j 0 ≡ get_or l.octets j 0 / 2 ^ l.tail
