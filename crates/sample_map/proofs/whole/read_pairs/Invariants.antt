use Rattle.std.proofs.Common.{◌≡◌, ℕ, ◌+◌, ◌*◌, ◌/◌, ◌<◌, ◌^◌, get_or}
use Rattle.sample_map.proofs.whole.read_pairs.Given as goal

abbrev pub invariant-loop-r : goal.invariant-loop-r
invariant-loop-r l = (j : ℕ) → j < l.r
    → get_or l.words j 0 ≡ (get_or l.octets (2 * j) 0 * 256 + get_or l.octets (2 * j + 1) 0) / 2 ^ l.tail
