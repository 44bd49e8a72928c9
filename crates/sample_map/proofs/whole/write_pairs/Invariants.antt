use Rattle.std.proofs.Common.{◌≡◌, ℕ, ◌+◌, ◌*◌, ◌/◌, ◌%◌, ◌<◌, ◌^◌, get_or}
use Rattle.sample_map.proofs.whole.write_pairs.Given as goal

abbrev pub invariant-loop-r : goal.invariant-loop-r
invariant-loop-r l = record {
  first : (j : ℕ) → j < l.r → get_or l.out (2 * j) 0 ≡ get_or l.words j 0 * 2 ^ l.tail / 256;
  second : (j : ℕ) → j < l.r → get_or l.out (2 * j + 1) 0 ≡ get_or l.words j 0 * 2 ^ l.tail % 256;
}
