use Rattle.std.proofs.Common.{◌≡◌, ℕ, ◌<◌, ◌+◌, ◌*◌, ◌%◌, ◌^◌, get_or}
use Rattle.scenario.proofs.source.ramp_words.Given as goal

abbrev pub invariant-loop-word : goal.invariant-loop-word
invariant-loop-word l = record {
  value : l.value ≡ (l.first + l.step * l.word-index) % 2 ^ 64;
  written : (k : ℕ) → k < l.word-index → get_or l.words k 0 ≡ (l.first + l.step * k) % 2 ^ l.bits;
}
