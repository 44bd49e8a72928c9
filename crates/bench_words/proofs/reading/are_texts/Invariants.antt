use Rattle.std.proofs.Common.{ℕ, List, ◌<◌, length, slice_index_or, Bor}
use Rattle.std.specs.Str.{IsUtf8}
use Rattle.bench_words.proofs.reading.are_texts.Given as goal

abbrev pub invariant-loop-word : goal.invariant-loop-word
invariant-loop-word l = (k : ℕ) → k < l.word-index → (d : Bor (List ℕ)) → k < length l.words → IsUtf8 (slice_index_or l.words k d).now
