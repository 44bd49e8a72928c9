use Rattle.std.proofs.Common.{ℕ, List, ◌<◌, length, slice_index_or, Bor, arith, subst, []}
use Rattle.std.proofs.lemmas.List.{get_or_default}
use Rattle.std.specs.Str.{IsUtf8}
use borrow.Author.Count.{below_more}
use Rattle.bench_words.proofs.reading.are_texts.Goals as goal

pub loop-word-preserved : goal.loop-word-preserved
loop-word-preserved c = below_more (λ k. (d : Bor (List ℕ)) → k < length c.args.words.now → IsUtf8 (slice_index_or c.args.words.now k d).now) c.loop-word.word-index c.loop-word.invariant
    (λ d h. subst (λ w. IsUtf8 w.now) (get_or_default c.args.words.now c.loop-word.word-index (record { ref_ptr = (0, 0); now = [] }) d h) c.is_text.ensures)

pub returns : goal.returns
returns c = λ k d h. c.loop-word.invariant k (omega arith) d h
