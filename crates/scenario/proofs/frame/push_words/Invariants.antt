use Rattle.std.proofs.Common.{◌≡◌, ◌++◌, map, drop}
use Rattle.scenario.specs.Check.{lowest}
use Rattle.scenario.specs.Reads.{texts_of, is_word, word_or_0, words_in_fields}
use Rattle.scenario.proofs.frame.push_words.Given as goal

abbrev pub invariant-loop-at : goal.invariant-loop-at
invariant-loop-at l =
    (lowest l.at (map is_word (drop l.at (texts_of l.row)))
    ≡ lowest 1 (map is_word (drop 1 (texts_of l.row))))
    × (l.words.items ++ map word_or_0 (drop l.at (texts_of l.row)) ≡ l.fn.words.items
    ++ words_in_fields (texts_of l.row))
