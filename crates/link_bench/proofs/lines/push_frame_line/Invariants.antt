use Rattle.std.proofs.Common.{◌≡◌, ◌∷◌, ◌++◌, take}
use Rattle.std.specs.List.{flat_map}
use Rattle.scenario.specs.Digits.{hex_digits, word_digits}
use Rattle.link_bench.proofs.lines.push_frame_line.Given as goal

abbrev pub invariant-loop-word : goal.invariant-loop-word
invariant-loop-word l = l.text.items ≡ l.initial.text.items
    ++ flat_map (λ w. 44 ∷ hex_digits (word_digits l.shape) w) (take l.word-index l.words)
