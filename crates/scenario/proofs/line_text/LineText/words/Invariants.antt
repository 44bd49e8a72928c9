use Rattle.std.proofs.Common.{◌≡◌, ◌≤◌, ◌+◌, ◌*◌, ◌++◌, ◌∷◌, length, take}
use Rattle.std.specs.List.{flat_map}
use Rattle.scenario.specs.Digits.{hex_digits, word_digits}
use Rattle.scenario.proofs.line_text.LineText.words.Given as goal

abbrev pub invariant-loop-word : goal.invariant-loop-word
invariant-loop-word l = record {
  bytes : l.self.bytes ≡ l.initial.self.bytes
      ++ flat_map (λ w. 44 ∷ hex_digits (word_digits l.shape) w) (take l.word-index l.words);
  short : length l.self.bytes ≤ length l.initial.self.bytes + 9 * l.word-index;
  room : l.initial.self.room ≤ l.self.room;
}
