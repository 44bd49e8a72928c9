use Rattle.std.proofs.Common.{◌≡◌, ◌+◌, ◌++◌, length, take}
use Rattle.scenario.specs.Digits.{hex_digits}
use Rattle.scenario.proofs.digits.write_digits.Given as goal

abbrev pub invariant-loop-place : goal.invariant-loop-place
invariant-loop-place l = record {
  left : l.left + l.place-index ≡ length l.places;
  digits : take l.place-index l.places ++ hex_digits l.left l.word
      ≡ hex_digits (length l.places) l.word;
}
