use Rattle.std.proofs.Common.{◌≡◌, ◌≤◌, ◌+◌, ◌*◌, ◌++◌, length, decimal, map, take}
use Rattle.scenario.specs.ReportLines.{fields_text}
use Rattle.scenario.proofs.line_text.LineText.numbers.Given as goal

abbrev pub invariant-loop-value : goal.invariant-loop-value
invariant-loop-value l = record {
  bytes : l.self.bytes ≡ l.initial.self.bytes
      ++ fields_text (map decimal (take l.value-index l.values));
  short : length l.self.bytes ≤ length l.initial.self.bytes + 11 * l.value-index;
  room : l.initial.self.room ≤ l.self.room;
}
