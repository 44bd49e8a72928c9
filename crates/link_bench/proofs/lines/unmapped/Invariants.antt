use Rattle.std.proofs.Common.{◌≡◌, ◌*◌, ℕ, List, length}
use Rattle.std.specs.List.{flat_map}
use Rattle.sample_map.specs.Layout.{AreWords}
use Rattle.link_bench.specs.Lines.{pieces_of, Each, frame_line}
use Rattle.link_bench.proofs.lines.unmapped.Given as goal

abbrev pub invariant-loop-frame : goal.invariant-loop-frame
invariant-loop-frame l = record {
  words : length l.words.items ≡ l.shape.m * l.shape.s;
  lines : (frames : List (List ℕ))
      × Each (AreWords l.shape) (pieces_of (l.shape.l * l.shape.f) l.frame l.octets) frames
      × (l.text.items ≡ flat_map (frame_line l.shape) frames);
}
