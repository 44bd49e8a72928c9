use Rattle.std.proofs.Common.{◌≡◌, ◌*◌, ℕ, List, length}
use Rattle.std.specs.List.{flat_map}
use Rattle.sample_map.specs.Layout.{IsFrame}
use Rattle.link_bench.specs.Lines.{pieces_of, Each, octets_line}
use Rattle.link_bench.proofs.lines.mapped.Given as goal

abbrev pub invariant-loop-frame : goal.invariant-loop-frame
invariant-loop-frame l = record {
  octets : length l.octets.items ≡ l.shape.l * l.shape.f;
  digits : length l.digits.items ≡ 2 * l.shape.f;
  lines : (frames : List (List ℕ))
      × Each (IsFrame l.shape) (pieces_of (l.shape.m * l.shape.s) l.frame l.words) frames
      × (l.text.items ≡ flat_map (octets_line l.shape) frames);
}
