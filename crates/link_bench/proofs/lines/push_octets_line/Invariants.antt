use Rattle.std.proofs.Common.{◌≡◌, ◌∷◌, ◌++◌}
use Rattle.std.specs.List.{flat_map}
use Rattle.hex.specs.Hex.{encode_lower}
use Rattle.link_bench.specs.Lines.{pieces_of}
use Rattle.link_bench.proofs.lines.push_octets_line.Given as goal

abbrev pub invariant-loop-lane : goal.invariant-loop-lane
invariant-loop-lane l = l.text.items ≡ l.initial.text.items
    ++ flat_map (λ lane. 44 ∷ encode_lower lane) (pieces_of l.shape.f l.lane l.octets)
