use Rattle.std.proofs.Common.{◌≡◌, ℕ, List, ◌++◌, ◌+◌, ◌*◌, ◌-◌, ◌∷◌, ◌∙◌, take, drop, sym, ap, arith}
use Rattle.std.proofs.lemmas.List.{append-nil, flat_map_more}
use Rattle.std.specs.List.{flat_map}
use Rattle.hex.specs.Hex.{encode_lower}
use Rattle.link_bench.specs.Lines.{pieces_of}
use Rattle.link_bench.proofs.LineLemmas.{pieces-more}
use Rattle.link_bench.proofs.lines.push_octets_line.Goals as goal

pub loop-lane-init : goal.loop-lane-init
unfolding pieces_of
loop-lane-init c = sym (append-nil c.extend_from_slice.new.self.items)

-- one lane more
lane-more : (start old new octets : List ℕ) (f m : ℕ)
    → old ≡ start ++ flat_map (λ lane. 44 ∷ encode_lower lane) (pieces_of f m octets)
    → new ≡ old ++ 44 ∷ encode_lower (take ((m + 1) * f - m * f) (drop (m * f) octets))
    → new ≡ start ++ flat_map (λ lane. 44 ∷ encode_lower lane) (pieces_of f (m + 1) octets)
lane-more start old new octets f m is added =
    let e : (m + 1) * f - m * f ≡ f = omega arith in
    let h : new ≡ old ++ 44 ∷ encode_lower (take f (drop (m * f) octets)) = rw e at added in
    rw (pieces-more f m octets)
    (h ∙ ap (λ t. t ++ 44 ∷ encode_lower (take f (drop (m * f) octets))) is
    ∙ flat_map_more (λ lane. 44 ∷ encode_lower lane) start (pieces_of f m octets)
    (take f (drop (m * f) octets)))

pub loop-lane-preserved : goal.loop-lane-preserved
loop-lane-preserved c =
    let size = c.frame_octets-size.ensures.value in
    lane-more c.extend_from_slice.new.self.items c.loop-lane.text.items c.push_lane.new.text.items
    c.args.octets.now c.args.shape.now.f c.loop-lane.lane
    c.loop-lane.invariant (rw (← size) c.in_ok-push_lane.ensures)
