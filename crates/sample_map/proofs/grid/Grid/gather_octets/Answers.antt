use Rattle.std.proofs.Common.{◌≡◌, ℕ, ◌+◌, ◌/◌, ◌∙◌, arith, ap, sym}
use Rattle.std.proofs.lemmas.Nat.{div-mul-add}
use Rattle.sample_map.specs.kept.Grids.{sizes}
use Rattle.sample_map.proofs.GroupLemmas.{below_more, has_octet, octet_more}
use Rattle.sample_map.proofs.grid.Grid.gather_octets.Goals as goal

pub octet_at-value-requires-clause-group : goal.octet_at-value-requires-clause-group
octet_at-value-requires-clause-group c =
    let k : ℕ = c.loop-octet.octet-index in
    let octets : ℕ = c.args.self.now.octets in
    let group : ℕ = c.loop-octet.cursor.group in
    let d : k / octets ≡ group
    = ap (λ x. x / octets) (sym c.loop-octet.invariant.place) ∙ div-mul-add group octets c.loop-octet.cursor.place c.loop-octet.invariant.holds.in_group in
    let h = c.requires.within k (omega arith) in
    rw d at h

pub loop-octet-preserved : goal.loop-octet-preserved
loop-octet-preserved c =
    let k : ℕ = c.loop-octet.octet-index in
    let cursor = c.loop-octet.cursor in
    let place = c.loop-octet.invariant.place in
    let here = has_octet (sizes c.args.self.now) c.args.words.now k cursor.group cursor.place c.octet_at-value.result.0 place c.loop-octet.invariant.holds.in_group c.octet_at-value.ensures.octet in
    record {
      place = c.octet_at-value.ensures.next ∙ ap (λ x. x + 1) place;
      holds = c.octet_at-value.ensures.holds;
      below = below_more c.loop-octet.out k c.octet_at-value.result.0 (omega arith) c.octet_at-value.ensures.below c.loop-octet.invariant.below;
      written = octet_more (sizes c.args.self.now) c.args.words.now c.loop-octet.out k c.octet_at-value.result.0 (omega arith) here c.loop-octet.invariant.written;
    }
