use Rattle.std.proofs.Common.{◌≡◌, ◌∙◌, ap, arith, None}
use Rattle.link_params.specs.Laws.{broken_law}
use Rattle.sample_map.specs.kept.Groups.{grouping}
use Rattle.sample_map.specs.kept.Grids.{sizes}
use Rattle.sample_map.proofs.SeveralLemmas.{all_words_within, are_frames, as_many_of_all}
use Rattle.sample_map.proofs.layout.Layout.map_frames.Goals as goal

pub write_octets-requires-clause-within : goal.write_octets-requires-clause-within
write_octets-requires-clause-within g c =
    let e : sizes c.self.inside.grid ≡ grouping c.args.self.now = c.self.invariant.0 ∙ ap grouping c.self.view_is in
    let legal : broken_law c.args.self.now ≡ None = rw c.self.view_is at c.self.invariant.1 in
    all_words_within (sizes c.self.inside.grid) c.args.self.now e legal g.n c.args.words.now c.args.octets.now c.requires.0 c.requires.1.1

pub write_octets-requires-clause-groups : goal.write_octets-requires-clause-groups
write_octets-requires-clause-groups g c =
    let e : sizes c.self.inside.grid ≡ grouping c.args.self.now = c.self.invariant.0 ∙ ap grouping c.self.view_is in
    let legal : broken_law c.args.self.now ≡ None = rw c.self.view_is at c.self.invariant.1 in
    as_many_of_all (sizes c.self.inside.grid) c.args.self.now e legal g.n c.args.words.now c.args.octets.now c.requires.0 c.requires.1.1

pub returns : goal.returns
returns g c =
    let e : sizes c.self.inside.grid ≡ grouping c.args.self.now = c.self.invariant.0 ∙ ap grouping c.self.view_is in
    let legal : broken_law c.args.self.now ≡ None = rw c.self.view_is at c.self.invariant.1 in
    are_frames (sizes c.self.inside.grid) c.args.self.now e legal g.n c.args.words.now c.write_octets.new.out (omega arith) c.write_octets.ensures.below c.write_octets.ensures.octets
