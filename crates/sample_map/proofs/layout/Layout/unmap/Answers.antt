use Rattle.std.proofs.Common.{◌≡◌, ◌∙◌, ap, arith, None}
use Rattle.link_params.specs.Laws.{broken_law}
use Rattle.sample_map.specs.kept.Groups.{grouping}
use Rattle.sample_map.specs.kept.Grids.{sizes}
use Rattle.sample_map.proofs.FrameLemmas.{are_words_of, as_many_groups, octets_within}
use Rattle.sample_map.proofs.layout.Layout.unmap.Goals as goal

pub write_words-requires : goal.write_words-requires
write_words-requires c =
    let e : sizes c.self.inside.grid ≡ grouping c.args.self.now = c.self.invariant.0 ∙ ap grouping c.self.view_is in
    let legal : broken_law c.args.self.now ≡ None = rw c.self.view_is at c.self.invariant.1 in
    record {
      groups = as_many_groups (sizes c.self.inside.grid) c.args.self.now e legal c.args.words.now c.args.octets.now c.requires.words c.requires.octets;
      within = octets_within (sizes c.self.inside.grid) c.args.self.now e legal c.args.words.now c.args.octets.now c.requires.words c.requires.octets;
    }

pub returns : goal.returns
returns c =
    let e : sizes c.self.inside.grid ≡ grouping c.args.self.now = c.self.invariant.0 ∙ ap grouping c.self.view_is in
    let legal : broken_law c.args.self.now ≡ None = rw c.self.view_is at c.self.invariant.1 in
    are_words_of (sizes c.self.inside.grid) c.args.self.now e legal c.args.octets.now c.write_words.new.words (omega arith) c.write_words.ensures.below c.write_words.ensures.bits
