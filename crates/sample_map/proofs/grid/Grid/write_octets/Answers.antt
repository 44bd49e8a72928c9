use Rattle.std.proofs.Common.{◌≡◌, ◌*◌, ◌-◌, ◌^◌, length, arith}
use Rattle.std.specs.Prelude.{slice_index}
use Rattle.sample_map.specs.kept.Grids.{sizes}
use Rattle.sample_map.proofs.WholeLemmas.{all_octets, all_pairs, is_whole, single_octet}
use Rattle.sample_map.proofs.grid.Grid.write_octets.Goals as goal

pub write_pairs-requires-clause-octets : goal.write_pairs-requires-clause-octets
write_pairs-requires-clause-octets c =
    all_octets (sizes c.args.self.now) 2 (length c.args.words.now) (length c.args.out.now)
    (is_whole c.args.self.now 2 (omega arith) c.in-2.is) c.requires.groups

pub returns-in-1-clause-octets : goal.returns-in-1-clause-octets
returns-in-1-clause-octets c = λ k lt.
    let is = is_whole c.args.self.now 1 (omega arith) c.in-1.is in
    let whole : length c.args.out.now ≡ 1 * length c.args.words.now
    = all_octets (sizes c.args.self.now) 1 (length c.args.words.now) (length c.args.out.now) is c.requires.groups in
    let written : slice_index c.write_singles.new.out k ≡ slice_index c.args.words.now k * 2 ^ (c.args.self.now.width - c.args.self.now.used)
    = c.write_singles.ensures k (omega arith) in
    rw written (single_octet (sizes c.args.self.now) c.args.words.now k is)

pub returns-in-2-clause-octets : goal.returns-in-2-clause-octets
returns-in-2-clause-octets c =
    let is = is_whole c.args.self.now 2 (omega arith) c.in-2.is in
    let whole : length c.args.out.now ≡ 2 * length c.args.words.now
    = all_octets (sizes c.args.self.now) 2 (length c.args.words.now) (length c.args.out.now) is c.requires.groups in
    all_pairs (sizes c.args.self.now) c.args.words.now c.write_pairs.new.out is (omega arith)
    c.write_pairs.ensures.first c.write_pairs.ensures.second
