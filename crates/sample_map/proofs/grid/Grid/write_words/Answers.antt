use Rattle.std.proofs.Common.{ℕ, ◌+◌, ◌*◌, ◌<◌, length, arith}
use Rattle.std.specs.Prelude.{slice_index}
use Rattle.sample_map.specs.kept.Grids.{sizes}
use Rattle.sample_map.proofs.WholeLemmas.{all_octets, is_whole, pair_word, single_word, without_tail}
use Rattle.sample_map.proofs.grid.Grid.write_words.Goals as goal

pub read_pairs-requires-clause-octets : goal.read_pairs-requires-clause-octets
read_pairs-requires-clause-octets c =
    all_octets (sizes c.args.self.now) 2 (length c.args.words.now) (length c.args.octets.now)
    (is_whole c.args.self.now 2 (omega arith) c.in-2.is) c.requires.groups

pub returns-in-1-clause-below : goal.returns-in-1-clause-below
returns-in-1-clause-below c = λ r lt.
    let is = is_whole c.args.self.now 1 (omega arith) c.in-1.is in
    let octet : slice_index c.args.octets.now r < 256 = omega (arith, c.type_inv.octets r) in
    rw (c.read_singles.ensures r lt) (without_tail (sizes c.args.self.now) 1 (slice_index c.args.octets.now r) is octet)

pub returns-in-1-clause-bits : goal.returns-in-1-clause-bits
returns-in-1-clause-bits c = λ r lt.
    let is = is_whole c.args.self.now 1 (omega arith) c.in-1.is in
    rw (c.read_singles.ensures r lt) (single_word (sizes c.args.self.now) c.args.octets.now r is)

pub returns-in-2-clause-below : goal.returns-in-2-clause-below
returns-in-2-clause-below c = λ r lt.
    let is = is_whole c.args.self.now 2 (omega arith) c.in-2.is in
    let first : slice_index c.args.octets.now (2 * r) < 256 = omega (arith, c.type_inv.octets (2 * r)) in
    let second : slice_index c.args.octets.now (2 * r + 1) < 256 = omega (arith, c.type_inv.octets (2 * r + 1)) in
    let n : ℕ = slice_index c.args.octets.now (2 * r) * 256 + slice_index c.args.octets.now (2 * r + 1) in
    let pair : n < 65536 = omega arith in
    rw (c.read_pairs.ensures r lt) (without_tail (sizes c.args.self.now) 2 n is pair)

pub returns-in-2-clause-bits : goal.returns-in-2-clause-bits
returns-in-2-clause-bits c = λ r lt.
    let is = is_whole c.args.self.now 2 (omega arith) c.in-2.is in
    let second : slice_index c.args.octets.now (2 * r + 1) < 256 = omega (arith, c.type_inv.octets (2 * r + 1)) in
    rw (c.read_pairs.ensures r lt) (pair_word (sizes c.args.self.now) c.args.octets.now r is second)
