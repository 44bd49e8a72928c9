use Rattle.std.proofs.Common.{◌≡◌, ℕ, ◌*◌, ◌+◌, ◌-◌, ◌^◌, ◌<◌, ◌≤◌, ◌%◌, ◌/◌, ◌∙◌, List, arith, ap}
use Rattle.std.specs.Int.{bit_at}
use Rattle.sample_map.specs.kept.Grids.{sizes}
use Rattle.sample_map.specs.kept.Groups.{Grouping, group_bit}
use Rattle.sample_map.proofs.BitLemmas.{behind-lt, bit_at-cut, bit_at-part, bits_behind, cut-lt, one_up-same, up-same}
use Rattle.sample_map.proofs.grid.Grid.octet_at.Goals as goal

pub gathering-preserved : goal.gathering-preserved
gathering-preserved c =
    let width : ℕ = c.args.self.now.width in
    let have : ℕ = c.gathering.have in
    let first : ℕ = 8 * c.args.cursor.place in
    let group : ℕ = c.args.cursor.group in
    let n : ℕ = c.gathering.bits in
    let w : ℕ = c.word_at.result in
    let below : n < 2 ^ have = c.gathering.invariant.below in
    let small : w < 2 ^ width = c.word_at.ensures.below in
    let up : n * 2 ^ width % 2 ^ 64 ≡ n * 2 ^ width = up-same n have width 64 below (omega arith) in
    let place : first + have ≡ c.gathering.next * width = c.gathering.invariant.next in
    rw up (record {
      next = omega arith;
      few = omega arith;
      below = behind-lt n have width w below small;
      bits = bits_behind n have width w (λ j. group_bit (sizes c.args.self.now) c.args.words.now group (first + j)) small c.gathering.invariant.bits
          (λ j lt.
          let e : c.gathering.next * width + j ≡ first + (have + j) = omega arith in
          let h : bit_at w (width - 1 - j) ≡ group_bit (sizes c.args.self.now) c.args.words.now group (c.gathering.next * width + j) = c.word_at.ensures.bits j lt in
          rw e at h);
    })

-- the first eight bits of those that were gathered
first_eight : (g : Grouping) (words : List ℕ) (group place bits have : ℕ) → 8 ≤ have
    → ((j : ℕ) → j < have → bit_at bits (have - 1 - j) ≡ group_bit g words group (8 * place + j))
    → (i : ℕ) → i < 8 → bit_at (bits / 2 ^ (have - 8) % 2 ^ 8) (7 - i) ≡ group_bit g words group (8 * place + i)
first_eight g words group place bits have enough each i lt =
    let e : have - 8 + (7 - i) ≡ have - 1 - i = omega arith in
    let in_octet : 7 - i < 8 = omega arith in
    bit_at-part bits (have - 8) 8 (7 - i) in_octet ∙ ap (bit_at bits) e ∙ each i (omega arith)

-- the bits behind them
others : (g : Grouping) (words : List ℕ) (group place bits have : ℕ) → 8 ≤ have
    → ((j : ℕ) → j < have → bit_at bits (have - 1 - j) ≡ group_bit g words group (8 * place + j))
    → (j : ℕ) → j < have - 8 → bit_at (bits % 2 ^ (have - 8)) (have - 8 - 1 - j) ≡ group_bit g words group (8 * (place + 1) + j)
others g words group place bits have enough each j lt =
    let e : have - 8 - 1 - j ≡ have - 1 - (8 + j) = omega arith in
    let at : 8 * place + (8 + j) ≡ 8 * (place + 1) + j = omega arith in
    let in_bits : have - 8 - 1 - j < have - 8 = omega arith in
    bit_at-cut bits (have - 8) (have - 8 - 1 - j) in_bits ∙ ap (bit_at bits) e ∙ each (8 + j) (omega arith) ∙ ap (group_bit g words group) at

pub returns-then-place-self-clause-octet : goal.returns-then-place-self-clause-octet
returns-then-place-self-clause-octet c =
    first_eight (sizes c.args.self.now) c.args.words.now c.args.cursor.group c.args.cursor.place c.gathering.bits c.gathering.have c.gathering-test.false c.gathering.invariant.bits

pub returns-clause-octet : goal.returns-clause-octet
returns-clause-octet c =
    first_eight (sizes c.args.self.now) c.args.words.now c.args.cursor.group c.args.cursor.place c.gathering.bits c.gathering.have c.gathering-test.false c.gathering.invariant.bits

pub returns-clause-holds : goal.returns-clause-holds
returns-clause-holds c =
    let have : ℕ = c.gathering.have in
    let enough : 8 ≤ have = c.gathering-test.false in
    let place : 8 * c.args.cursor.place + have ≡ c.gathering.next * c.args.self.now.width = c.gathering.invariant.next in
    let few : have ≤ 7 + c.args.self.now.width = c.gathering.invariant.few in
    let in_group : c.args.cursor.place < c.args.self.now.octets = c.requires.holds.in_group in
    let mask : 1 * 2 ^ (have - 8) % 2 ^ 64 ≡ 2 ^ (have - 8) = one_up-same (have - 8) 64 (omega arith) in
    rw mask (record {
      in_group = omega arith;
      next = omega arith;
      few = omega arith;
      below = cut-lt c.gathering.bits (have - 8);
      bits = others (sizes c.args.self.now) c.args.words.now c.args.cursor.group c.args.cursor.place c.gathering.bits have enough c.gathering.invariant.bits;
    })
