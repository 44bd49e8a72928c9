use Rattle.std.proofs.Common.{◌≡◌, ℕ, ◌<◌, ◌≤◌, ◌*◌, ◌^◌, ◌-◌, ◌+◌, ◌/◌, ◌%◌, ◌∙◌, List, ap, refl, arith, get_or}
use Rattle.std.specs.Int.{bit_at}
use Rattle.sample_map.proofs.BitLemmas.{behind-lt, bit_at-part, bits_behind, one_up-same, up-same}
use Rattle.sample_map.proofs.grid.Grid.word_from.Goals as goal

-- eight more bits, of octet h / 8 from the first
next_octet : (octets : List ℕ) (from at h v : ℕ) → 8 * at ≡ 8 * from + h → v ≡ get_or octets at 0
    → (j : ℕ) → j < 8 → bit_at v (8 - 1 - j) ≡ bit_at (get_or octets (from + (h + j) / 8) 0) (7 - (h + j) % 8)
next_octet octets from at h v place e j lt =
    let at_is : from + (h + j) / 8 ≡ at = omega arith in
    let bit_is : 7 - (h + j) % 8 ≡ 8 - 1 - j = omega arith in
    rw (at_is, bit_is, e) refl

pub gathering-preserved : goal.gathering-preserved
gathering-preserved c =
    let from : ℕ = c.args.r / c.args.self.now.words * c.args.self.now.octets + c.args.r % c.args.self.now.words * c.args.self.now.width / 8 in
    let have : ℕ = c.gathering.have in
    let n : ℕ = c.gathering.bits in
    let v : ℕ = c.from.result in
    let below : n < 2 ^ have = c.gathering.invariant.below in
    let small : v < 2 ^ 8 = omega (arith, c.type_inv.octets c.gathering.at) in
    let up : n * 2 ^ 8 % 2 ^ 64 ≡ n * 2 ^ 8 = up-same n have 8 64 below (omega arith) in
    let place : 8 * c.gathering.at ≡ 8 * from + have = c.gathering.invariant.place in
    rw up (record {
      place = omega arith;
      have = omega arith;
      below = behind-lt n have 8 v below small;
      bits = bits_behind n have 8 v (λ j. bit_at (get_or c.args.octets.now (from + j / 8) 0) (7 - j % 8)) small c.gathering.invariant.bits
          (next_octet c.args.octets.now from c.gathering.at have v place c.from.ensures);
    })

pub returns-clause-bits : goal.returns-clause-bits
returns-clause-bits c = λ b lt.
    let used : ℕ = c.args.self.now.used in
    let first : ℕ = c.args.r % c.args.self.now.words * c.args.self.now.width in
    let group : ℕ = c.args.r / c.args.self.now.words * c.args.self.now.octets in
    let due : ℕ = first % 8 + used in
    let have : ℕ = c.gathering.have in
    let enough : due ≤ have = c.gathering-test.false in
    let mask : 1 * 2 ^ used % 2 ^ 64 ≡ 2 ^ used = one_up-same used 64 (omega arith) in
    let in_word : used - 1 - b < used = omega arith in
    let e : have - due + (used - 1 - b) ≡ have - 1 - (first % 8 + b) = omega arith in
    let at : group + first / 8 + (first % 8 + b) / 8 ≡ group + (first + b) / 8 = omega arith in
    let bit_is : (first % 8 + b) % 8 ≡ (first + b) % 8 = omega arith in
    let h : bit_at c.gathering.bits (have - 1 - (first % 8 + b)) ≡ bit_at (get_or c.args.octets.now (group + first / 8 + (first % 8 + b) / 8) 0) (7 - (first % 8 + b) % 8)
    = c.gathering.invariant.bits (first % 8 + b) (omega arith) in
    let k = rw (at, bit_is) at h in
    rw mask (bit_at-part c.gathering.bits (have - due) used (used - 1 - b) in_word ∙ ap (bit_at c.gathering.bits) e ∙ k)
