-- Places of bits, by groups.
use Rattle.std.proofs.Common.{◌≡◌, ℕ, ◌+◌, ◌-◌, ◌*◌, ◌/◌, ◌%◌, ◌<◌, ◌≤◌, ◌∙◌, sym, List, ap, refl, inl, inr, arith}
use Rattle.std.specs.Prelude.{slice_index}
use Rattle.std.proofs.Math.Nat.{mul-le-mul_right, div-eq_of_lt, mod-eq_of_lt}
use Rattle.std.proofs.lemmas.Bool.{cases_Bool, cases_lt}
use Rattle.std.proofs.lemmas.Nat.{div-mul-add, mod-mul-add, mul-add-lt}
use Rattle.std.specs.Int.{bit_at}
use Rattle.link_params.specs.declared.fields.Params.{Params}
use Rattle.sample_map.specs.kept.Groups.{Grouping, grouping}
use Rattle.sample_map.specs.Layout.{place, frame_bit}
use Rattle.sample_map.proofs.SizeLemmas.{AreGroups}

-- the place of bit b of word r
abbrev pub group_place : Grouping → ℕ → ℕ → ℕ
group_place g r b = r / g.words * (8 * g.octets) + (r % g.words * g.width + b)

pub place-groups : (p : Params) (r b : ℕ) → r < p.m * p.s → place p r b ≡ group_place (grouping p) r b
place-groups p r b lt = elim (cases_Bool p.hd) [
  | inl t ↦
      let d = div-eq_of_lt lt in
      let m = mod-eq_of_lt lt in
      rw t (rw (d, m) (omega arith))
  | inr f ↦ rw f refl
]

-- the group of an item, from the number of all
pub group-lt : (k n count : ℕ) → 0 < n → k < count * n → k / n < count
group-lt k n count some lt = elim (cases_lt (k / n) count) [
  | inl below ↦ below
  | inr past ↦ let h : count * n ≤ k / n * n = mul-le-mul_right n past in absurd (omega arith)
]

-- all items of the group of an item are among the items
pub group_within : (k n count m : ℕ) → 0 < n → k < count * n → (k / n + 1) * m ≤ count * m
group_within k n count m some lt = mul-le-mul_right m (let h = group-lt k n count some lt in let q : k / n + 1 ≤ count = omega arith in q)

-- an octet of a group
pub frame_bit-at : (octets : List ℕ) (n group x : ℕ)
    → frame_bit octets (group * (8 * n) + x) ≡ bit_at (slice_index octets (group * n + x / 8)) (7 - x % 8)
frame_bit-at octets n group x =
    let e : group * (8 * n) + x ≡ (group * n + x / 8) * 8 + x % 8 = omega arith in
    let lt : x % 8 < 8 = omega arith in
    let d : (group * (8 * n) + x) / 8 ≡ group * n + x / 8 = ap (λ q. q / 8) e ∙ div-mul-add (group * n + x / 8) 8 (x % 8) lt in
    let m : (group * (8 * n) + x) % 8 ≡ x % 8 = ap (λ q. q % 8) e ∙ mod-mul-add (group * n + x / 8) 8 (x % 8) lt in
    rw (d, m) refl

-- a word's bit lies in its group
pub in_group-lt : (g : Grouping) (count words octets r b : ℕ) → AreGroups g count words octets → b < g.width → r % g.words * g.width + b < 8 * g.octets
in_group-lt g count words octets r b are lt =
    let some = are.words_some in
    let fits = are.words_fit in
    let h = mul-add-lt (r % g.words) g.width b g.words (omega arith) lt in
    omega arith

pub group_place-lt : (g : Grouping) (count words octets r b : ℕ) → AreGroups g count words octets → r < words → b < g.width → group_place g r b < 8 * octets
group_place-lt g count words octets r b are in_words in_word =
    let x = in_group-lt g count words octets r b are in_word in
    let all = are.all_words in
    let all_octets = are.all_octets in
    let in_groups = group-lt r g.words count are.words_some (omega arith) in
    let h = mul-add-lt (r / g.words) (8 * g.octets) (r % g.words * g.width + b) count in_groups x in
    omega arith

-- two bits at the same place are one
pub group_place-apart : (g : Grouping) (count words octets r b word bit : ℕ) → AreGroups g count words octets → b < g.width → bit < g.width
    → group_place g r b ≡ group_place g word bit → (r ≡ word) × (b ≡ bit)
group_place-apart g count words octets r b word bit are lt other e =
    let x : ℕ = r % g.words * g.width + b in
    let y : ℕ = word % g.words * g.width + bit in
    let in_x = in_group-lt g count words octets r b are lt in
    let in_y = in_group-lt g count words octets word bit are other in
    let size : ℕ = 8 * g.octets in
    let group : r / g.words ≡ word / g.words
    = sym (div-mul-add (r / g.words) size x in_x) ∙ ap (λ q. q / size) e ∙ div-mul-add (word / g.words) size y in_y in
    let same : x ≡ y = sym (mod-mul-add (r / g.words) size x in_x) ∙ ap (λ q. q % size) e ∙ mod-mul-add (word / g.words) size y in_y in
    let place : r % g.words ≡ word % g.words
    = sym (div-mul-add (r % g.words) g.width b lt) ∙ ap (λ q. q / g.width) same ∙ div-mul-add (word % g.words) g.width bit other in
    let bits : b ≡ bit = sym (mod-mul-add (r % g.words) g.width b lt) ∙ ap (λ q. q % g.width) same ∙ mod-mul-add (word % g.words) g.width bit other in
    let whole : r / g.words * g.words + r % g.words ≡ r = omega arith in
    let whole_word : word / g.words * g.words + word % g.words ≡ word = omega arith in
    let moved : word / g.words * g.words + word % g.words ≡ r = rw (group, place) at whole in
    (sym moved ∙ whole_word, bits)
