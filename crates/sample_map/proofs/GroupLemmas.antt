-- Bits of groups.
use Rattle.std.proofs.Common.{◌≡◌, ℕ, ◌+◌, ◌-◌, ◌*◌, ◌/◌, ◌%◌, ◌^◌, ◌<◌, ◌≤◌, ◌∙◌, List, length, get_or, sym, ap, refl, inl, inr, arith}
use Rattle.std.specs.Prelude.{slice_index}
use Rattle.std.proofs.Math.Nat.{mul-le-mul_right}
use Rattle.std.proofs.lemmas.Bool.{cases_lt, lt-ltb, le-ltb}
use Rattle.std.proofs.lemmas.Nat.{div-mul-add, mod-mul-add, mul-add-lt}
use Rattle.std.proofs.lemmas.List.{get_or-set_other, get_or-set_same}
use Rattle.std.proofs.Math.ListN.{set}
use Rattle.std.specs.Int.{bit_at}
use Rattle.sample_map.specs.kept.Groups.{Grouping, HasOctet, bit_in_word, group_bit}
use Rattle.sample_map.proofs.BitLemmas.{bit_at-up_low, bit_at-up_high}

-- bit b of word i of a group
pub group_bit-at : (g : Grouping) (words : List ℕ) (group i b : ℕ) → i < g.words → b < g.width
    → group_bit g words group (i * g.width + b) ≡ bit_in_word g (slice_index words (group * g.words + i)) b
group_bit-at g words group i b in_group in_word =
    let d = div-mul-add i g.width b in_word in
    let m = mod-mul-add i g.width b in_word in
    let t = lt-ltb (i * g.width + b) (g.words * g.width) (let h : i * g.width + b < g.words * g.width = omega (arith, mul-add-lt i g.width b g.words in_group in_word) in h) in
    rw (t, d, m) refl

-- behind the words of a group
pub group_bit-behind : (g : Grouping) (words : List ℕ) (group i b : ℕ) → g.words ≤ i → group_bit g words group (i * g.width + b) ≡ 0
group_bit-behind g words group i b past =
    let p : g.words * g.width ≤ i * g.width = mul-le-mul_right g.width past in
    let t = le-ltb (i * g.width + b) (g.words * g.width) (omega arith) in
    rw t refl

-- the bits of a word with its tail bits behind it
pub bits_of_word : (g : Grouping) (v b : ℕ) → g.used ≤ g.width → b < g.width
    → bit_at (v * 2 ^ (g.width - g.used)) (g.width - 1 - b) ≡ bit_in_word g v b
bits_of_word g v b fits lt = elim (cases_lt b g.used) [
  | inl used ↦
      let t = lt-ltb b g.used used in
      let e : g.width - 1 - b - (g.width - g.used) ≡ g.used - 1 - b = omega arith in
      rw t (bit_at-up_high v (g.width - g.used) (g.width - 1 - b) (omega arith) ∙ ap (bit_at v) e)
  | inr tail ↦
      let t = le-ltb b g.used tail in
      rw t (bit_at-up_low v (g.width - g.used) (g.width - 1 - b) (omega arith))
]

-- octet k of all groups from its bits in its group
pub has_octet : (g : Grouping) (words : List ℕ) (k group place octet : ℕ) → group * g.octets + place ≡ k → place < g.octets
    → ((i : ℕ) → i < 8 → bit_at octet (7 - i) ≡ group_bit g words group (8 * place + i)) → HasOctet g words k octet
has_octet g words k group place octet e lt bits i in_octet =
    let d : k / g.octets ≡ group = ap (λ x. x / g.octets) (sym e) ∙ div-mul-add group g.octets place lt in
    let m : k % g.octets ≡ place = ap (λ x. x % g.octets) (sym e) ∙ mod-mul-add group g.octets place lt in
    rw (d, m) (bits i in_octet)

-- one more octet is written
pub octet_more : (g : Grouping) (words out : List ℕ) (k octet : ℕ) → k < length out → HasOctet g words k octet
    → ((j : ℕ) → j < k → HasOctet g words j (get_or out j 0)) → (j : ℕ) → j < k + 1 → HasOctet g words j (get_or (set out k octet) j 0)
octet_more g words out k octet lt here before j below i in_octet = elim (cases_lt j k) [
  | inl low ↦ rw (get_or-set_other out k j octet 0 (λ e. omega arith)) (before j low i in_octet)
  | inr high ↦ let e : j ≡ k = omega arith in rw (e, get_or-set_same out k octet 0 lt) (here i in_octet)
]

pub below_more : (out : List ℕ) (k octet : ℕ) → k < length out → octet < 256
    → ((j : ℕ) → j < k → get_or out j 0 < 256) → (j : ℕ) → j < k + 1 → get_or (set out k octet) j 0 < 256
below_more out k octet lt here before j below = elim (cases_lt j k) [
  | inl low ↦ rw (get_or-set_other out k j octet 0 (λ e. omega arith)) (before j low)
  | inr high ↦ let e : j ≡ k = omega arith in rw (e, get_or-set_same out k octet 0 lt) here
]
