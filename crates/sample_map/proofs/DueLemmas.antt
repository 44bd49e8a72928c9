-- The frame of some words and the words of a frame are the only ones.
use Rattle.std.proofs.Common.{◌≡◌, ℕ, zero, suc, ◌+◌, ◌-◌, ◌*◌, ◌/◌, ◌%◌, ◌^◌, ◌<◌, ◌==◌, ◌∙◌, Bool, List, ◌∷◌, map, sym, ap, ap₂, refl, inl, inr, None, zero-add, arith}
use Rattle.std.specs.Prelude.{slice_index, nat_lt, if◌then◌else◌}
use Rattle.std.specs.List.{range_with_len}
use Rattle.std.proofs.Math.Nat.{div-eq_of_lt, mod-eq_of_lt}
use Rattle.std.proofs.lemmas.Bool.{cases_Bool, cases_lt, lt-ltb, le-ltb}
use Rattle.std.proofs.lemmas.List.FromFn.{fill_by_all}
use Rattle.std.proofs.lemmas.Nat.{div-mul-add, mod-mul-add, mul-add-lt}
use Rattle.std.specs.Int.{bit_at}
use Rattle.jesd_base.specs.Bits.{bits, value}
use Rattle.jesd_base.proofs.BitLemmas.{value_of_bits}
use Rattle.link_params.specs.declared.fields.Params.{Params}
use Rattle.link_params.specs.Laws.{broken_law}
use Rattle.sample_map.specs.Frames.{OneFrame, OneReading, bit_due, octet_due, word_due, frame_of, words_of}
use Rattle.sample_map.specs.kept.Groups.{Grouping, bit_in_word, grouping, groups}
use Rattle.sample_map.specs.Layout.{IsFrame, frame_bit, place}
use Rattle.sample_map.proofs.SizeLemmas.{AreGroups, groups_fit}
use Rattle.sample_map.proofs.PlaceLemmas.{group-lt, group_place, in_group-lt, place-groups}

-- a list of bits from those of a number
bits_of_map : (n a x : ℕ) (bit : ℕ → ℕ) → ((j : ℕ) → j < n → bit_at x (n - 1 - j) ≡ bit (a + j))
    → map (λ j. bit j == 1) (range_with_len a n) ≡ bits n x
unfolding bits
bits_of_map zero a x bit each = refl
bits_of_map (suc n) a x bit each =
    let top : suc n - 1 - 0 ≡ n = omega arith in
    let here : a + 0 ≡ a = omega arith in
    let first : bit a ≡ bit_at x n = ap bit (sym here) ∙ sym (each 0 (omega arith)) ∙ ap (bit_at x) top in
    let rest = bits_of_map n (a + 1) x bit (λ j lt.
    let down : n - 1 - j ≡ suc n - 1 - (j + 1) = omega arith in
    let up : a + (j + 1) ≡ a + 1 + j = omega arith in
    ap (bit_at x) down ∙ each (j + 1) (omega arith) ∙ ap bit up) in
    ap₂ {C = List Bool} (λ b bs. b ∷ bs) (ap (λ v. v == 1) first) rest

-- a number of n bits from its bits
number_of_bits : (n x : ℕ) (bit : ℕ → ℕ) → x < 2 ^ n → ((j : ℕ) → j < n → bit_at x (n - 1 - j) ≡ bit j)
    → x ≡ value (map (λ j. bit j == 1) (range_with_len 0 n))
number_of_bits n x bit small each =
    let same = bits_of_map n 0 x bit (λ j lt. each j lt ∙ ap bit (sym (zero-add j))) in
    sym (ap value same ∙ value_of_bits n x ∙ mod-eq_of_lt small)

pub one_reading : OneReading
unfolding words_of
one_reading p octets words legal len are =
    fill_by_all (word_due p octets) words (p.m * p.s) 0 are.whole (λ r lt.
    number_of_bits (p.n + p.cs) (slice_index words r) (λ b. frame_bit octets (place p r b)) (are.below r lt) (λ b in_word. are.bits r b lt in_word))

-- the bit at a place among all bits of all groups
abbrev pub group_due : Grouping → List ℕ → ℕ → ℕ
group_due g words q = let x = q % (8 * g.octets) in
    if nat_lt (x / g.width) g.words then bit_in_word g (slice_index words (q / (8 * g.octets) * g.words + x / g.width)) (x % g.width) else 0

pub due-groups : (p : Params) (words : List ℕ) (q : ℕ) → q < 8 * (p.l * p.f) → bit_due p words q ≡ group_due (grouping p) words q
due-groups p words q lt = elim (cases_Bool p.hd) [
  | inl t ↦
      let d : q / (8 * (p.l * p.f)) ≡ 0 = div-eq_of_lt lt in
      let m : q % (8 * (p.l * p.f)) ≡ q = mod-eq_of_lt lt in
      let first : 0 * (p.m * p.s) + q / p.np ≡ q / p.np = omega arith in
      rw t (rw (d, m, first) refl)
  | inr f ↦ rw f refl
]

-- the bits of the words at their places and 0 at all others are these
group_due-at : (g : Grouping) (count words octets : ℕ) → AreGroups g count words octets → (from out : List ℕ)
    → ((r b : ℕ) → r < words → b < g.width → frame_bit out (group_place g r b) ≡ bit_in_word g (slice_index from r) b)
    → ((q : ℕ) → q < 8 * octets → ((r b : ℕ) → r < words → b < g.width → group_place g r b ≡ q → ⊥) → frame_bit out q ≡ 0)
    → (q : ℕ) → q < 8 * octets → frame_bit out q ≡ group_due g from q
group_due-at g count words octets are from out bits others q in_frame =
    let size = are.octets_some in
    let all = are.all_octets in
    let all_words = are.all_words in
    let width : 0 < g.width = (let a = are.used_some in let b = are.used_fit in omega arith) in
    let group : ℕ = q / (8 * g.octets) in
    let x : ℕ = q % (8 * g.octets) in
    let in_groups : group < count = group-lt q (8 * g.octets) count (omega arith) (omega arith) in
    let q_is : group * (8 * g.octets) + x ≡ q = omega arith in
    elim (cases_lt (x / g.width) g.words) [
      | inl some ↦
          let t = lt-ltb (x / g.width) g.words some in
          let b : x % g.width < g.width = omega arith in
          let d = div-mul-add group g.words (x / g.width) some in
          let m = mod-mul-add group g.words (x / g.width) some in
          let lt = mul-add-lt group g.words (x / g.width) count in_groups some in
          let x_is : x / g.width * g.width + x % g.width ≡ x = omega arith in
          let here : group_place g (group * g.words + x / g.width) (x % g.width) ≡ q = rw (d, m, x_is) q_is in
          let bit = bits (group * g.words + x / g.width) (x % g.width) (omega arith) b in
          rw t (ap (frame_bit out) (sym here) ∙ bit)
      | inr none ↦
          let t = le-ltb (x / g.width) g.words none in
          rw t (others q in_frame (λ r b in_words in_word e.
          let y : ℕ = r % g.words * g.width + b in
          let in_group = in_group-lt g count words octets r b are in_word in
          let same : y ≡ x = sym (mod-mul-add (r / g.words) (8 * g.octets) y in_group) ∙ ap (λ v. v % (8 * g.octets)) e in
          let word : r % g.words ≡ x / g.width = sym (div-mul-add (r % g.words) g.width b in_word) ∙ ap (λ v. v / g.width) same in
          let some = are.words_some in
          let below : r % g.words < g.words = omega arith in
          omega arith))
    ]

-- each bit of a frame
frame_bit-due : (p : Params) → broken_law p ≡ None → (words octets : List ℕ) → IsFrame p words octets
    → (q : ℕ) → q < 8 * (p.l * p.f) → frame_bit octets q ≡ bit_due p words q
frame_bit-due p legal words octets frame q lt =
    group_due-at (grouping p) (groups p) (p.m * p.s) (p.l * p.f) (groups_fit p legal) words octets
    (λ r b in_words in_word. ap (frame_bit octets) (sym (place-groups p r b in_words)) ∙ frame.bits r b in_words in_word)
    (λ q in_frame none. frame.others q in_frame (λ r b in_words in_word e. none r b in_words in_word (sym (place-groups p r b in_words) ∙ e)))
    q lt
    ∙ sym (due-groups p words q lt)

pub one_frame : OneFrame
unfolding frame_of
one_frame p words octets legal fit frame =
    fill_by_all (octet_due p words) octets (p.l * p.f) 0 frame.whole (λ k lt.
    number_of_bits 8 (slice_index octets k) (λ j. bit_due p words (8 * k + j)) (frame.below k lt) (λ j in_octet.
    let e : 8 * k + j ≡ k * 8 + j = omega arith in
    let d : (8 * k + j) / 8 ≡ k = ap (λ q. q / 8) e ∙ div-mul-add k 8 j in_octet in
    let m : (8 * k + j) % 8 ≡ j = ap (λ q. q % 8) e ∙ mod-mul-add k 8 j in_octet in
    let bit : bit_at (slice_index octets ((8 * k + j) / 8)) (7 - (8 * k + j) % 8) ≡ bit_due p words (8 * k + j)
    = frame_bit-due p legal words octets frame (8 * k + j) (omega arith) in
    rw (d, m) at bit))
