-- Several frames, one after the other.
use Rattle.std.proofs.Common.{◌≡◌, ℕ, ◌+◌, ◌-◌, ◌*◌, ◌/◌, ◌%◌, ◌<◌, ◌≤◌, ◌∙◌, List, length, take, drop, sym, ap, refl, inl, inr, None, arith, get_or-drop, get_or-take}
use Rattle.std.specs.Prelude.{slice_index}
use Rattle.std.proofs.Math.Nat.{mul-le-mul_right}
use Rattle.std.proofs.lemmas.Bool.{cases_lt, lt-ltb, le-ltb}
use Rattle.std.proofs.lemmas.List.{length-take-le, length-drop}
use Rattle.std.proofs.lemmas.Nat.{div-mul-add, mod-mul-add, mul-add-lt}
use Rattle.std.specs.Int.{bit_at}
use Rattle.link_params.specs.declared.fields.Params.{Params}
use Rattle.link_params.specs.Laws.{broken_law}
use Rattle.sample_map.specs.kept.Groups.{Grouping, HasOctet, bit_in_word, group_bit, grouping, groups}
use Rattle.sample_map.specs.Layout.{IsFrame}
use Rattle.sample_map.proofs.SizeLemmas.{AreGroups}
use Rattle.sample_map.proofs.PlaceLemmas.{group-lt, group_within}
use Rattle.sample_map.proofs.FrameLemmas.{groups_of, is_frame_of, same_groups}

-- the items of part i, where each part has `size` of them
abbrev pub part : ℕ → ℕ → List ℕ → List ℕ
part size i xs = take size (drop (i * size) xs)

part-at : (xs : List ℕ) (size i k : ℕ) → k < size → slice_index (part size i xs) k ≡ slice_index xs (i * size + k)
part-at xs size i k lt = get_or-take size (drop (i * size) xs) k 0 lt ∙ get_or-drop (i * size) xs k 0

part-within : (n size i k : ℕ) → i < n → k < size → i * size + k < n * size
part-within n size i k lt in_part = omega (arith, mul-add-lt i size k n lt in_part)

part-length : (xs : List ℕ) (n size i : ℕ) → length xs ≡ n * size → i < n → length (part size i xs) ≡ size
part-length xs n size i len lt =
    let h : (i + 1) * size ≤ n * size = mul-le-mul_right size (let q : i + 1 ≤ n = omega arith in q) in
    let rest : size ≤ length (drop (i * size) xs) = rw length-drop (omega arith) in
    length-take-le size (drop (i * size) xs) rest

-- a bit of a group, among the words of its frame alone
group_bit-part : (g : Grouping) (count size : ℕ) → count * g.words ≡ size → 0 < g.width → (words : List ℕ) (i group x : ℕ) → group < count
    → group_bit g words (i * count + group) x ≡ group_bit g (part size i words) group x
group_bit-part g count size all width words i group x lt = elim (cases_lt x (g.words * g.width)) [
  | inl some ↦
      let at : x / g.width < g.words = group-lt x g.width g.words width some in
      let within = mul-add-lt group g.words (x / g.width) count lt at in
      let below : group * g.words + x / g.width < size = omega arith in
      let e : (i * count + group) * g.words + x / g.width ≡ i * (count * g.words) + (group * g.words + x / g.width) = omega arith in
      let whole : i * (count * g.words) ≡ i * size = ap (λ n. i * n) all in
      let place : (i * count + group) * g.words + x / g.width ≡ i * size + (group * g.words + x / g.width) = omega arith in
      let t = lt-ltb x (g.words * g.width) some in
      rw t (ap (λ w. bit_in_word g w (x % g.width)) (ap (slice_index words) place ∙ sym (part-at words size i (group * g.words + x / g.width) below)))
  | inr past ↦ let t = le-ltb x (g.words * g.width) past in rw t refl
]

-- an octet, among those of its frame alone
has_octet-part : (g : Grouping) (count size octets : ℕ) → AreGroups g count size octets → (words : List ℕ) (i k octet : ℕ) → k < octets
    → HasOctet g words (i * octets + k) octet → HasOctet g (part size i words) k octet
has_octet-part g count size octets are words i k octet lt has b in_octet =
    let some = are.octets_some in
    let width : 0 < g.width = (let a = are.used_some in let c = are.used_fit in omega arith) in
    let all = are.all_octets in
    let below : k % g.octets < g.octets = omega arith in
    let whole : i * (count * g.octets) ≡ i * octets = ap (λ n. i * n) all in
    let e : i * octets + k ≡ (i * count + k / g.octets) * g.octets + k % g.octets = omega arith in
    let d : (i * octets + k) / g.octets ≡ i * count + k / g.octets = ap (λ x. x / g.octets) e ∙ div-mul-add (i * count + k / g.octets) g.octets (k % g.octets) below in
    let m : (i * octets + k) % g.octets ≡ k % g.octets = ap (λ x. x % g.octets) e ∙ mod-mul-add (i * count + k / g.octets) g.octets (k % g.octets) below in
    let group : k / g.octets < count = group-lt k g.octets count some (omega arith) in
    let h : bit_at octet (7 - b) ≡ group_bit g words (i * count + k / g.octets) (8 * (k % g.octets) + b) = rw (d, m) at has b in_octet in
    h ∙ group_bit-part g count size are.all_words width words i (k / g.octets) (8 * (k % g.octets) + b) group

-- n frames from the octets of their groups
pub are_frames : (g : Grouping) (p : Params) → g ≡ grouping p → broken_law p ≡ None → (n : ℕ) (words out : List ℕ) → length out ≡ n * (p.l * p.f)
    → ((k : ℕ) → k < length out → slice_index out k < 256)
    → ((k : ℕ) → k < length out → HasOctet g words k (slice_index out k))
    → (i : ℕ) → i < n → IsFrame p (take (p.m * p.s) (drop (i * (p.m * p.s)) words)) (take (p.l * p.f) (drop (i * (p.l * p.f)) out))
are_frames g p e legal n words out len below each i lt =
    let octets : ℕ = p.l * p.f in
    let size : length (part octets i out) ≡ octets = part-length out n octets i len lt in
    is_frame_of g p e legal (part (p.m * p.s) i words) (part octets i out) size
    (λ k in_part.
    let here : k < octets = omega arith in
    let within = part-within n octets i k lt here in
    rw (part-at out octets i k here) (below (i * octets + k) (omega arith)))
    (λ k in_part.
    let here : k < octets = omega arith in
    let within = part-within n octets i k lt here in
    rw (part-at out octets i k here)
    (has_octet-part g (groups p) (p.m * p.s) octets (groups_of g p e legal) words i k (slice_index out (i * octets + k)) here
    (each (i * octets + k) (omega arith))))

-- the groups of n frames
pub all_words_within : (g : Grouping) (p : Params) → g ≡ grouping p → broken_law p ≡ None → (n : ℕ) (words octets : List ℕ)
    → length words ≡ n * (p.m * p.s) → length octets ≡ n * (p.l * p.f) → (k : ℕ) → k < length octets → (k / g.octets + 1) * g.words ≤ length words
all_words_within g p e legal n words octets some all k lt =
    let are = groups_of g p e legal in
    let w : n * groups p * g.words ≡ length words = omega arith ∙ ap (λ x. n * x) are.all_words ∙ sym some in
    let o : n * groups p * g.octets ≡ length octets = omega arith ∙ ap (λ x. n * x) are.all_octets ∙ sym all in
    let h = group_within k g.octets (n * groups p) g.words are.octets_some (omega arith) in
    omega arith

pub as_many_of_all : (g : Grouping) (p : Params) → g ≡ grouping p → broken_law p ≡ None → (n : ℕ) (words octets : List ℕ)
    → length words ≡ n * (p.m * p.s) → length octets ≡ n * (p.l * p.f) → length octets * g.words ≡ length words * g.octets
as_many_of_all g p e legal n words octets some all =
    let are = groups_of g p e legal in
    let w : n * groups p * g.words ≡ length words = omega arith ∙ ap (λ x. n * x) are.all_words ∙ sym some in
    let o : n * groups p * g.octets ≡ length octets = omega arith ∙ ap (λ x. n * x) are.all_octets ∙ sym all in
    same_groups (n * groups p) g.words g.octets (length words) (length octets) w o
