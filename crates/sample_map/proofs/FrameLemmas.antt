-- From octets and words of groups to frames.
use Rattle.std.proofs.Common.{◌≡◌, ℕ, ◌+◌, ◌-◌, ◌*◌, ◌/◌, ◌%◌, ◌<◌, ◌≤◌, ◌^◌, ◌∙◌, List, length, sym, ap, refl, inl, inr, None, arith}
use Rattle.std.specs.Prelude.{slice_index}
use Rattle.std.proofs.lemmas.Bool.{cases_lt, lt-ltb, le-ltb}
use Rattle.std.proofs.lemmas.Nat.{div-mul-add, mod-mul-add, mul-add-lt}
use Rattle.std.proofs.lemmas.Nat.Bits.{same_from_bits_below}
use Rattle.std.proofs.lemmas.Grind.{same_number_lists}
use Rattle.std.specs.Int.{bit_at}
use Rattle.link_params.specs.declared.fields.Params.{Params}
use Rattle.link_params.specs.Laws.{broken_law}
use Rattle.sample_map.specs.kept.Groups.{Grouping, HasOctet, HasWord, bit_in_word, group_bit, grouping, groups}
use Rattle.sample_map.specs.Layout.{AreWords, IsFrame, frame_bit, place, word_bit}
use Rattle.sample_map.specs.laws.LayoutLaws.{PlacesApart, PlacesFit, ReadsBack}
use Rattle.sample_map.proofs.SizeLemmas.{AreGroups, groups_fit}
use Rattle.sample_map.proofs.GroupLemmas.{group_bit-at}
use Rattle.sample_map.proofs.PlaceLemmas.{frame_bit-at, group-lt, group_place, group_place-apart, group_within, group_place-lt, in_group-lt, place-groups}

-- the bit at place x of a group's octets
octet_bit : (g : Grouping) (count words octets : ℕ) → AreGroups g count words octets → (from out : List ℕ) → length out ≡ octets
    → ((k : ℕ) → k < length out → HasOctet g from k (slice_index out k))
    → (group x : ℕ) → group < count → x < 8 * g.octets → frame_bit out (group * (8 * g.octets) + x) ≡ group_bit g from group x
octet_bit g count words octets are from out len each group x in_groups in_group =
    let below : x / 8 < g.octets = omega arith in
    let all = are.all_octets in
    let d : (group * g.octets + x / 8) / g.octets ≡ group = div-mul-add group g.octets (x / 8) below in
    let m : (group * g.octets + x / 8) % g.octets ≡ x / 8 = mod-mul-add group g.octets (x / 8) below in
    let lt = mul-add-lt group g.octets (x / 8) count in_groups below in
    let in_octet : x % 8 < 8 = omega arith in
    let h : bit_at (slice_index out (group * g.octets + x / 8)) (7 - x % 8)
    ≡ group_bit g from ((group * g.octets + x / 8) / g.octets) (8 * ((group * g.octets + x / 8) % g.octets) + x % 8)
    = each (group * g.octets + x / 8) (omega arith) (x % 8) in_octet in
    let x_is : 8 * (x / 8) + x % 8 ≡ x = omega arith in
    let k : bit_at (slice_index out (group * g.octets + x / 8)) (7 - x % 8) ≡ group_bit g from group x = rw (d, m, x_is) at h in
    frame_bit-at out g.octets group x ∙ k

-- a bit of a word, at its place
word_bit-at : (g : Grouping) (count words octets : ℕ) → AreGroups g count words octets → (from out : List ℕ) → length out ≡ octets
    → ((k : ℕ) → k < length out → HasOctet g from k (slice_index out k))
    → (r b : ℕ) → r < words → b < g.width → frame_bit out (group_place g r b) ≡ bit_in_word g (slice_index from r) b
word_bit-at g count words octets are from out len each r b in_words in_word =
    let some = are.words_some in
    let all = are.all_words in
    let in_groups = group-lt r g.words count some (omega arith) in
    let x = in_group-lt g count words octets r b are in_word in
    let in_group : r % g.words < g.words = omega arith in
    let e : r / g.words * g.words + r % g.words ≡ r = omega arith in
    octet_bit g count words octets are from out len each (r / g.words) (r % g.words * g.width + b) in_groups x
    ∙ group_bit-at g from (r / g.words) (r % g.words) b in_group in_word
    ∙ ap (λ i. bit_in_word g (slice_index from i) b) e

-- a place where no word's bit stands
other-at : (g : Grouping) (count words octets : ℕ) → AreGroups g count words octets → (from out : List ℕ) → length out ≡ octets
    → ((k : ℕ) → k < length out → HasOctet g from k (slice_index out k))
    → (q : ℕ) → q < 8 * octets → ((r b : ℕ) → r < words → b < g.width → group_place g r b ≡ q → ⊥) → frame_bit out q ≡ 0
other-at g count words octets are from out len each q in_frame none =
    let size = are.octets_some in
    let size_words = are.words_some in
    let all = are.all_octets in
    let all_words = are.all_words in
    let width : 0 < g.width = (let a = are.used_some in let b = are.used_fit in omega arith) in
    let group : ℕ = q / (8 * g.octets) in
    let x : ℕ = q % (8 * g.octets) in
    let in_groups : group < count = group-lt q (8 * g.octets) count (omega arith) (omega arith) in
    let in_group : x < 8 * g.octets = omega arith in
    let e : group * (8 * g.octets) + x ≡ q = omega arith in
    let bit = octet_bit g count words octets are from out len each group x in_groups in_group in
    let same : frame_bit out q ≡ group_bit g from group x = rw e at bit in
    same ∙ elim (cases_lt x (g.words * g.width)) [
      | inl some ↦
          let i : x / g.width < g.words = group-lt x g.width g.words width some in
          let b : x % g.width < g.width = omega arith in
          let d = div-mul-add group g.words (x / g.width) i in
          let m = mod-mul-add group g.words (x / g.width) i in
          let lt = mul-add-lt group g.words (x / g.width) count in_groups i in
          let x_is : x / g.width * g.width + x % g.width ≡ x = omega arith in
          let here : group_place g (group * g.words + x / g.width) (x % g.width) ≡ q = rw (d, m, x_is) e in
          absurd (none (group * g.words + x / g.width) (x % g.width) (omega arith) b here)
      | inr past ↦ let t = le-ltb x (g.words * g.width) past in rw t refl
    ]

-- the frame from its octets
pub is_frame : (p : Params) → broken_law p ≡ None → (words out : List ℕ) → length out ≡ p.l * p.f
    → ((k : ℕ) → k < length out → slice_index out k < 256)
    → ((k : ℕ) → k < length out → HasOctet (grouping p) words k (slice_index out k)) → IsFrame p words out
is_frame p legal words out len below each =
    let g : Grouping = grouping p in
    let are = groups_fit p legal in record {
      whole = len;
      below = λ k lt. below k (omega arith);
      bits = λ r b in_words in_word.
          ap (frame_bit out) (place-groups p r b in_words) ∙ word_bit-at (grouping p) (groups p) (p.m * p.s) (p.l * p.f) are words out len each r b in_words in_word;
      others = λ q in_frame none. other-at (grouping p) (groups p) (p.m * p.s) (p.l * p.f) are words out len each q in_frame
          (λ r b in_words in_word e. none r b in_words in_word (place-groups p r b in_words ∙ e));
    }

-- the words of a frame from those of its groups
pub are_words : (p : Params) → broken_law p ≡ None → (octets words : List ℕ) → length words ≡ p.m * p.s
    → ((r : ℕ) → r < length words → slice_index words r < 2 ^ (p.n + p.cs))
    → ((r : ℕ) → r < length words → HasWord (grouping p) octets r (slice_index words r)) → AreWords p octets words
are_words p legal octets words len below each = record {
  whole = len;
  below = λ r lt. below r (omega arith);
  bits = λ r b in_words in_word.
      let g : Grouping = grouping p in
      each r (omega arith) b in_word
      ∙ sym (frame_bit-at octets (grouping p).octets (r / (grouping p).words) (r % (grouping p).words * (grouping p).width + b))
      ∙ ap (frame_bit octets) (sym (place-groups p r b in_words));
}

-- the same where the groups are known to be those of a link
pub groups_of : (g : Grouping) (p : Params) → g ≡ grouping p → broken_law p ≡ None → AreGroups g (groups p) (p.m * p.s) (p.l * p.f)
groups_of g p e legal = rw e (groups_fit p legal)

pub words_within : (g : Grouping) (p : Params) → g ≡ grouping p → broken_law p ≡ None → (words octets : List ℕ)
    → length words ≡ p.m * p.s → length octets ≡ p.l * p.f → (k : ℕ) → k < length octets → (k / g.octets + 1) * g.words ≤ length words
words_within g p e legal words octets some all k lt =
    let are = groups_of g p e legal in
    let n = are.all_words in
    let o = are.all_octets in
    let h = group_within k g.octets (groups p) g.words are.octets_some (omega arith) in
    omega arith

pub octets_within : (g : Grouping) (p : Params) → g ≡ grouping p → broken_law p ≡ None → (words octets : List ℕ)
    → length words ≡ p.m * p.s → length octets ≡ p.l * p.f → (r : ℕ) → r < length words → (r / g.words + 1) * g.octets ≤ length octets
octets_within g p e legal words octets some all r lt =
    let are = groups_of g p e legal in
    let n = are.all_words in
    let o = are.all_octets in
    let h = group_within r g.words (groups p) g.octets are.words_some (omega arith) in
    omega arith

pub same_groups : (count w o words octets : ℕ) → count * w ≡ words → count * o ≡ octets → octets * w ≡ words * o
same_groups count w o words octets some all = ap (λ n. n * w) (sym all) ∙ omega arith ∙ ap (λ n. n * o) some

pub as_many_groups : (g : Grouping) (p : Params) → g ≡ grouping p → broken_law p ≡ None → (words octets : List ℕ)
    → length words ≡ p.m * p.s → length octets ≡ p.l * p.f → length octets * g.words ≡ length words * g.octets
as_many_groups g p e legal words octets some all =
    let are = groups_of g p e legal in
    same_groups (groups p) g.words g.octets (length words) (length octets) (are.all_words ∙ sym some) (are.all_octets ∙ sym all)

pub is_frame_of : (g : Grouping) (p : Params) → g ≡ grouping p → broken_law p ≡ None → (words out : List ℕ) → length out ≡ p.l * p.f
    → ((k : ℕ) → k < length out → slice_index out k < 256)
    → ((k : ℕ) → k < length out → HasOctet g words k (slice_index out k)) → IsFrame p words out
is_frame_of g p e legal words out len below each = is_frame p legal words out len below (λ k lt i in_octet. let h = each k lt i in_octet in rw e at h)

pub are_words_of : (g : Grouping) (p : Params) → g ≡ grouping p → broken_law p ≡ None → (octets words : List ℕ) → length words ≡ p.m * p.s
    → ((r : ℕ) → r < length words → slice_index words r < 2 ^ g.used)
    → ((r : ℕ) → r < length words → HasWord g octets r (slice_index words r)) → AreWords p octets words
are_words_of g p e legal octets words len below each =
    are_words p legal octets words len (λ r lt. let h = below r lt in rw e at h)
    (λ r lt b in_word. let used : b < g.used = rw e in_word in let h = each r lt b used in rw e at h)

pub places_fit : PlacesFit
places_fit p r b legal in_words in_word =
    let lt = group_place-lt (grouping p) (groups p) (p.m * p.s) (p.l * p.f) r b (groups_fit p legal) in_words in_word in
    rw (place-groups p r b in_words) lt

pub places_apart : PlacesApart
places_apart p r b word bit legal in_words in_word other_words other_word e =
    let same = sym (place-groups p r b in_words) ∙ e ∙ place-groups p word bit other_words in
    group_place-apart (grouping p) (groups p) (p.m * p.s) (p.l * p.f) r b word bit (groups_fit p legal) in_word other_word same

same_bit : (p : Params) (words octets read : List ℕ) → p.n + p.cs ≤ p.np → IsFrame p words octets → AreWords p octets read
    → (r i : ℕ) → r < p.m * p.s → i < p.n + p.cs → bit_at (slice_index read r) i ≡ bit_at (slice_index words r) i
same_bit p words octets read fits frame are r i in_words lt =
    let b : ℕ = p.n + p.cs - 1 - i in
    let used : b < p.n + p.cs = omega arith in
    let back : p.n + p.cs - 1 - b ≡ i = omega arith in
    let t = lt-ltb b (p.n + p.cs) used in
    let a : bit_at (slice_index read r) (p.n + p.cs - 1 - b) ≡ frame_bit octets (place p r b) = are.bits r b in_words used in
    let w : frame_bit octets (place p r b) ≡ word_bit p (slice_index words r) b = frame.bits r b in_words (omega arith) in
    let v : word_bit p (slice_index words r) b ≡ bit_at (slice_index words r) (p.n + p.cs - 1 - b) = rw t refl in
    let whole = a ∙ w ∙ v in
    rw back at whole

pub reads_back : ReadsBack
reads_back p words octets read legal fit frame are =
    let sizes = groups_fit p legal in
    let fits = sizes.used_fit in
    let len_read = are.whole in
    let len_words = fit.whole in
    same_number_lists read words (omega arith) (λ k lt.
    same_from_bits_below (p.n + p.cs) (slice_index read k) (slice_index words k) (are.below k (omega arith)) (fit.below k (omega arith))
    (λ i in_word. same_bit p words octets read fits frame are k i (omega arith) in_word))
