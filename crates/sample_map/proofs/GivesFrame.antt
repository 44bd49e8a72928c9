-- The functions give a frame of some words, and the words of some octets.
use Rattle.std.proofs.Common.{◌≡◌, ℕ, zero, suc, ◌+◌, ◌-◌, ◌*◌, ◌/◌, ◌%◌, ◌^◌, ◌<◌, ◌==◌, ◌∙◌, Bool, true, false, List, map, length, get_or, sym, ap, refl, inl, inr, None, zero-add, arith}
use Rattle.std.specs.Prelude.{slice_index, nat_lt, if◌then◌else◌}
use Rattle.std.specs.List.{range_with_len}
use Rattle.std.proofs.lemmas.Bool.{cases_lt, lt-ltb, le-ltb, true≢false}
use Rattle.std.proofs.lemmas.List.FromFn.{get_or-map-range_with_len, length-map-range_with_len}
use Rattle.std.proofs.lemmas.Nat.{div-mul-add, mod-mul-add, mul-add-lt}
use Rattle.std.proofs.lemmas.Nat.Bits.{bit_at-lt}
use Rattle.std.specs.Int.{bit_at}
use Rattle.jesd_base.specs.Bits.{bits, value}
use Rattle.jesd_base.proofs.BitLemmas.{bits_of_value, value_below}
use Rattle.link_params.specs.declared.fields.Params.{Params}
use Rattle.link_params.specs.Laws.{broken_law}
use Rattle.sample_map.specs.Frames.{bit_due, octet_due, word_due, frame_of, words_of}
use Rattle.sample_map.specs.kept.Groups.{Grouping, bit_in_word, grouping, groups}
use Rattle.sample_map.specs.Layout.{AreWords, IsFrame, frame_bit, place, lane_words, word_bit, FitFrame}
use Rattle.sample_map.proofs.DueLemmas.{due-groups, group_due}
use Rattle.sample_map.proofs.FrameLemmas.{places_fit, reads_back}
use Rattle.sample_map.proofs.SizeLemmas.{AreGroups, groups_fit}
use Rattle.sample_map.proofs.PlaceLemmas.{group-lt, group_place, in_group-lt, place-groups}

-- ---- a number made of bits has these bits

get-bits : (n x j : ℕ) → j < n → get_or (bits n x) j false ≡ (bit_at x (n - 1 - j) == 1)
unfolding bits
get-bits zero x j lt = absurd (omega arith)
get-bits (suc n) x zero lt = let e : n ≡ suc n - 1 - 0 = omega arith in ap (λ i. bit_at x i == 1) e
get-bits (suc n) x (suc j) lt =
    let e : n - 1 - j ≡ suc n - 1 - suc j = omega arith in
    get-bits n x j (omega arith) ∙ ap (λ i. bit_at x i == 1) e

-- bits that test alike are one
same-bit : (a b : ℕ) → a < 2 → b < 2 → (a == 1) ≡ (b == 1) → a ≡ b
same-bit a b one other same = elim (cases_lt a 1) [
  | inl a_none ↦
      let x : a ≡ 0 = omega arith in
      elim (cases_lt b 1) [
        | inl b_none ↦ omega arith
        | inr b_one ↦ let y : b ≡ 1 = omega arith in let bad : false ≡ true = rw (x, y) at same in absurd (true≢false (sym bad))
      ]
  | inr a_one ↦
      let x : a ≡ 1 = omega arith in
      elim (cases_lt b 1) [
        | inl b_none ↦ let y : b ≡ 0 = omega arith in let bad : true ≡ false = rw (x, y) at same in absurd (true≢false bad)
        | inr b_one ↦ omega arith
      ]
]

number-bit : (n j : ℕ) (bit : ℕ → ℕ) → ((i : ℕ) → bit i < 2) → j < n
    → bit_at (value (map (λ i. bit i == 1) (range_with_len 0 n))) (n - 1 - j) ≡ bit j
number-bit n j bit small lt =
    let test : ℕ → Bool = λ i. bit i == 1 in
    let all : List Bool = map test (range_with_len 0 n) in
    let long = length-map-range_with_len test 0 n in
    same-bit (bit_at (value all) (n - 1 - j)) (bit j) (bit_at-lt (value all) (n - 1 - j)) (small j)
    (sym (get-bits n (value all) j lt) ∙ ap (λ k. get_or (bits k (value all)) j false) (sym long)
    ∙ ap (λ (bs : List Bool). get_or bs j false) (bits_of_value all)
    ∙ get_or-map-range_with_len test 0 n j j false lt (zero-add j))

number-below : (n : ℕ) (bit : ℕ → ℕ) → value (map (λ i. bit i == 1) (range_with_len 0 n)) < 2 ^ n
number-below n bit =
    let test : ℕ → Bool = λ i. bit i == 1 in
    let long = length-map-range_with_len test 0 n in
    let below = value_below (map test (range_with_len 0 n)) in
    rw long at below

-- ---- the frame

bit-or-none : (c : Bool) (n : ℕ) → n < 2 → (if c then n else 0) < 2
bit-or-none true n small = small
bit-or-none false n small = omega arith

either-bit : (c : Bool) (m n : ℕ) → m < 2 → n < 2 → (if c then m else n) < 2
either-bit true m n one other = one
either-bit false m n one other = other

word_bit-lt : (p : Params) (word b : ℕ) → word_bit p word b < 2
word_bit-lt p word b = bit-or-none (nat_lt b (p.n + p.cs)) (bit_at word (p.n + p.cs - 1 - b)) (bit_at-lt word (p.n + p.cs - 1 - b))

bit_due-lt : (p : Params) (words : List ℕ) (q : ℕ) → bit_due p words q < 2
bit_due-lt p words q =
    let w : ℕ = lane_words p in
    let x : ℕ = q % (8 * p.f) in
    let a : ℕ = word_bit p (slice_index words (q / p.np)) (q % p.np) in
    let b : ℕ = word_bit p (slice_index words (q / (8 * p.f) * w + x / p.np)) (x % p.np) in
    either-bit p.hd (if nat_lt (q / p.np) (p.m * p.s) then a else 0) (if nat_lt (x / p.np) w then b else 0)
    (bit-or-none (nat_lt (q / p.np) (p.m * p.s)) a (word_bit-lt p (slice_index words (q / p.np)) (q % p.np)))
    (bit-or-none (nat_lt (x / p.np) w) b (word_bit-lt p (slice_index words (q / (8 * p.f) * w + x / p.np)) (x % p.np)))

pub octet-of-frame : (p : Params) (words : List ℕ) (k : ℕ) → k < p.l * p.f → slice_index (frame_of p words) k ≡ octet_due p words k
unfolding frame_of
octet-of-frame p words k lt = get_or-map-range_with_len (octet_due p words) 0 (p.l * p.f) k k 0 lt (zero-add k)

-- its bit at a place is the one that is due there
frame_bit-is : (p : Params) (words : List ℕ) (q : ℕ) → q < 8 * (p.l * p.f) → frame_bit (frame_of p words) q ≡ bit_due p words q
frame_bit-is p words q lt =
    let inside : q % 8 < 8 = omega arith in
    let back : 8 * (q / 8) + q % 8 ≡ q = omega arith in
    ap (λ n. bit_at n (7 - q % 8)) (octet-of-frame p words (q / 8) (omega arith))
    ∙ number-bit 8 (q % 8) (λ j. bit_due p words (8 * (q / 8) + j)) (λ j. bit_due-lt p words (8 * (q / 8) + j)) inside
    ∙ ap (bit_due p words) back

-- the bit that is due at a word's place
group_due-place : (g : Grouping) (count words octets : ℕ) → AreGroups g count words octets → (from : List ℕ) (r b : ℕ) → b < g.width
    → group_due g from (group_place g r b) ≡ bit_in_word g (slice_index from r) b
group_due-place g count words octets are from r b in_word =
    let some = are.words_some in
    let y : ℕ = r % g.words * g.width + b in
    let in_group = in_group-lt g count words octets r b are in_word in
    let d : group_place g r b / (8 * g.octets) ≡ r / g.words = div-mul-add (r / g.words) (8 * g.octets) y in_group in
    let m : group_place g r b % (8 * g.octets) ≡ y = mod-mul-add (r / g.words) (8 * g.octets) y in_group in
    let i : y / g.width ≡ r % g.words = div-mul-add (r % g.words) g.width b in_word in
    let k : y % g.width ≡ b = mod-mul-add (r % g.words) g.width b in_word in
    let t = lt-ltb (r % g.words) g.words (let below : r % g.words < g.words = omega arith in below) in
    let e : r / g.words * g.words + r % g.words ≡ r = omega arith in
    rw (m, d, i, k, t, e) refl

-- and at a place of no word
group_due-other : (g : Grouping) (count words octets : ℕ) → AreGroups g count words octets → (from : List ℕ) (q : ℕ) → q < 8 * octets
    → ((r b : ℕ) → r < words → b < g.width → group_place g r b ≡ q → ⊥) → group_due g from q ≡ 0
group_due-other g count words octets are from q in_frame none =
    let size = are.octets_some in
    let all = are.all_octets in
    let all_words = are.all_words in
    let width : 0 < g.width = (let a = are.used_some in let b = are.used_fit in omega arith) in
    let group : ℕ = q / (8 * g.octets) in
    let x : ℕ = q % (8 * g.octets) in
    let in_groups : group < count = group-lt q (8 * g.octets) count (omega arith) (omega arith) in
    let q_is : group * (8 * g.octets) + x ≡ q = omega arith in
    elim (cases_lt (x / g.width) g.words) [
      | inl some ↦
          let b : x % g.width < g.width = omega arith in
          let d = div-mul-add group g.words (x / g.width) some in
          let m = mod-mul-add group g.words (x / g.width) some in
          let lt = mul-add-lt group g.words (x / g.width) count in_groups some in
          let x_is : x / g.width * g.width + x % g.width ≡ x = omega arith in
          let here : group_place g (group * g.words + x / g.width) (x % g.width) ≡ q = rw (d, m, x_is) q_is in
          absurd (none (group * g.words + x / g.width) (x % g.width) (omega arith) b here)
      | inr past ↦ let t = le-ltb (x / g.width) g.words past in rw t refl
    ]

pub length-frame : (p : Params) (words : List ℕ) → length (frame_of p words) ≡ p.l * p.f
unfolding frame_of
length-frame p words = length-map-range_with_len (octet_due p words) 0 (p.l * p.f)

pub octet-below : (p : Params) (words : List ℕ) (k : ℕ) → k < p.l * p.f → slice_index (frame_of p words) k < 256
octet-below p words k lt =
    let is = octet-of-frame p words k lt in
    let small : octet_due p words k < 2 ^ 8 = number-below 8 (λ j. bit_due p words (8 * k + j)) in
    omega arith

-- the function gives a frame of the words
pub gives_frame : (p : Params) (words : List ℕ) → broken_law p ≡ None → IsFrame p words (frame_of p words)
gives_frame p words legal =
    let are = groups_fit p legal in record {
      whole = length-frame p words;
      below = octet-below p words;
      bits = λ r b in_words in_word.
          let lt = places_fit p r b legal in_words in_word in
          frame_bit-is p words (place p r b) lt ∙ due-groups p words (place p r b) lt
          ∙ ap (group_due (grouping p) words) (place-groups p r b in_words)
          ∙ group_due-place (grouping p) (groups p) (p.m * p.s) (p.l * p.f) are words r b in_word;
      others = λ q in_frame none.
          frame_bit-is p words q in_frame ∙ due-groups p words q in_frame
          ∙ group_due-other (grouping p) (groups p) (p.m * p.s) (p.l * p.f) are words q in_frame
          (λ r b in_words in_word e. none r b in_words in_word (place-groups p r b in_words ∙ e));
    }

-- ---- the words

-- the function gives the words of the octets
pub gives_words : (p : Params) (octets : List ℕ) → AreWords p octets (words_of p octets)
unfolding words_of
gives_words p octets =
    let due : (r : ℕ) → r < p.m * p.s → slice_index (map (word_due p octets) (range_with_len 0 (p.m * p.s))) r ≡ word_due p octets r =
    λ r lt. get_or-map-range_with_len (word_due p octets) 0 (p.m * p.s) r r 0 lt (zero-add r) in
    record {
      whole = length-map-range_with_len (word_due p octets) 0 (p.m * p.s);
      below = λ r lt.
          let is = due r lt in
          let small : word_due p octets r < 2 ^ (p.n + p.cs) = number-below (p.n + p.cs) (λ b. frame_bit octets (place p r b)) in
          rw is small;
      bits = λ r b in_words in_word.
          ap (λ w. bit_at w (p.n + p.cs - 1 - b)) (due r in_words)
          ∙ number-bit (p.n + p.cs) b (λ i. frame_bit octets (place p r i)) (λ i. bit_at-lt (slice_index octets (place p r i / 8)) (7 - place p r i % 8)) in_word;
    }

-- the words of the frame of some words are these
pub words_back : (p : Params) (words : List ℕ) → broken_law p ≡ None → FitFrame p words → words_of p (frame_of p words) ≡ words
words_back p words legal fit =
    reads_back p words (frame_of p words) (words_of p (frame_of p words)) legal fit (gives_frame p words legal) (gives_words p (frame_of p words))
