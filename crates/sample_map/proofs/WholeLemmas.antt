-- Groups that words of whole octets fill.
use Rattle.std.proofs.Common.{◌≡◌, ℕ, ◌+◌, ◌-◌, ◌*◌, ◌/◌, ◌%◌, ◌^◌, ◌<◌, ◌≤◌, ◌∙◌, List, length, sym, ap, inl, inr, arith}
use Rattle.std.specs.Prelude.{slice_index}
use Rattle.std.specs.Int.{bit_at}
use Rattle.std.proofs.Math.Nat.{mul-div_cancel, mul-le-mul_left}
use Rattle.std.proofs.lemmas.Bool.{cases_lt}
use Rattle.std.proofs.lemmas.Nat.{mod_below, shl_below, shl_whole, shr_below}
use Rattle.std.proofs.lemmas.Nat.Bits.{bit_at_cat_high, bit_at_cat_low}
use Rattle.sample_map.specs.kept.Groups.{Grouping, HasOctet, HasWord, bit_in_word, group_bit}
use Rattle.sample_map.specs.kept.Grids.{sizes}
use Rattle.sample_map.specs.declared.grid.Grid.{Grid}
use Rattle.sample_map.proofs.BitLemmas.{bit_at-cut, bit_at-shifted}
use Rattle.sample_map.proofs.GroupLemmas.{bits_of_word, group_bit-at, has_octet}

-- each word has so many octets, and there is nothing else in a group
pub record IsWhole (g : Grouping) (s : ℕ) : Type 0 where
  pub some : 0 < g.words
  pub fit : g.used ≤ g.width
  pub width : g.width ≡ 8 * s
  pub octets : g.octets ≡ s * g.words

-- the tail bits behind a word leave it within its octets
pub laid_out : (v tail n : ℕ) → tail ≤ n → n ≤ 32 → v < 2 ^ (n - tail)
    → (v * 2 ^ tail < 2 ^ n) × (v * 2 ^ tail % 2 ^ 32 ≡ v * 2 ^ tail)
laid_out v tail n le few lt =
    let e : n - tail + tail ≡ n = omega arith in
    let b : v * 2 ^ tail < 2 ^ (n - tail + tail) = shl_below v (n - tail) tail lt in
    (rw e at b, shl_whole v (n - tail) tail 32 lt (omega arith))

-- as many groups of octets as of words
pub all_octets : (g : Grouping) (s words octets : ℕ) → IsWhole g s → octets * g.words ≡ words * g.octets → octets ≡ s * words
all_octets g s words octets is groups =
    let e : octets * g.words ≡ s * words * g.words = groups ∙ ap (λ n. words * n) is.octets ∙ omega arith in
    sym (mul-div_cancel octets is.some) ∙ ap (λ n. n / g.words) e ∙ mul-div_cancel (s * words) is.some

-- an octet of a word
whole_octet : (g : Grouping) (s r j octet : ℕ) (words : List ℕ) → IsWhole g s → j < s
    → ((i : ℕ) → i < 8 → bit_at octet (7 - i) ≡ bit_in_word g (slice_index words r) (8 * j + i))
    → HasOctet g words (s * r + j) octet
whole_octet g s r j octet words is lt bits =
    let some = is.some in
    let width = is.width in
    let row : r / g.words * g.words + r % g.words ≡ r = omega arith in
    let in_group : r % g.words < g.words = mod_below r g.words some in
    let at : r / g.words * g.octets + (s * (r % g.words) + j) ≡ s * r + j = ap (λ n. r / g.words * n + (s * (r % g.words) + j)) is.octets ∙ (let e = ap (λ n. s * n) row in omega arith) in
    let up : s * (r % g.words + 1) ≤ s * g.words = mul-le-mul_left s (let next : r % g.words + 1 ≤ g.words = omega arith in next) in
    let fits : s * (r % g.words) + j < g.octets = rw is.octets (omega arith) in
    has_octet g words (s * r + j) (r / g.words) (s * (r % g.words) + j) octet at fits
    (λ i in_octet.
    let place : r % g.words * g.width + (8 * j + i) ≡ 8 * (s * (r % g.words) + j) + i = ap (λ n. r % g.words * n + (8 * j + i)) width ∙ omega arith in
    let in_word : 8 * j + i < g.width = rw width (omega arith) in
    bits i in_octet
    ∙ ap (λ n. bit_in_word g (slice_index words n) (8 * j + i)) (sym row)
    ∙ sym (group_bit-at g words (r / g.words) (r % g.words) (8 * j + i) in_group in_word)
    ∙ ap (group_bit g words (r / g.words)) place)

-- a word of some octets
whole_word : (g : Grouping) (s r word : ℕ) (octets : List ℕ) → IsWhole g s
    → ((b : ℕ) → b < g.used → bit_at word (g.used - 1 - b) ≡ bit_at (slice_index octets (s * r + b / 8)) (7 - b % 8))
    → HasWord g octets r word
whole_word g s r word octets is bits b lt =
    let some = is.some in
    let row : r / g.words * g.words + r % g.words ≡ r = omega arith in
    let x : ℕ = r % g.words * g.width + b in
    let x_is : x ≡ 8 * (s * (r % g.words)) + b = ap (λ n. r % g.words * n + b) is.width ∙ omega arith in
    let place : r / g.words * g.octets + x / 8 ≡ s * r + b / 8 =
    ap (λ n. r / g.words * n + x / 8) is.octets ∙ (let e = ap (λ n. s * n) row in omega arith) in
    let bit : x % 8 ≡ b % 8 = omega arith in
    rw (place, bit) (bits b lt)

-- ---- words of one octet

pub single_octet : (g : Grouping) (words : List ℕ) (r : ℕ) → IsWhole g 1
    → HasOctet g words r (slice_index words r * 2 ^ (g.width - g.used))
single_octet g words r is =
    let width = is.width in
    let e : 1 * r + 0 ≡ r = omega arith in
    let h : HasOctet g words (1 * r + 0) (slice_index words r * 2 ^ (g.width - g.used))
    = whole_octet g 1 r 0 (slice_index words r * 2 ^ (g.width - g.used)) words is (omega arith)
    (λ i in_octet.
    let at : 7 - i ≡ g.width - 1 - (8 * 0 + i) = omega arith in
    ap (bit_at (slice_index words r * 2 ^ (g.width - g.used))) at
    ∙ bits_of_word g (slice_index words r) (8 * 0 + i) is.fit (omega arith)) in
    rw e at h

pub single_word : (g : Grouping) (octets : List ℕ) (r : ℕ) → IsWhole g 1
    → HasWord g octets r (slice_index octets r / 2 ^ (g.width - g.used))
single_word g octets r is =
    let width = is.width in
    let fit = is.fit in
    whole_word g 1 r (slice_index octets r / 2 ^ (g.width - g.used)) octets is
    (λ b lt.
    let place : r ≡ 1 * r + b / 8 = omega arith in
    let at : g.width - g.used + (g.used - 1 - b) ≡ 7 - b % 8 = omega arith in
    bit_at-shifted (slice_index octets r) (g.width - g.used) (g.used - 1 - b)
    ∙ ap (bit_at (slice_index octets r)) at
    ∙ ap (λ n. bit_at (slice_index octets n) (7 - b % 8)) place)

-- ---- words of two octets

pub pair_first : (g : Grouping) (words : List ℕ) (r : ℕ) → IsWhole g 2
    → HasOctet g words (2 * r) (slice_index words r * 2 ^ (g.width - g.used) / 256)
pair_first g words r is =
    let n : ℕ = slice_index words r * 2 ^ (g.width - g.used) in
    let width = is.width in
    let e : 2 * r + 0 ≡ 2 * r = omega arith in
    let h : HasOctet g words (2 * r + 0) (n / 256) = whole_octet g 2 r 0 (n / 256) words is (omega arith)
    (λ i in_octet.
    let at : 8 + (7 - i) ≡ g.width - 1 - (8 * 0 + i) = omega arith in
    bit_at-shifted n 8 (7 - i) ∙ ap (bit_at n) at
    ∙ bits_of_word g (slice_index words r) (8 * 0 + i) is.fit (omega arith)) in
    rw e at h

pub pair_second : (g : Grouping) (words : List ℕ) (r : ℕ) → IsWhole g 2
    → HasOctet g words (2 * r + 1) (slice_index words r * 2 ^ (g.width - g.used) % 256)
pair_second g words r is =
    let n : ℕ = slice_index words r * 2 ^ (g.width - g.used) in
    let width = is.width in
    whole_octet g 2 r 1 (n % 256) words is (omega arith)
    (λ i in_octet.
    let low : 7 - i < 8 = omega arith in
    let at : 7 - i ≡ g.width - 1 - (8 * 1 + i) = omega arith in
    bit_at-cut n 8 (7 - i) low ∙ ap (bit_at n) at
    ∙ bits_of_word g (slice_index words r) (8 * 1 + i) is.fit (omega arith))

pub pair_word : (g : Grouping) (octets : List ℕ) (r : ℕ) → IsWhole g 2 → slice_index octets (2 * r + 1) < 256
    → HasWord g octets r ((slice_index octets (2 * r) * 256 + slice_index octets (2 * r + 1)) / 2 ^ (g.width - g.used))
pair_word g octets r is small =
    let first : ℕ = slice_index octets (2 * r) in
    let second : ℕ = slice_index octets (2 * r + 1) in
    let n : ℕ = first * 2 ^ 8 + second in
    let width = is.width in
    let fit = is.fit in
    whole_word g 2 r (n / 2 ^ (g.width - g.used)) octets is
    (λ b lt.
    let at : g.width - g.used + (g.used - 1 - b) ≡ 15 - b = omega arith in
    bit_at-shifted n (g.width - g.used) (g.used - 1 - b) ∙ ap (bit_at n) at
    ∙ elim (cases_lt b 8) [
      | inl low ↦
          let place : 2 * r ≡ 2 * r + b / 8 = omega arith in
          let bit : 15 - b - 8 ≡ 7 - b % 8 = omega arith in
          bit_at_cat_high first 8 second (15 - b) small (omega arith) ∙ ap (bit_at first) bit
          ∙ ap (λ k. bit_at (slice_index octets k) (7 - b % 8)) place
      | inr high ↦
          let place : 2 * r + 1 ≡ 2 * r + b / 8 = omega arith in
          let bit : 15 - b ≡ 7 - b % 8 = omega arith in
          bit_at_cat_low first 8 second (15 - b) (omega arith) ∙ ap (bit_at second) bit
          ∙ ap (λ k. bit_at (slice_index octets k) (7 - b % 8)) place
    ])

-- a number of so many bits, without its tail bits
pub without_tail : (g : Grouping) (s n : ℕ) → IsWhole g s → n < 2 ^ (8 * s) → n / 2 ^ (g.width - g.used) < 2 ^ g.used
without_tail g s n is lt =
    let fit = is.fit in
    let e : 8 * s ≡ g.used + (g.width - g.used) = sym is.width ∙ omega arith in
    shr_below n g.used (g.width - g.used) (rw e at lt)

-- ---- all octets of words of two octets

pub all_pairs : (g : Grouping) (words out : List ℕ) → IsWhole g 2 → length out ≡ 2 * length words
    → ((r : ℕ) → r < length words → slice_index out (2 * r) ≡ slice_index words r * 2 ^ (g.width - g.used) / 256)
    → ((r : ℕ) → r < length words → slice_index out (2 * r + 1) ≡ slice_index words r * 2 ^ (g.width - g.used) % 256)
    → (k : ℕ) → k < length out → HasOctet g words k (slice_index out k)
all_pairs g words out is whole first second k lt =
    let r : ℕ = k / 2 in
    let in_words : r < length words = omega arith in
    elim (cases_lt (k % 2) 1) [
      | inl even ↦
          let e : 2 * r ≡ k = omega arith in
          let h : HasOctet g words (2 * r) (slice_index out (2 * r)) = rw (first r in_words) (pair_first g words r is) in
          rw e at h
      | inr odd ↦
          let e : 2 * r + 1 ≡ k = omega arith in
          let h : HasOctet g words (2 * r + 1) (slice_index out (2 * r + 1)) = rw (second r in_words) (pair_second g words r is) in
          rw e at h
    ]

-- ---- what a grid says of its words

pub is_whole : (g : Grid) (s : ℕ) → 0 < s → g.word_octets ≡ s → IsWhole (sizes g) s
is_whole g s some e =
    let w = g.whole (omega arith) in
    record {
      some = g.words_some;
      fit = g.used_fit;
      width = w.0 ∙ ap (λ n. 8 * n) e;
      octets = w.1 ∙ ap (λ n. n * g.words) e;
    }
