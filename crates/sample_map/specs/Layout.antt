-- Where each bit of a frame's words stands among the octets of its lanes (JESD204B.01 clause 5.1, transport layer).
-- Code: an octet or a word at a time, from the words or octets that it spans.
use Rattle.std.specs.Prelude.{◌≡◌, ℕ, ◌+◌, ◌-◌, ◌*◌, ◌/◌, ◌%◌, ◌^◌, ◌<◌, nat_lt, if◌then◌else◌, List, length, slice_index}
use Rattle.std.specs.Int.{bit_at}
use Rattle.link_params.specs.declared.fields.Params.{Params}

-- W, the words of a lane without HD
abbrev pub lane_words : Params → ℕ
lane_words p = p.m * p.s / p.l

-- the place of bit b of word r among all bits of a frame, lane 0's first, where a lane has 8·F bits: with HD all words stand
-- one after another; without HD lane l holds words l·W to (l+1)·W - 1 from its first bit on
abbrev pub place : Params → ℕ → ℕ → ℕ
place p r b = if p.hd then r * p.np + b
    else r / lane_words p * (8 * p.f) + (r % lane_words p * p.np + b)

-- bit b of a word, the first being 0: sample and control bits, most significant first, then tail bits that are 0
abbrev pub word_bit : Params → ℕ → ℕ → ℕ
word_bit p word b = if nat_lt b (p.n + p.cs) then bit_at word (p.n + p.cs - 1 - b) else 0

-- the bit at a place of a frame's octets, lane 0's first; an octet's most significant bit is its first
abbrev pub frame_bit : List ℕ → ℕ → ℕ
frame_bit octets q = bit_at (slice_index octets (q / 8)) (7 - q % 8)

-- these octets are the frame of these words: the bits of the words at their places, and 0 at all others
pub record IsFrame (p : Params) (words octets : List ℕ) : Type 0 where
  pub whole : length octets ≡ p.l * p.f
  pub below : (k : ℕ) → k < p.l * p.f → slice_index octets k < 256
  pub bits : (r b : ℕ) → r < p.m * p.s → b < p.np → frame_bit octets (place p r b) ≡ word_bit p (slice_index words r) b
  pub others : (q : ℕ) → q < 8 * (p.l * p.f) → ((r b : ℕ) → r < p.m * p.s → b < p.np → place p r b ≡ q → ⊥) → frame_bit octets q ≡ 0

-- these words are read from these octets: their sample and control bits are those at their places
pub record AreWords (p : Params) (octets words : List ℕ) : Type 0 where
  pub whole : length words ≡ p.m * p.s
  pub below : (r : ℕ) → r < p.m * p.s → slice_index words r < 2 ^ (p.n + p.cs)
  pub bits : (r b : ℕ) → r < p.m * p.s → b < p.n + p.cs → bit_at (slice_index words r) (p.n + p.cs - 1 - b) ≡ frame_bit octets (place p r b)

-- words of a frame's size
pub record FitFrame (p : Params) (words : List ℕ) : Type 0 where
  pub whole : length words ≡ p.m * p.s
  pub below : (r : ℕ) → r < p.m * p.s → slice_index words r < 2 ^ (p.n + p.cs)
