-- The frame of some words, and the words of a frame, as functions, for definitions that compute
-- (JESD204B.01 clause 5.1, transport layer): the one list of octets with `IsFrame`, and the one
-- list of words with `AreWords`.
-- Code: an octet or a word at a time, from the words or octets that it spans.
use Rattle.std.specs.Prelude.{◌≡◌, ℕ, ◌+◌, ◌*◌, ◌/◌, ◌%◌, ◌==◌, nat_lt, if◌then◌else◌, List, map, length, slice_index, None}
use Rattle.std.specs.List.{range_with_len}
use Rattle.jesd_base.specs.Bits.{value}
use Rattle.link_params.specs.declared.fields.Params.{Params}
use Rattle.link_params.specs.Laws.{broken_law}
use Rattle.sample_map.specs.Layout.{IsFrame, AreWords, frame_bit, lane_words, place, word_bit, FitFrame}

-- the bit at a place among all bits of a frame: that of the word which has the place, and 0 where none has
abbrev pub bit_due : Params → List ℕ → ℕ → ℕ
bit_due p words q = let w = lane_words p in let x = q % (8 * p.f) in
    if p.hd then (if nat_lt (q / p.np) (p.m * p.s) then word_bit p (slice_index words (q / p.np)) (q % p.np) else 0)
    else (if nat_lt (x / p.np) w then word_bit p (slice_index words (q / (8 * p.f) * w + x / p.np)) (x % p.np) else 0)

-- octet k of the frame of these words
abbrev pub octet_due : Params → List ℕ → ℕ → ℕ
octet_due p words k = value (map (λ j. bit_due p words (8 * k + j) == 1) (range_with_len 0 8))

-- the L·F octets of the frame of these words, lane 0's first
unfoldable pub frame_of : Params → List ℕ → List ℕ
frame_of p words = map (octet_due p words) (range_with_len 0 (p.l * p.f))

-- word r of the frame with these octets
abbrev pub word_due : Params → List ℕ → ℕ → ℕ
word_due p octets r = value (map (λ b. frame_bit octets (place p r b) == 1) (range_with_len 0 (p.n + p.cs)))

-- the M·S words of the frame with these octets
unfoldable pub words_of : Params → List ℕ → List ℕ
words_of p octets = map (word_due p octets) (range_with_len 0 (p.m * p.s))

-- there is one frame of some words, and the function gives it
abbrev pub OneFrame : Type 0
OneFrame = (p : Params) (words octets : List ℕ) → broken_law p ≡ None → FitFrame p words → IsFrame p words octets → octets ≡ frame_of p words

-- and one list of words of a frame
abbrev pub OneReading : Type 0
OneReading = (p : Params) (octets words : List ℕ) → broken_law p ≡ None → length octets ≡ p.l * p.f → AreWords p octets words → words ≡ words_of p octets
