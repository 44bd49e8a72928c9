-- Alignment characters in the place of data octets (JESD204B.01 clause 5.3.3.4, character
-- replacement). Places are counted in the data of a lane, in octets from 0. That nothing is
-- replaced in the first frame is this project's own.
-- Code: one octet kept, and a flag.
use Rattle.std.specs.Prelude.{◌≡◌, ℕ, ◌+◌, ◌-◌, ◌%◌, ◌==◌, ◌<◌, nat_le, Bool, true, false, not, ◌&&◌, if◌then◌else◌, List, length, slice_get, slice_index, Some}
use Rattle.std.specs.List.{slice_index_or}
use Rattle.link_params.specs.declared.fields.Params.{Params}
use Rattle.link_params.specs.Numbers.{period}
use Rattle.code_8b10b.specs.declared.character.Char.{Char}
use Rattle.code_8b10b.specs.declared.character.Char.TheVariants.{Data, Control}

-- /A/ and /F/
abbrev pub alignment_a : Char
alignment_a = Control 0x7C

abbrev pub alignment_f : Char
alignment_f = Control 0xFC

abbrev pub is_data : Char → Bool
is_data (Data o) = true
is_data (Control o) = false

-- place x ends a multiframe
abbrev pub ends_multiframe : Params → ℕ → Bool
ends_multiframe p x = x % period p + 1 == period p

-- place x ends a frame that ends no multiframe
abbrev pub ends_frame_only : Params → ℕ → Bool
ends_frame_only p x = (x % p.f + 1 == p.f) && not (ends_multiframe p x)

-- the octet at place x equals the one a frame before; in the first frame none does
abbrev pub is_alike : Params → List ℕ → ℕ → Bool
is_alike p octets x = nat_le p.f x && (slice_index octets x == slice_index octets (x - p.f))

-- the character a frame before place x is data
abbrev pub is_after_data : Params → List Char → ℕ → Bool
is_after_data p chars x = is_data (slice_index_or chars (x - p.f) (Data 0))

-- without scrambling: the last octet of a multiframe that equals the one a frame before is sent as /A/; another frame's last
-- octet that does is sent as /F/ where the frame before ended in data
abbrev pub plain_char : Params → List ℕ → List Char → ℕ → Char
plain_char p octets chars x =
    if ends_multiframe p x && is_alike p octets x then alignment_a
    else (if ends_frame_only p x && is_alike p octets x && is_after_data p chars x then alignment_f else Data (slice_index octets x))

-- with scrambling: a multiframe's last octet 7C is sent as /A/, another frame's last octet FC as /F/
abbrev pub scrambled_char : Params → List ℕ → ℕ → Char
scrambled_char p octets x =
    if ends_multiframe p x && (slice_index octets x == 0x7C) then alignment_a
    else (if ends_frame_only p x && (slice_index octets x == 0xFC) then alignment_f else Data (slice_index octets x))

abbrev pub char_due : Params → List ℕ → List Char → ℕ → Char
char_due p octets chars x = if p.scr then scrambled_char p octets x else plain_char p octets chars x

-- these characters carry these octets: place by place each is the one that is due
pub record IsReplaced (p : Params) (octets : List ℕ) (chars : List Char) : Type 0 where
  pub whole : length chars ≡ length octets
  pub at : (x : ℕ) → x < length octets → slice_get chars x ≡ Some (char_due p octets chars x)
