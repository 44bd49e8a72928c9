-- What the readings of data characters give, before descrambling (JESD204B.01 clause 5.3.3.4): the
-- octet of each place, and whether it is bad. Places are counted in the data of a lane, in octets
-- from 0.
-- Code: one octet kept, and its mark.
use Rattle.std.specs.Prelude.{◌≡◌, ℕ, ◌-◌, ◌==◌, ◌<◌, nat_le, Bool, true, false, not, ◌&&◌, ◌||◌, if◌then◌else◌, List, length, slice_get, Some}
use Rattle.std.specs.List.{slice_index_or}
use Rattle.link_params.specs.declared.fields.Params.{Params}
use Rattle.code_8b10b.specs.declared.character.Char.{Char}
use Rattle.code_8b10b.specs.declared.character.Char.TheVariants.{Data, Control}
use Rattle.code_8b10b.specs.declared.character.Reading.{Reading}
use Rattle.code_8b10b.specs.declared.character.Reading.TheVariants.{Char as Read, Disparity, Invalid}
use Rattle.code_8b10b.specs.Reads.{octet_read}
use Rattle.char_replace.specs.declared.restored.Restored.{Restored}
use Rattle.char_replace.specs.Replacement.{is_data, ends_multiframe, ends_frame_only}

-- an alignment character is accepted at its place: /A/ at the end of a multiframe, /F/ at the end of another frame; without
-- scrambling neither in the first data frame
abbrev pub is_accepted : Params → ℕ → Char → Bool
is_accepted p x (Data o) = false
is_accepted p x (Control o) =
    (((o == 0x7C) && ends_multiframe p x) || ((o == 0xFC) && ends_frame_only p x)) && (p.scr || nat_le p.f x)

-- a character is bad where it is Disparity, Invalid, or a control character that is not accepted at its place
abbrev pub is_bad_char : Params → ℕ → Reading → Bool
is_bad_char p x (Read c) = not (is_data c) && not (is_accepted p x c)
is_bad_char p x (Disparity c) = true
is_bad_char p x Invalid = true

-- without scrambling an accepted alignment character repeats what the place a frame before gave
abbrev pub is_repeat : Params → ℕ → Reading → Bool
is_repeat p x (Read c) = not p.scr && is_accepted p x c
is_repeat p x (Disparity c) = not p.scr && is_accepted p x c
is_repeat p x Invalid = false

abbrev pub nothing : Restored
nothing = record { octet = 0; bad = false; fault = false }

-- what place x gives for its reading, where the places so far gave these: a fault is a bad character; a repeated octet is bad
-- also where the octet that it repeats is bad
abbrev pub given_at : Params → List Restored → ℕ → Reading → Restored
given_at p given x r = let before = slice_index_or given (x - p.f) nothing in
    if is_repeat p x r
    then record { octet = before.octet; bad = is_bad_char p x r || before.bad; fault = is_bad_char p x r }
    else record { octet = octet_read r; bad = is_bad_char p x r; fault = is_bad_char p x r }

-- these are what the readings give, place by place
pub record IsRestored (p : Params) (readings : List Reading) (given : List Restored) : Type 0 where
  pub whole : length given ≡ length readings
  pub at : (x : ℕ) → x < length readings → slice_get given x ≡ Some (given_at p given x (slice_index_or readings x Invalid))
