-- What a replacing sender and a restoring receiver keep, as contracts see them.
-- Code: the fields themselves.
use Rattle.std.specs.Prelude.{◌≡◌, ℕ, ◌-◌, ◌%◌, ◌==◌, ◌≤◌, nat_le, Bool, true, false, not, ◌&&◌, ◌||◌, if◌then◌else◌, List, length, slice_index, None}
use Rattle.std.specs.List.{slice_index_or}
use Rattle.link_params.specs.declared.fields.Params.{Params}
use Rattle.link_params.specs.declared.fields.Mode.TheVariants.{B}
use Rattle.link_params.specs.Laws.{broken_law}
use Rattle.code_8b10b.specs.declared.character.Char.{Char}
use Rattle.code_8b10b.specs.declared.character.Char.TheVariants.{Data, Control}
use Rattle.code_8b10b.specs.declared.character.Reading.{Reading}
use Rattle.code_8b10b.specs.declared.character.Reading.TheVariants.{Char as Read, Disparity, Invalid}
use Rattle.char_replace.specs.declared.restored.Restored.{Restored}
use Rattle.char_replace.specs.Replacement.{IsReplaced, is_data, alignment_a, alignment_f}
use Rattle.char_replace.specs.Restoring.{IsRestored, nothing}

-- legal parameters of a link with 8b/10b lanes
pub record IsSerial (p : Params) : Type 0 where
  pub legal : broken_law p ≡ None
  pub mode : p.mode ≡ B

-- the last place of the last whole frame among the first n places
abbrev pub frame_end : Params → ℕ → ℕ
frame_end p n = n - n % p.f - 1

-- the parameters, whether a whole frame was sent, the octet that ended the last one, and whether that was sent as data
pub record Sender : Type 0 where
  pub params : Params
  pub begun : Bool
  pub last : ℕ
  pub as_data : Bool

-- a sender was handed these octets and gave these characters; with scrambling it keeps nothing of them
pub record HasReplaced (now : Sender) (p : Params) (octets : List ℕ) (chars : List Char) : Type 0 where
  pub replaced : IsReplaced p octets chars
  pub params : now.params ≡ p
  pub begun : p.scr ≡ false → now.begun ≡ nat_le p.f (length octets)
  pub last : p.scr ≡ false → p.f ≤ length octets → now.last ≡ slice_index octets (frame_end p (length octets))
  pub as_data : p.scr ≡ false → p.f ≤ length octets → now.as_data ≡ is_data (slice_index_or chars (frame_end p (length octets)) (Data 0))

-- the parameters, whether a whole frame was read, and what the place that ended the last one gave
pub record Receiver : Type 0 where
  pub params : Params
  pub begun : Bool
  pub last : Restored

-- a receiver was handed these readings and gave these; with scrambling it keeps nothing of them
pub record HasRestored (now : Receiver) (p : Params) (readings : List Reading) (given : List Restored) : Type 0 where
  pub restored : IsRestored p readings given
  pub params : now.params ≡ p
  pub begun : p.scr ≡ false → now.begun ≡ nat_le p.f (length readings)
  pub last : p.scr ≡ false → p.f ≤ length readings → now.last ≡ slice_index_or given (frame_end p (length readings)) nothing

-- what the end of a frame is sent as, by what is kept; whole: the end of a multiframe
abbrev pub char_by_kept : Sender → Bool → ℕ → Char
char_by_kept s whole o = if s.params.scr
    then (if whole && (o == 0x7C) then alignment_a else (if not whole && (o == 0xFC) then alignment_f else Data o))
    else (if whole && (s.begun && (o == s.last)) then alignment_a
    else (if not whole && (s.begun && (o == s.last)) && s.as_data then alignment_f else Data o))

-- an alignment character is accepted, by what is kept; end: the end of a frame
abbrev pub accepted_by_kept : Receiver → Bool → Bool → ℕ → Bool
accepted_by_kept s end whole o = (((o == 0x7C) && whole) || ((o == 0xFC) && (end && not whole))) && (s.params.scr || s.begun)

abbrev pub given_of_char : Receiver → Bool → Bool → Bool → Char → Restored
given_of_char s end whole fault (Data o) = record { octet = o; bad = fault; fault = fault }
given_of_char s end whole fault (Control o) =
    let accepted = accepted_by_kept s end whole o in
    if not s.params.scr && accepted
    then record { octet = s.last.octet; bad = fault || s.last.bad; fault = fault }
    else record { octet = o; bad = fault || not accepted; fault = fault || not accepted }

-- what a reading gives, by what is kept
abbrev pub given_by_kept : Receiver → Bool → Bool → Reading → Restored
given_by_kept s end whole (Read c) = given_of_char s end whole false c
given_by_kept s end whole (Disparity c) = given_of_char s end whole true c
given_by_kept s end whole Invalid = record { octet = 0; bad = true; fault = true }
