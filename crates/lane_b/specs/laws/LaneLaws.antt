-- Laws of 8b/10b lanes. Bits are counted from the first one of the hunt.
-- Code: none of this is computed.
use Rattle.std.specs.Prelude.{◌≡◌, ◌≤◌, ◌<◌, ℕ, min, Bool, true, false, List, [], ◌∷◌, ◌++◌, map, replicate, length, take, slice_get, Option, Some, None}
use Rattle.std.specs.List.{All}
use Rattle.link_params.specs.declared.fields.Params.{Params}
use Rattle.link_params.specs.declared.fields.Timing.{Timing}
use Rattle.link_params.specs.declared.ilas_state.IlasCause.{IlasCause}
use Rattle.link_params.specs.declared.ilas_state.IlasState.TheVariants.{Done, Fault}
use Rattle.link_params.specs.declared.cells.LaneCell.{LaneCell}
use Rattle.link_params.specs.Lanes.{Entry, Placed, Held, Handed, LaneKind, Taken, is_inside}
use Rattle.code_8b10b.specs.declared.character.Rd.TheVariants.{Minus}
use Rattle.code_8b10b.specs.declared.character.Char.{Char}
use Rattle.code_8b10b.specs.declared.character.Reading.{Reading}
use Rattle.code_8b10b.specs.Code.{Chained}
use Rattle.code_8b10b.specs.Commas.{stands_at}
use Rattle.char_replace.specs.declared.restored.Restored.{Restored}
use Rattle.char_replace.specs.kept.Ends.{IsSerial}
use Rattle.char_replace.specs.Replacement.{IsReplaced}
use Rattle.char_replace.specs.Restoring.{IsRestored}
use Rattle.lane_b.specs.Sent.{chars_after, coded_octets, data_char, replaced, sent_words}
use Rattle.lane_b.specs.Locking.{Lock, bits_taken, bits_to_start, is_dropped, lock, lock_at}
use Rattle.lane_b.specs.Loss.{ilas_length}
use Rattle.lane_b.specs.Received.{entries_b, lanes_b, report_b, restored}
use Rattle.lane_b.specs.kept.Receivers.{AreTens}

-- ---- what a transmitter lane sends

-- lanes of a kind send one word of so many bits for each tick handed in
abbrev pub SendsOneWord : ℕ → LaneKind → Type 0
SendsOneWord width kind = (p : Params) (lane : ℕ) (handed : List Handed)
    → (length (kind.sends p lane handed) ≡ length handed)
    × All (λ word. length word ≡ width) (kind.sends p lane handed)

-- and those words stay, whatever is handed in later
abbrev pub KeepsWords : LaneKind → Type 0
KeepsWords kind = (p : Params) (lane : ℕ) (handed later : List Handed)
    → take (length handed) (kind.sends p lane (handed ++ later)) ≡ kind.sends p lane handed

abbrev pub TenBitsATick : Type 0
TenBitsATick = SendsOneWord 10 lanes_b

abbrev pub WordsStay : Type 0
WordsStay = KeepsWords lanes_b

-- the octets that were handed in are octets
abbrev pub AreOctets : List Handed → Type 0
AreOctets handed = All (λ h. h.octets < 256) handed

-- the words that a lane sends since its reset spell its characters in one chain that begins
-- negative, and no others do
abbrev pub SpellsOneChain : Type 0
SpellsOneChain = (p : Params) (lane : ℕ) (handed : List Handed) → IsSerial p → lane < p.l
    → AreOctets handed
    → Chained Minus (chars_after p lane [] handed) (sent_words p lane handed)
    × ((words : List ℕ) → Chained Minus (chars_after p lane [] handed) words
    → words ≡ sent_words p lane handed)

-- the characters of coded octets carry them, and no others do
abbrev pub Replaces : Type 0
Replaces = (p : Params) (coded : List ℕ) → 1 ≤ p.f
    → IsReplaced p coded (replaced p coded (length coded))
    × ((chars : List Char) → IsReplaced p coded chars → chars ≡ replaced p coded (length coded))

-- the character of the last of these data octets is the last of those that carry them
abbrev pub SendsLast : Type 0
SendsLast = (p : Params) (octets : List ℕ) (o : ℕ) (chars : List Char) → 1 ≤ p.f
    → IsReplaced p (coded_octets p (octets ++ o ∷ [])) chars
    → slice_get chars (length octets) ≡ Some (data_char p (octets ++ o ∷ []))

-- what the readings of data give is restored from them, and nothing else is
abbrev pub Restores : Type 0
Restores = (p : Params) (read : List Reading) → 1 ≤ p.f
    → IsRestored p read (restored p read (length read))
    × ((given : List Restored) → IsRestored p read given → given ≡ restored p read (length read))

-- ---- the lock

-- y is the least place from bit x on at which the forty bits of a lock stand
pub record IsLeastFrom (bs : List Bool) (x y : ℕ) : Type 0 where
  pub from : x ≤ y
  pub stands : stands_at bs y ≡ true
  pub least : (z : ℕ) → x ≤ z → z < y → stands_at bs z ≡ false

-- a lock is held, where the search comes to bit x: the one at the least place from there on, which
-- is not dropped; none where the forty bits stand nowhere from there on
abbrev pub IsHeldFrom : List Taken → ℕ → Option Lock → Type 0
IsHeldFrom taken x None = (z : ℕ) → x ≤ z → stands_at (bits_taken taken) z ≡ false
IsHeldFrom taken x (Some l) = (y : ℕ) × IsLeastFrom (bits_taken taken) x y
    × (l ≡ lock_at (bits_taken taken) y)
    × (is_dropped taken l ≡ false)

-- from bit x on the locks at these places are dropped, each at the least place from the end of the
-- one before on, and then this lock is held, or none
abbrev pub IsHeldAfter : List Taken → ℕ → List ℕ → Option Lock → Type 0
IsHeldAfter taken x [] held = IsHeldFrom taken x held
IsHeldAfter taken x (y ∷ ys) held = IsLeastFrom (bits_taken taken) x y
    × (is_dropped taken (lock_at (bits_taken taken) y) ≡ true)
    × IsHeldAfter taken (bits_to_start (lock_at (bits_taken taken) y)) ys held

-- the lock that is held after all that was taken since the hunt began
abbrev pub IsLock : List Taken → Option Lock → Type 0
IsLock taken held = (drops : List ℕ) × IsHeldAfter taken 0 drops held

-- there is one, and the function gives it
abbrev pub OneLock : Type 0
OneLock = (taken : List Taken) → AreTens taken
    → IsLock taken (lock taken) × ((held : Option Lock) → IsLock taken held → held ≡ lock taken)

-- ---- what lasts in a hunt, whatever is taken later

-- a start lasts, at its offset, and the lane is locked
abbrev pub StartLasts : Type 0
StartLasts = (p : Params) (t : Timing) (lane : ℕ) (taken later : List Taken) (f : ℕ) → AreTens taken
    → AreTens later
    → (report_b p t lane taken).started ≡ Some f
    → ((report_b p t lane (taken ++ later)).started ≡ Some f)
    × ((report_b p t lane (taken ++ later)).locked ≡ true)

-- a lost lane stays lost
abbrev pub LossLasts : Type 0
LossLasts = (p : Params) (t : Timing) (lane : ℕ) (taken later : List Taken) → AreTens taken
    → AreTens later
    → (report_b p t lane taken).lost ≡ true → (report_b p t lane (taken ++ later)).lost ≡ true

-- a fault of the alignment sequence lasts, with its place and cause
abbrev pub FaultLasts : Type 0
FaultLasts = (p : Params) (t : Timing) (lane : ℕ) (taken later : List Taken) (x : ℕ)
    (cause : IlasCause) → AreTens taken → AreTens later
    → (report_b p t lane taken).ilas ≡ Fault x cause
    → (report_b p t lane (taken ++ later)).ilas ≡ Fault x cause

-- a whole sequence without a fault lasts
abbrev pub DoneLasts : Type 0
DoneLasts = (p : Params) (t : Timing) (lane : ℕ) (taken later : List Taken) → AreTens taken
    → AreTens later
    → (report_b p t lane taken).ilas ≡ Done → (report_b p t lane (taken ++ later)).ilas ≡ Done

-- ---- the entries

-- a lane that started inside its window has one entry more with each tick
abbrev pub OneEntryATick : Type 0
OneEntryATick = (p : Params) (t : Timing) (lane : ℕ) (taken : List Taken) (w : Taken) (f : ℕ)
    → AreTens taken → length w.word ≡ 10
    → (report_b p t lane taken).started ≡ Some f → is_inside t f ≡ true
    → (e : Entry) × (entries_b p t lane (taken ++ w ∷ []) ≡ entries_b p t lane taken ++ e ∷ [])

-- the tick with which a lane starts arms it and tells the offset; inside the window it brings the
-- first entry
abbrev pub FirstEntry : Type 0
FirstEntry = (p : Params) (t : Timing) (lane : ℕ) (taken : List Taken) (w : Taken) (f : ℕ)
    → AreTens taken → length w.word ≡ 10
    → (report_b p t lane taken).started ≡ None
    → (report_b p t lane (taken ++ w ∷ [])).started ≡ Some f
    → (w.order.armed ≡ true) × (f ≡ w.order.offset)
    × (is_inside t f ≡ true → (e : Entry) × (entries_b p t lane (taken ++ w ∷ []) ≡ e ∷ []))

-- a lane that has not started has no entries
abbrev pub NoneUnstarted : Type 0
NoneUnstarted = (p : Params) (t : Timing) (lane : ℕ) (taken : List Taken) → AreTens taken
    → (report_b p t lane taken).started ≡ None → entries_b p t lane taken ≡ []

-- nor has one that started outside its window
abbrev pub NoneOutside : Type 0
NoneOutside = (p : Params) (t : Timing) (lane : ℕ) (taken : List Taken) (f : ℕ) → AreTens taken
    → (report_b p t lane taken).started ≡ Some f → is_inside t f ≡ false
    → entries_b p t lane taken ≡ []

-- the first entries, up to 4·P, are the places of the alignment sequence, and those behind them are
-- data
abbrev pub PlacesThenData : Type 0
PlacesThenData = (p : Params) (t : Timing) (lane : ℕ) (taken : List Taken)
    → (cells : List LaneCell) × (entries_b p t lane taken
    ≡ replicate (min (length (entries_b p t lane taken)) (ilas_length p)) Placed ++ map Held cells)
