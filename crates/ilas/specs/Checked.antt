-- The check of a received alignment sequence: the first place that breaks a rule, and why
-- (JESD204B.01 clauses 5.3.3.5 initial lane alignment and 8.3 link configuration data; the causes
-- are this project's own). A place counts characters from the start of the sequence.
-- Code: one reading at a time, with the configuration octets so far.
use Rattle.std.specs.Prelude.{ℕ, suc, ◌+◌, ◌-◌, ◌*◌, ◌%◌, ◌==◌, nat_le, nat_lt, Bool, true, false, ◌&&◌, if◌then◌else◌, List, [], ◌∷◌, map, length, take, drop, Option, Some, None}
use Rattle.link_params.specs.declared.fields.Params.{Params}
use Rattle.link_params.specs.declared.ilas_state.IlasCause.{IlasCause}
use Rattle.link_params.specs.declared.ilas_state.IlasCause.TheVariants.{Code, Wrong, LaneId, Config, Fchk}
use Rattle.link_params.specs.declared.ilas_state.IlasState.{IlasState}
use Rattle.link_params.specs.declared.ilas_state.IlasState.TheVariants.{Idle, Going, Done, Fault}
use Rattle.link_params.specs.Numbers.{period}
use Rattle.link_params.specs.Config.{differs, has_sum}
use Rattle.code_8b10b.specs.declared.character.Char.{Char}
use Rattle.code_8b10b.specs.declared.character.Char.TheVariants.{Data, Control}
use Rattle.code_8b10b.specs.declared.character.Reading.{Reading}
use Rattle.code_8b10b.specs.declared.character.Reading.TheVariants.{Char as Read, Disparity, Invalid}
pub use Rattle.code_8b10b.specs.Reads.{octet_of_char, octet_read}
use Rattle.ilas.specs.Sequence.{ilas_char}

-- the receiver allows a character at a place: the stated control character, or any data
abbrev pub is_allowed : Char → Char → Bool
is_allowed (Control a) (Control c) = a == c
is_allowed (Control a) (Data o) = false
is_allowed (Data a) (Data o) = true
is_allowed (Data a) (Control c) = false

-- the fourteen configuration octets among the readings since place 0
abbrev pub config_read : Params → List Reading → List ℕ
config_read p readings = map octet_read (take 14 (drop (period p + 2) readings))

-- why octet i, read as o, is not the lane's: octet 2 names another lane, by its five low bits
abbrev pub difference : ℕ → ℕ → IlasCause
difference i o = if i == 2 then LaneId (o % 32) else Config

-- what is wrong with the configuration octet i that was read as o: octet 13 is neither sum, or another differs in its
-- compared bits
abbrev pub config_cause : Params → ℕ → List Reading → ℕ → ℕ → Option IlasCause
config_cause p lane readings i o = if i == 13 then (if has_sum (config_read p readings) then None else Some Fchk)
    else (if differs p lane i o then Some (difference i o) else None)

-- why the reading at place x breaks a rule, after the readings up to it
unfoldable pub cause_at : Params → ℕ → List Reading → ℕ → Reading → Option IlasCause
cause_at p lane readings x Invalid = Some Code
cause_at p lane readings x (Disparity c) = Some Code
cause_at p lane readings x (Read c) =
    let first = period p + 2 in
    if is_allowed (ilas_char p lane x) c then (if nat_le first x && nat_lt x (first + 14) then config_cause p lane readings (x - first) (octet_of_char c) else None)
    else Some Wrong

abbrev pub fault_or : ℕ → Option IlasCause → IlasState → IlasState
fault_or x (Some cause) state = Fault x cause
fault_or x None state = state

-- the first place from x on that breaks a rule, with its cause; else the state
unfoldable pub first_fault : Params → ℕ → List Reading → ℕ → List Reading → IlasState → IlasState
first_fault p lane readings x [] state = state
first_fault p lane readings x (r ∷ rest) state = let later = first_fault p lane readings (suc x) rest state in
    fault_or x (cause_at p lane readings x r) later

-- the state of the check after these readings since place 0: Done with the last place of the sequence
unfoldable pub ilas_state : Params → ℕ → List Reading → IlasState
ilas_state p lane [] = Idle
ilas_state p lane (r ∷ rest) = let n = 4 * period p in let readings = take n (r ∷ rest) in
    first_fault p lane readings 0 readings (if length readings == n then Done else Going)
