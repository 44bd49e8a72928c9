-- Faults of a received 8b/10b lane, and when it is lost (the counts are this project's own). Places
-- count characters from the start: the alignment sequence has the places below 4·P, and data begins
-- at place 4·P.
-- Code: sixteen bits of history and a counter.
use Rattle.std.specs.Prelude.{ℕ, suc, ◌-◌, ◌*◌, ◌==◌, nat_le, nat_lt, Bool, true, false, not, ◌&&◌, ◌||◌, if◌then◌else◌, List, [], ◌∷◌, count_by, take, Option, Some, None}
use Rattle.link_params.specs.declared.fields.Params.{Params}
use Rattle.link_params.specs.Numbers.{period}
use Rattle.code_8b10b.specs.declared.character.Char.{Char}
use Rattle.code_8b10b.specs.declared.character.Char.TheVariants.{Data, Control}
use Rattle.code_8b10b.specs.declared.character.Reading.{Reading}
use Rattle.code_8b10b.specs.declared.character.Reading.TheVariants.{Char as Read, Disparity, Invalid}
use Rattle.code_8b10b.specs.Commas.{begins}
use Rattle.char_replace.specs.Replacement.{ends_frame_only, ends_multiframe}
use Rattle.char_replace.specs.Restoring.{is_accepted, is_bad_char}
use Rattle.ilas.specs.Checked.{is_allowed}
use Rattle.ilas.specs.Sequence.{ilas_char}

abbrev pub ilas_length : Params → ℕ
ilas_length p = 4 * period p

-- in the alignment sequence a fault is a reading other than Char of a character that is allowed at its place
abbrev pub is_wrong_in_ilas : Params → ℕ → Reading → Bool
is_wrong_in_ilas p x (Read c) = not (is_allowed (ilas_char p 0 x) c)
is_wrong_in_ilas p x (Disparity c) = true
is_wrong_in_ilas p x Invalid = true

-- in data it is a bad character
abbrev pub is_fault : Params → ℕ → Reading → Bool
is_fault p x r = if nat_lt x (ilas_length p) then is_wrong_in_ilas p x r else is_bad_char p (x - ilas_length p) r

-- whether each reading is a fault, where the first has place x
unfoldable pub faults_from : Params → ℕ → List Reading → List Bool
faults_from p x [] = []
faults_from p x (r ∷ rs) = is_fault p x r ∷ faults_from p (suc x) rs

-- some part that goes on to the end of the list passes the test
unfoldable pub some_rest : (List Bool → Bool) → List Bool → Bool
some_rest test [] = false
some_rest test (x ∷ xs) = test (x ∷ xs) || some_rest test xs

-- four of sixteen in a row are faults
abbrev pub has_four_faults : List Bool → Bool
has_four_faults faults = some_rest (λ rest. nat_le 4 (count_by (λ b. b) (take 16 rest))) faults

abbrev pub is_alignment : Char → Bool
is_alignment (Data o) = false
is_alignment (Control o) = (o == 0x7C) || (o == 0xFC)

-- a character is the alignment character of its place: /A/ where a multiframe ends, /F/ where another frame does
abbrev pub stands_in_ilas : Params → ℕ → Char → Bool
stands_in_ilas p x (Data o) = false
stands_in_ilas p x (Control o) = ((o == 0x7C) && ends_multiframe p x) || ((o == 0xFC) && ends_frame_only p x)

-- it is accepted: in the alignment sequence as in data
abbrev pub is_accepted_since : Params → ℕ → Char → Bool
is_accepted_since p x c = if nat_lt x (ilas_length p) then stands_in_ilas p x c else is_accepted p (x - ilas_length p) c

-- true for an accepted alignment character, false for one that was read as Char at a place that does not accept it
abbrev pub accepted_or_misplaced : Bool → Bool → Option Bool
accepted_or_misplaced accepted misplaced = if accepted then Some true else (if misplaced then Some false else None)

abbrev pub alignment_at : Params → ℕ → Reading → Option Bool
alignment_at p x (Read c) = accepted_or_misplaced (is_accepted_since p x c) (is_alignment c)
alignment_at p x (Disparity c) = accepted_or_misplaced (is_accepted_since p x c) false
alignment_at p x Invalid = None

abbrev pub with_option : Option Bool → List Bool → List Bool
with_option None bs = bs
with_option (Some b) bs = b ∷ bs

-- the alignment characters in order, each accepted or misplaced
unfoldable pub alignments_from : Params → ℕ → List Reading → List Bool
alignments_from p x [] = []
alignments_from p x (r ∷ rs) = with_option (alignment_at p x r) (alignments_from p (suc x) rs)

-- four misplaced with no accepted one between
abbrev pub has_four_misplaced : List Bool → Bool
has_four_misplaced alignments = some_rest (begins (false ∷ false ∷ false ∷ false ∷ [])) alignments

-- a lane is lost after these readings since its start
unfoldable pub is_lost : Params → List Reading → Bool
is_lost p since = has_four_faults (faults_from p 0 since) || has_four_misplaced (alignments_from p 0 since)
