-- The mark that a delivered octet is due, by the received pieces that it depends on (this project's
-- own rules of marks). The code and the definitions of a lane let marks travel with octets; here
-- each octet is asked for its pieces alone.
-- Code: marks travel in cells.
use Rattle.std.specs.Prelude.{ℕ, zero, suc, ◌+◌, ◌-◌, ◌*◌, if◌then◌else◌, List, [], ◌∷◌, map, drop, fold, Option, Some, None}
use Rattle.std.specs.List.{flat_map, list_any, slice_index_or}
use Rattle.link_params.specs.declared.fields.Params.{Params}
use Rattle.link_params.specs.declared.cells.Mark.{Mark}
use Rattle.link_params.specs.declared.cells.Mark.TheVariants.{Ok as Good, Bad}
use Rattle.link_params.specs.Lanes.{Taken, worse}
use Rattle.code_8b10b.specs.declared.character.Reading.{Reading}
use Rattle.code_8b10b.specs.declared.character.Reading.TheVariants.{Invalid}
use Rattle.char_replace.specs.Restoring.{is_bad_char, is_repeat}
use Rattle.lane_b.specs.Locking.{Lock, lock, since_start}
use Rattle.lane_b.specs.Loss.{ilas_length}
use Rattle.scenario.specs.Plans.{numbers_from}

-- the mark that octet n of a lane's data is due, of all that the lane took since its hunt
abbrev pub Checks : Type 0
Checks = Params → List Taken → ℕ → Mark

-- the reading of octet n of the data
abbrev pub reading_at : List Reading → ℕ → Reading
reading_at read n = slice_index_or read n Invalid

-- without scrambling: its own character, and where that is an accepted alignment character, what
-- the octet a frame before depends on; fewer than `most` steps go back
unfoldable pub repeated_pieces : Params → List Reading → ℕ → ℕ → List ℕ
repeated_pieces p read zero n = []
repeated_pieces p read (suc most) n = let before = repeated_pieces p read most (n - p.f) in
    n ∷ (if is_repeat p n (reading_at read n) then before else [])

-- with scrambling: its own character and the two before it since the alignment sequence
abbrev pub scrambled_pieces : ℕ → List ℕ
scrambled_pieces n = numbers_from (n - 2) (n + 1 - (n - 2))

-- the places of the characters that octet n depends on
abbrev pub pieces : Params → List Reading → ℕ → List ℕ
pieces p read n = if p.scr then scrambled_pieces n else repeated_pieces p read (n + 1) n

-- the data of a lane: its readings behind the alignment sequence
abbrev pub data_read : Params → Option Lock → List Reading
data_read p None = []
data_read p (Some l) = drop (ilas_length p) (since_start l)

-- bad where one of its pieces is bad
unfoldable pub checked_b : Params → List Taken → ℕ → Mark
checked_b p taken n = let read = data_read p (lock taken) in
    if list_any (λ x. is_bad_char p x (reading_at read x)) (pieces p read n) then Bad else Good

-- the mark that frame k of a session is due: the worst over its octets on all lanes, by what was taken
-- for each lane of the frame
abbrev pub checked_frame : Checks → Params → (ℕ → List Taken) → ℕ → Mark
checked_frame checks p taken k =
    fold worse Good (flat_map (λ lane. map (checks p (taken lane)) (numbers_from (k * p.f) p.f))
    (numbers_from 0 p.l))
