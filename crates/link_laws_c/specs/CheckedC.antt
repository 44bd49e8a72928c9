-- The mark that a delivered octet of a 64b/66b lane is due, by the received blocks that it depends
-- on: its own and the one before, behind which it is descrambled (JESD204C.1, 64b/66b link layer:
-- scrambling; the marks are this project's own). Octets are counted from the first one of the data,
-- and blocks from the lane's place.
-- Code: marks travel in cells.
use Rattle.std.specs.Prelude.{ℕ, ◌+◌, ◌-◌, ◌/◌, List, map, get_or, Option, Some, None}
use Rattle.link_params.specs.declared.fields.Params.{Params}
use Rattle.link_params.specs.declared.cells.Mark.{Mark}
use Rattle.link_params.specs.declared.cells.Mark.TheVariants.{Ok as Good, Bad}
use Rattle.link_params.specs.Lanes.{Taken, worse}
use Rattle.multiblock.specs.Places.{Place}
use Rattle.lane_c.specs.Locking.{bits_taken, place, start}
use Rattle.lane_c.specs.Statuses.{Judged, known_blocks}

-- the status of block i, by its check; each octet that is given comes of blocks whose check is
-- known
abbrev pub status_at : Params → List Taken → Place → ℕ → Mark
status_at p taken x i =
    get_or (map (λ (b : Judged). b.status) (known_blocks p.mode x (bits_taken taken))) i Bad

-- a block's own status, or that of the block before where that is worse
abbrev pub mark_of_block : Params → List Taken → Place → ℕ → Mark
mark_of_block p taken x i = worse (status_at p taken x i) (status_at p taken x (i - 1))

-- octet n lies in this block, eight octets a block from the one with which the lane starts
abbrev pub mark_since : Params → List Taken → ℕ → Place → Option ℕ → Mark
mark_since p taken n x None = Good
mark_since p taken n x (Some b) = mark_of_block p taken x (b + n / 8)

abbrev pub mark_from : Params → List Taken → ℕ → Option Place → Mark
mark_from p taken n None = Good
mark_from p taken n (Some x) = mark_since p taken n x (start p.e taken x)

-- the mark that octet n of the data is due, of all that the lane took since its hunt: bad where one
-- of its blocks is bad, else fixed where one is fixed; ok where the lane has no place or no start,
-- since no octet is given then
unfoldable pub checked_c : Params → List Taken → ℕ → Mark
checked_c p taken n = mark_from p taken n (place p.e taken)
