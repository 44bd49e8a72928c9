-- What a receiver lane keeps of its readings since the start, as contracts see it. Places count
-- characters from the start.
-- Code: the fields themselves.
use Rattle.std.specs.Prelude.{◌≡◌, ◌<◌, ◌+◌, ◌*◌, ◌%◌, ◌==◌, nat_lt, if◌then◌else◌, ℕ, List, [], ◌∷◌, ◌++◌, Option, length, drop}
use Rattle.link_params.specs.declared.fields.Params.{Params}
use Rattle.link_params.specs.declared.ilas_state.IlasState.{IlasState}
use Rattle.link_params.specs.declared.cells.LaneCell.{LaneCell}
use Rattle.link_params.specs.Lanes.{Entry}
use Rattle.link_params.specs.Numbers.{period}
use Rattle.code_8b10b.specs.declared.character.Reading.{Reading}
use Rattle.ilas.specs.Checked.{ilas_state}
use Rattle.ilas.specs.kept.Checks.{Checker, HasChecked}
use Rattle.lane_b.specs.Loss.{ilas_length, faults_from, alignments_from}
use Rattle.lane_b.specs.Received.{entries_since}
use Rattle.lane_b.specs.kept.Gives.{given}
use Rattle.lane_b.specs.kept.Counts.{Counter, HasCounted}
use Rattle.lane_b.specs.kept.Cells.{Giver, HasReadData}

-- a reading more gives one entry more, and this is what it gives
pub record GivesEntry (p : Params) (since : List Reading) (r : Reading) (result : Option LaneCell) : Type 0 where
  pub entry : Entry
  pub added : entries_since p (since ++ r ∷ []) ≡ entries_since p since ++ entry ∷ []
  pub gives : result ≡ given entry

-- the parameters, the check of the alignment sequence and its state, the place of the next reading, the counts of faults, and what
-- makes octets of data
pub record Reader : Type 0 where
  pub params : Params
  pub check : Checker
  pub ilas : IlasState
  pub place : ℕ
  pub loss : Counter
  pub octets : Giver

-- places as they are kept, for a period: after the first multiframe of data they go round in the second one
abbrev pub kept_place : ℕ → ℕ → ℕ
kept_place period n = if nat_lt n (5 * period) then n else 5 * period + n % period

abbrev pub next_kept_place : ℕ → ℕ → ℕ
next_kept_place period place = if place + 1 == 6 * period then 5 * period else place + 1

-- a lane of this link has had these readings since its start
pub record HasRead (now : Reader) (p : Params) (lane : ℕ) (since : List Reading) : Type 0 where
  pub params : now.params ≡ p
  pub place : now.place ≡ kept_place (period p) (length since)
  pub check : length since < ilas_length p → HasChecked now.check p lane since
  pub ilas : now.ilas ≡ ilas_state p lane since
  pub loss : HasCounted now.loss (faults_from p 0 since) (alignments_from p 0 since)
  pub octets : HasReadData now.octets p (drop (ilas_length p) since)
