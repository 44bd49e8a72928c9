-- A check of the sequence, as contracts see it.
-- Code: the fields themselves.
use Rattle.std.specs.Prelude.{◌≡◌, ℕ, ◌+◌, ◌-◌, ◌*◌, ◌<◌, nat_le, nat_lt, ◌&&◌, Bool, true, false, if◌then◌else◌, List, length, take, slice_set}
use Rattle.link_params.specs.declared.fields.Params.{Params}
use Rattle.link_params.specs.declared.ilas_state.IlasState.{IlasState}
use Rattle.link_params.specs.declared.ilas_state.IlasState.TheVariants.{Idle, Going, Done, Fault}
use Rattle.link_params.specs.Numbers.{period}
use Rattle.code_8b10b.specs.declared.character.Reading.{Reading}
use Rattle.ilas.specs.Checked.{config_read, first_fault}
use Rattle.code_8b10b.specs.Reads.{octet_read}

-- the lane that is checked, the place that comes next, the configuration octets that were read, and the last state
pub record Checker : Type 0 where
  pub params : Params
  pub lane : ℕ
  pub place : ℕ
  pub octets : List ℕ
  pub state : IlasState

abbrev pub has_fault : IlasState → Bool
has_fault (Fault x cause) = true
has_fault Idle = false
has_fault Going = false
has_fault Done = false

-- a fault stays, whatever state would come
abbrev pub stays : IlasState → IlasState → IlasState
stays (Fault x cause) later = Fault x cause
stays Idle later = later
stays Going later = later
stays Done later = later

-- the configuration octets with the reading of a place; first: the place of octet 0
abbrev pub kept : List ℕ → ℕ → ℕ → Reading → List ℕ
kept octets place first r = if nat_le first place && nat_lt place (first + 14) then slice_set octets (place - first) (octet_read r) else octets

-- a check goes on: these are the readings that it took, and more are to come
pub record ChecksOn (now : Checker) (p : Params) (readings : List Reading) : Type 0 where
  pub place : now.place ≡ length readings
  pub more : now.place < 4 * period p
  pub octets : take (now.place - (period p + 2)) now.octets ≡ config_read p readings

-- a check of this lane has taken these readings since place 0, and the sequence has not ended well with them: its state is
-- the first fault among them, where there is one
pub record HasChecked (now : Checker) (p : Params) (lane : ℕ) (readings : List Reading) : Type 0 where
  pub params : now.params ≡ p
  pub of_lane : now.lane ≡ lane
  pub first : (later : IlasState) → let taken = take (4 * period p) readings in first_fault p lane taken 0 taken later ≡ stays now.state later
  pub goes_on : has_fault now.state ≡ false → ChecksOn now p readings
