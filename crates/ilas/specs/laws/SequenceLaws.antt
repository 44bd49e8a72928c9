-- A law of the sequence.
-- Code: none of this is computed.
use Rattle.std.specs.Prelude.{◌≡◌, ℕ, ◌*◌, ◌<◌, length, slice_get, Some}
use Rattle.link_params.specs.declared.fields.Params.{Params}
use Rattle.link_params.specs.Numbers.{period}
use Rattle.ilas.specs.Sequence.{ilas, ilas_char}

-- the sequence has the stated character at each of its places, and no more places
pub record IsSequence (p : Params) (lane : ℕ) : Type 0 where
  pub whole : length (ilas p lane) ≡ 4 * period p
  pub at : (x : ℕ) → x < 4 * period p → slice_get (ilas p lane) x ≡ Some (ilas_char p lane x)

abbrev pub CharAtEachPlace : Type 0
CharAtEachPlace = (p : Params) (lane : ℕ) → IsSequence p lane
