-- A line of text as contracts see it: its bytes, and room counted in bytes.
-- Code: the fields themselves.
use Rattle.std.specs.Prelude.{ℕ, List}

-- its bytes, and how many there is room for
pub record TextRoom : Type 0 where
  pub bytes : List ℕ
  pub room : ℕ
