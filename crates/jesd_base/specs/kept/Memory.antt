-- A source and a sink in memory, as contracts see them. Pieces and room count bytes; calls and
-- faults stay at 2^64 - 1 once they are there.
-- Code: all bytes, and the place of the next one.
use Rattle.std.specs.Prelude.{ℕ, List}

-- a source in memory: the bytes left, how many a call gives at most, which calls fail, and how many were made and failed
pub record Supply : Type 0 where
  pub left : List ℕ
  pub piece : ℕ
  pub fails : List ℕ
  pub calls : ℕ
  pub faults : ℕ

-- a sink in memory: the bytes taken, its room, how many a call takes at most, which calls fail, and how many were made and failed
pub record Store : Type 0 where
  pub bytes : List ℕ
  pub room : ℕ
  pub piece : ℕ
  pub fails : List ℕ
  pub calls : ℕ
  pub faults : ℕ
