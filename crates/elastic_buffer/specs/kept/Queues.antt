-- An elastic buffer as contracts see it (JESD204B.01 clause 6, deterministic latency). Its depth
-- counts cells.
-- Code: a circular buffer whose memory is taken when it is opened.
use Rattle.std.specs.Prelude.{ℕ, List}
use Rattle.link_params.specs.declared.cells.LaneCell.{LaneCell}

-- the cells that wait, oldest first, and how many there is room for
pub record Queue : Type 0 where
  pub cells : List LaneCell
  pub depth : ℕ
