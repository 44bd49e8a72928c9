use Rattle.std.proofs.Common.{inl, inr}
use Rattle.std.specs.Prelude.{replicate}
use Rattle.std.proofs.lemmas.Bool.{cases_lt}
use Rattle.std.proofs.lemmas.List.{get_or-replicate, get_or_past}
use Rattle.multiblock.proofs.place_hunt.no_heads.Goals as goal

pub returns : goal.returns
returns c = λ k. elim (cases_lt k 1024) [ inl low ↦ get_or-replicate 1024 k 0 0 low | inr high ↦ get_or_past (replicate 1024 0) k 0 high ]
