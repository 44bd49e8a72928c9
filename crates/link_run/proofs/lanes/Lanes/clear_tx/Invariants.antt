use Rattle.link_run.proofs.LaneLemmas.{HaveChanged, IsCleared}
use Rattle.link_run.proofs.lanes.Lanes.clear_tx.Given as goal

abbrev pub invariant-loop-pair : goal.invariant-loop-pair
invariant-loop-pair l = HaveChanged IsCleared l.initial.pair-items l.pair-items l.pair-index
