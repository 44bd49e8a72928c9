use Rattle.link_run.proofs.LaneLemmas.{HasGiven, HaveChanged}
use Rattle.link_run.proofs.lanes.Lanes.give.Given as goal

abbrev pub invariant-loop-pair : goal.invariant-loop-pair
invariant-loop-pair l = HaveChanged HasGiven l.initial.pair-items l.pair-items l.pair-index
