use Rattle.std.proofs.Common.{◌≡◌, vec_len}
use Rattle.link_run.proofs.LaneLemmas.{AreOpened, ArePaired}
use Rattle.link_run.specs.kept.Opened.{IsOpened, IsOpenedEnd}
use Rattle.link_run.proofs.lanes.Lanes.open.Given as goal

abbrev pub invariant-loop-lane : goal.invariant-loop-lane
invariant-loop-lane l = record {
  opened : AreOpened (IsOpened l.s l.link) l.pairs.items l.lane;
  ends : AreOpened (λ k. IsOpenedEnd) l.ends.items l.lane;
  paired : ArePaired l.pairs.items l.ends.items l.lane;
  long : vec_len l.pairs ≡ l.lane;
}
