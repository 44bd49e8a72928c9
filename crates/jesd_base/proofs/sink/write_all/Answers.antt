use Rattle.std.proofs.Common.{arith, ◌∙◌}
use Rattle.jesd_base.proofs.StreamLemmas.{added-append}
use Rattle.std.proofs.Math.Seq.{take-add}
use Rattle.std.proofs.lemmas.List.{take_rest}
use Rattle.jesd_base.proofs.sink.write_all.Goals as goal

pub writing-preserved : goal.writing-preserved
writing-preserved g c = record {
  at = omega (arith, c.in-Ok.ensures.room);
  added = rw (take-add c.writing.at c.in-Ok.n c.args.bytes.now, ← take_rest c.args.bytes.now c.writing.at)
      (added-append _ _ _ _ _ c.writing.invariant.added c.in-Ok.ensures.next);
  same = c.in-Ok.ensures.same ∙ c.writing.invariant.same;
}
