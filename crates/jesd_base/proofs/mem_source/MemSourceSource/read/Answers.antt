use Rattle.std.proofs.Common.{ap, ◌∙◌, sym, arith}
use Rattle.jesd_base.proofs.StreamLemmas.{piece-given}
use Rattle.jesd_base.proofs.mem_source.MemSourceSource.read.Goals as goal

pub returns-clause-next : goal.returns-clause-next
returns-clause-next c =
    sym (ap (λ s. s.left) c.self.view_is)
    ∙ piece-given c.self.inside.at c.min-n.result c.self.inside.bytes.items c.copy_from_slice.new.self c.args.buf.now (omega arith)
    (rw c.deref-2.ensures.value at c.copy_from_slice.ensures.after)
