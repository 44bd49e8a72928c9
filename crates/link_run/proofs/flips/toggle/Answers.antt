use Rattle.link_run.proofs.FlipLemmas.{inserted, removed}
use Rattle.link_run.proofs.flips.toggle.Goals as goal

pub returns-in-Ok-clause-members : goal.returns-in-Ok-clause-members
returns-in-Ok-clause-members c =
    (removed c.args.bits.now.items c.deref.result.now c.remove.new.self.items c.in-Ok.at c.args.bit
    c.deref.ensures.value c.requires
    c.in-Ok.ensures.bound c.in-Ok.ensures.position c.remove.ensures.items).1

pub returns-in-Ok-insert-clause-ascending : goal.returns-in-Ok-insert-clause-ascending
returns-in-Ok-insert-clause-ascending c =
    (inserted c.args.bits.now.items c.deref.result.now c.insert.new.self.items
    c.in-Err.at c.args.bit c.deref.ensures.value c.requires
    c.in-Err.ensures.position c.in-Ok-insert.ensures.items).0

pub returns-in-Ok-insert-clause-members : goal.returns-in-Ok-insert-clause-members
returns-in-Ok-insert-clause-members c =
    (inserted c.args.bits.now.items c.deref.result.now c.insert.new.self.items
    c.in-Err.at c.args.bit c.deref.ensures.value c.requires
    c.in-Err.ensures.position c.in-Ok-insert.ensures.items).1
