use Rattle.std.proofs.Common.{refl}
use Rattle.link_run.proofs.Gathering.{gathered-nothing, no-frames}
use Rattle.link_run.proofs.deframer.Deframer.open.Goals as goal

pub returns-clause-begins : goal.returns-clause-begins
returns-clause-begins c = gathered-nothing _ _ refl refl refl

pub returns-clause-nothing : goal.returns-clause-nothing
returns-clause-nothing c = no-frames _
