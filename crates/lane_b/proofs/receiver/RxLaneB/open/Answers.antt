use Rattle.std.proofs.Common.{ap, refl}
use Rattle.lane_b.proofs.TakenLemmas.{has_taken-nothing}
use Rattle.lane_b.proofs.receiver.RxLaneB.open.Goals as goal

pub returns-clause-taken : goal.returns-clause-taken
returns-clause-taken c =
    has_taken-nothing _ c.args.link.now.params c.args.link.now.timing c.args.lane c.new.result refl refl refl refl refl (ap (λ q. q.cells) c.in_ok-open.ensures) c.new.ensures
