use Rattle.std.proofs.Common.{[], ◌∙◌, ap, refl, subst}
use Rattle.link_params.specs.declared.fields.Params.{Params}
use Rattle.multiblock.specs.kept.Hunts.{HasHunted}
use Rattle.lane_c.proofs.Searching.{has_taken-nothing, hunts-on-start}
use Rattle.lane_c.proofs.receiver.RxLaneC.open.Goals as goal

pub returns-clause-taken : goal.returns-clause-taken
returns-clause-taken c = λ lane.
    has_taken-nothing _ c.args.link.now.params c.args.link.now.timing lane c.new.result refl refl
    (hunts-on-start c.new.result c.args.link.now.params.e
    (subst (λ (q : Params). HasHunted c.new.result q.e [])
    (c.params.ensures.same ∙ c.shape.ensures.same) c.new.ensures))
    (ap (λ q. q.cells) c.in_ok-open.ensures)
