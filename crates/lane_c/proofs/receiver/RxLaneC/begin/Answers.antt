use Rattle.std.proofs.Common.{◌≤◌, [], ◌∙◌, sym, ap, subst}
use Rattle.link_params.specs.declared.fields.Params.{Params}
use Rattle.multiblock.specs.kept.Hunts.{HasHunted}
use Rattle.lane_c.proofs.Searching.{has_taken-nothing, hunts-on-start}
use Rattle.lane_c.proofs.Sizes.{few-multiblocks}
use Rattle.lane_c.proofs.receiver.RxLaneC.begin.Goals as goal

pub new-requires-clause-high : goal.new-requires-clause-high
new-requires-clause-high c =
    let params = c.params.ensures.same ∙ c.shape.ensures.same in
    let few : c.self.inside.link.params.e ≤ 32 = few-multiblocks c.self.inside.link.params
    c.shape.ensures.legal c.self.invariant.0 in
    subst (λ (q : Params). q.e ≤ 32) (sym params) few

pub returns-clause-begins : goal.returns-clause-begins
returns-clause-begins c = λ p t lane taken gave h.
    let params = ap (λ r. r.params) c.self.view_is ∙ h.params in
    has_taken-nothing _ p t lane c.new.result params (ap (λ r. r.timing) c.self.view_is ∙ h.timing)
    (hunts-on-start c.new.result p.e (subst (λ (q : Params). HasHunted c.new.result q.e [])
    (c.params.ensures.same ∙ c.shape.ensures.same ∙ params) c.new.ensures))
    (ap (λ q. q.cells) c.clear.ensures)
