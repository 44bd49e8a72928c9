use Rattle.std.proofs.Common.{◌≡◌, ◌∙◌, ◌++◌, ◌∷◌, [], ℕ, Bool, List, ap, ap₂, arith}
use Rattle.scenario.specs.Plans.{numbers_from, inverted_lanes}
use Rattle.scenario.proofs.LaneOrders.{inverted-push}
use Rattle.scenario.proofs.finish.inverted_lanes.Goals as goal

pub loop-lane-init : goal.loop-lane-init
unfolding inverted_lanes numbers_from
loop-lane-init c = c.new-lanes.ensures.items

pub loop-lane-preserved : goal.loop-lane-preserved
loop-lane-preserved c =
    c.in_ok-push.ensures.items
    ∙ ap₂ (λ (xs : List Bool) (b : Bool). xs ++ b ∷ []) c.loop-lane.invariant c.is_inverted_lane.ensures
    ∙ inverted-push c.loop-lane.lane c.args.polarities.now

pub returns : goal.returns
returns c =
    let top = c.loop-lane.auto.lane-end in
    let over = c.loop-lane-test.false in
    let same : c.loop-lane.lane ≡ c.args.count = omega arith in
    c.loop-lane.invariant ∙ ap (λ (n : ℕ). inverted_lanes n c.args.polarities.now) same
