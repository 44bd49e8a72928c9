use Rattle.std.proofs.Common.{◌≡◌, ◌∙◌, ◌+◌, ◌++◌, ◌∷◌, [], ℕ, List, ap, arith}
use Rattle.scenario.specs.Plans.{numbers_from}
use Rattle.scenario.proofs.LaneOrders.{numbers-push}
use Rattle.scenario.proofs.wiring.all_lanes.Goals as goal

pub loop-lane-init : goal.loop-lane-init
unfolding numbers_from
loop-lane-init c = c.in_ok-lanes.ensures.items

pub loop-lane-preserved : goal.loop-lane-preserved
loop-lane-preserved c =
    let n : ℕ = c.loop-lane.lane in
    let e : n ≡ 0 + n = omega arith in
    c.in_ok-push.ensures.items
    ∙ ap (λ (xs : List ℕ). xs ++ n ∷ []) c.loop-lane.invariant
    ∙ ap (λ (x : ℕ). numbers_from 0 n ++ x ∷ []) e
    ∙ numbers-push n 0

pub returns : goal.returns
returns c =
    let top = c.loop-lane.auto.lane-end in
    let over = c.loop-lane-test.false in
    let same : c.loop-lane.lane ≡ c.args.count = omega arith in
    c.loop-lane.invariant ∙ ap (numbers_from 0) same
