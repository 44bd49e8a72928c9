use Rattle.std.proofs.Common.{◌∙◌, Bool, false, List, get_or, take, refl, ap}
use Rattle.std.proofs.lemmas.List.{take_all}
use Rattle.scenario.specs.Plans.{is_inverted_lane}
use Rattle.scenario.specs.declared.stage.Polarity.{Polarity}
use Rattle.scenario.proofs.LaneOrders.{inverted-more, inverted_by}
use Rattle.scenario.proofs.finish.is_inverted_lane.Goals as goal

pub loop-polarity-init : goal.loop-polarity-init
loop-polarity-init c = refl

pub loop-polarity-preserved : goal.loop-polarity-preserved
loop-polarity-preserved c =
    let k = c.loop-polarity.polarity-index in
    let all : List Polarity = c.args.polarities.now in
    let none : Polarity = record { lane = 0; inverted = false } in
    c.inverted_by-inverted.ensures
    ∙ ap (λ (b : Bool). inverted_by c.args.lane b (get_or all k none)) c.loop-polarity.invariant
    ∙ inverted-more all k c.args.lane none c.loop-polarity-test.true

pub returns : goal.returns
returns c =
    let all : List Polarity = c.args.polarities.now in
    c.loop-polarity.invariant
    ∙ ap (λ (xs : List Polarity). is_inverted_lane xs c.args.lane)
    (take_all c.loop-polarity.polarity-index all c.loop-polarity-test.false)
