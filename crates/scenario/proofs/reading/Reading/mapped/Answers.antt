use Rattle.std.proofs.Common.{◌∙◌, length, ap}
use Rattle.scenario.specs.Answer.{seen_of}
use Rattle.scenario.proofs.LaneOrders.{length-inverted, order-numbers}
use Rattle.scenario.proofs.InputLemmas.{mapped-sound}
use Rattle.scenario.proofs.reading.Reading.mapped.Goals as goal

pub invariant_of-result-clause-words_fit : goal.invariant_of-result-clause-words_fit
invariant_of-result-clause-words_fit c =
    (mapped-sound (seen_of c.args.self) c.args.shape c.requires.place c.requires.sound).0.fit

pub invariant_of-result-clause-whole_frames : goal.invariant_of-result-clause-whole_frames
invariant_of-result-clause-whole_frames c =
    (mapped-sound (seen_of c.args.self) c.args.shape c.requires.place c.requires.sound).0.whole

pub invariant_of-result-clause-whole_octets : goal.invariant_of-result-clause-whole_octets
invariant_of-result-clause-whole_octets c =
    (mapped-sound (seen_of c.args.self) c.args.shape c.requires.place c.requires.sound).1.whole

pub invariant_of-result-clause-no_events : goal.invariant_of-result-clause-no_events
invariant_of-result-clause-no_events c =
    λ e. (mapped-sound (seen_of c.args.self) c.args.shape c.requires.place c.requires.sound).2.0

pub invariant_of-result-clause-no_jitters : goal.invariant_of-result-clause-no_jitters
invariant_of-result-clause-no_jitters c =
    λ e. (mapped-sound (seen_of c.args.self) c.args.shape c.requires.place c.requires.sound).2.1

pub invariant_of-result-clause-no_flips : goal.invariant_of-result-clause-no_flips
invariant_of-result-clause-no_flips c =
    λ e. (mapped-sound (seen_of c.args.self) c.args.shape c.requires.place c.requires.sound).2.2

pub invariant_of-result-clause-wire_lanes : goal.invariant_of-result-clause-wire_lanes
invariant_of-result-clause-wire_lanes c =
    rw (c.in_ok-all_lanes.ensures, c.lanes-lanes.ensures.value) (order-numbers c.args.shape.l)

pub invariant_of-result-clause-route_lanes : goal.invariant_of-result-clause-route_lanes
invariant_of-result-clause-route_lanes c =
    rw (c.in_ok-all_lanes-2.ensures, c.lanes-lanes.ensures.value) (order-numbers c.args.shape.l)

pub invariant_of-result-clause-all_polarities : goal.invariant_of-result-clause-all_polarities
invariant_of-result-clause-all_polarities c =
    ap length c.in_ok-inverted_lanes.ensures ∙ length-inverted _ _ ∙ c.lanes-lanes.ensures.value
