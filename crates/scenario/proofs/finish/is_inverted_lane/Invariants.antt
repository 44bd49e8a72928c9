use Rattle.std.proofs.Common.{◌≡◌, take}
use Rattle.scenario.specs.Plans.{is_inverted_lane}
use Rattle.scenario.proofs.finish.is_inverted_lane.Given as goal

abbrev pub invariant-loop-polarity : goal.invariant-loop-polarity
invariant-loop-polarity l = l.inverted ≡ is_inverted_lane (take l.polarity-index l.polarities) l.lane
