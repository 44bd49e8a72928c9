use Rattle.std.proofs.Common.{◌≡◌, refl}
use Rattle.link_model.specs.kept.LaneRuns.{no_run}
use Rattle.lane_threads.proofs.lane.Lane.open.Goals as goal

pub returns-clause-begins : goal.returns-clause-begins
returns-clause-begins c = λ s own link wired routed flips.
    c.with_line.ensures.begins s own (no_run s) link wired routed (refl, refl, refl, refl)
    (c.in_ok-line.ensures.begins s own link flips)
