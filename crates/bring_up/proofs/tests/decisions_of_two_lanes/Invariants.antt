use Rattle.std.proofs.Common.{List}
use Rattle.link_params.specs.declared.lane_report.LaneReport.{LaneReport as Report}
use Rattle.bring_up.specs.kept.Controls.{HasDecided}
use Rattle.bring_up.proofs.tests.decisions_of_two_lanes.Given as goal

abbrev pub invariant-loop-at : goal.invariant-loop-at
invariant-loop-at g l = (before : List (List Report)) × HasDecided l.control l.link.params l.link.timing before
