use Rattle.std.proofs.Common.{◌+◌, ◌-◌, ◌*◌}
use Rattle.lane_threads.proofs.segment.+part.Given as goal

abbrev pub decreases-run_part : goal.decreases-run_part
decreases-run_part g l = 3 * l.workers

abbrev pub decreases-run_both-high : goal.decreases-run_both-high
decreases-run_both-high g l = 3 * l.more + 1

abbrev pub decreases-run_both-low : goal.decreases-run_both-low
decreases-run_both-low g l = 3 * l.few + 1

abbrev pub decreases-run_both : goal.decreases-run_both
decreases-run_both g l = 3 * (l.few + l.more) - 1
