use Rattle.lane_threads.proofs.LaneLists.{keeps-pairs, lanes-go-on}
use Rattle.lane_threads.proofs.laws.segments_go_on.Goals as goal

pub returns : goal.returns
returns c = record { pairs = keeps-pairs; lanes = lanes-go-on }
