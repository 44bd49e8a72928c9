use Rattle.lane_b.proofs.Lasting.{done-lasts, fault-lasts, loss-lasts, start-lasts}
use Rattle.lane_b.proofs.laws.lasting_reports.Goals as goal

pub returns : goal.returns
returns c = record {
  start = start-lasts;
  loss = loss-lasts;
  fault = fault-lasts;
  done = done-lasts;
}
