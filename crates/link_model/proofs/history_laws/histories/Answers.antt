use Rattle.link_model.proofs.RunTicks.{begins-the-same, has-each-tick, length-run}
use Rattle.link_model.proofs.history_laws.histories.Goals as goal

pub returns : goal.returns
returns c = record {
  one_a_tick = length-run;
  begins_the_same = begins-the-same;
  has_each_tick = has-each-tick;
}
