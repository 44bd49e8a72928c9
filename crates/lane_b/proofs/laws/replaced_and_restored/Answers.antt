use Rattle.lane_b.proofs.Ties.{replaces, restores, sends-last}
use Rattle.lane_b.proofs.laws.replaced_and_restored.Goals as goal

pub returns : goal.returns
returns c = record {
  replaced = replaces;
  last = sends-last;
  restored = restores;
}
