use Rattle.std.proofs.Common.{◌≡◌, ◌≤◌, ◌-◌, ◌*◌, ◌/◌, length}
use Rattle.link_run.specs.kept.Handed.{with_frames}
use Rattle.link_run.proofs.frame_octets.add_frames.Given as goal

abbrev pub decreases-loop-from : goal.decreases-loop-from
decreases-loop-from g l = length l.octets - l.from

abbrev pub invariant-loop-from : goal.invariant-loop-from
invariant-loop-from g l = record {
  whole : l.from ≡ l.from / l.all * l.all;
  most : l.from ≤ length l.octets;
  is : l.handed ≡ with_frames l.octets l.size l.all (l.from / l.all) l.fn.handed;
}
