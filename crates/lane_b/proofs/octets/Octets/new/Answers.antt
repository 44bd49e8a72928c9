use Rattle.std.proofs.Common.{refl}
use Rattle.lane_b.specs.Received.{restored}
use Rattle.lane_b.specs.kept.Cells.{last_of, last_but_one_of}
use Rattle.lane_b.proofs.octets.Octets.new.Goals as goal

pub returns : goal.returns
unfolding restored last_of last_but_one_of
returns c = record { params = refl; restored_so = c.new.ensures; descrambled_so = c.new-2.ensures.descrambled; one_bad = refl; two_bad = refl }
