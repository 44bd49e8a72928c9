use Rattle.std.proofs.Common.{◌≡◌, ◌≤◌, ◌+◌, ◌-◌, length, vec_len}
use Rattle.jesd_base.specs.Streams.{Gave}
use Rattle.jesd_base.proofs.source.read_all.Given as goal

abbrev pub invariant-reading : goal.invariant-reading
invariant-reading g l = record {
  given : Gave (g.S.Source.left l.fn.input) (g.S.Source.left l.input) l.all.items;
  most : length l.all.items ≤ l.limit + 4096;
  same : g.S.Source.faults l.input ≡ g.S.Source.faults l.fn.input;
}

abbrev pub decreases-reading : goal.decreases-reading
decreases-reading g l = l.limit + 1 - vec_len l.all
