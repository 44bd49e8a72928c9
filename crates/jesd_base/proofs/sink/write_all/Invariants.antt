use Rattle.std.proofs.Common.{◌≡◌, ◌≤◌, ◌-◌, length, take}
use Rattle.jesd_base.specs.Streams.{Added}
use Rattle.jesd_base.proofs.sink.write_all.Given as goal

abbrev pub invariant-writing : goal.invariant-writing
invariant-writing g l = record {
  at : l.at ≤ length l.bytes;
  added : Added (g.K.Sink.written l.fn.out) (g.K.Sink.written l.out) (take l.at l.bytes);
  same : g.K.Sink.faults l.out ≡ g.K.Sink.faults l.fn.out;
}

abbrev pub decreases-writing : goal.decreases-writing
decreases-writing g l = length l.bytes - l.at
