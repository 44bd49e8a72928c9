use Rattle.std.proofs.Common.{◌≡◌, ◌<◌, Some}
use Rattle.link_params.specs.Numbers.{period}
use Rattle.lane_b.proofs.tests_sender.data_word.Given as goal

abbrev pub invariant-loop : goal.invariant-loop
invariant-loop l = (l.sender.next ≡ Some l.place) × (period l.sender.params ≡ l.period) × (l.place < l.period)
