use Rattle.std.proofs.Common.{◌≡◌, ◌==◌, drop}
use Rattle.std.specs.List.{list_any}
use Rattle.scenario.proofs.wiring.is_among.Given as goal

abbrev pub invariant-loop-other : goal.invariant-loop-other
invariant-loop-other l = list_any (λ x. x == l.lane) (drop l.other-index l.lanes)
    ≡ list_any (λ x. x == l.lane) l.lanes
