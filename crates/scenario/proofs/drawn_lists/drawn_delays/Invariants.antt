use Rattle.std.proofs.Common.{◌≡◌, ℕ, ◌+◌, ◌*◌, map}
use Rattle.scenario.specs.Generated.{drawn_delay, latest, state}
use Rattle.scenario.specs.Plans.{numbers_from}
use Rattle.scenario.proofs.drawn_lists.drawn_delays.Given as goal

abbrev pub invariant-loop-lane : goal.invariant-loop-lane
invariant-loop-lane l = record {
  drawn : (number : ℕ) → l.fn.draws.state ≡ state number 6
      → l.draws.state ≡ state number (6 + 2 * l.lane);
  items : (number : ℕ) → l.fn.draws.state ≡ state number 6
      → l.link.timing.w_hi ≡ latest number l.link.params
      → l.events.items ≡ map (drawn_delay number l.link.params) (numbers_from 0 l.lane);
}
