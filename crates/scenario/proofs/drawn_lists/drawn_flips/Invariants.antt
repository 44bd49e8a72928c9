use Rattle.std.proofs.Common.{◌≡◌, ℕ, ◌+◌, ◌*◌, map}
use Rattle.scenario.specs.Generated.{drawn_flip, state}
use Rattle.scenario.specs.Plans.{numbers_from}
use Rattle.scenario.proofs.drawn_lists.drawn_flips.Given as goal

abbrev pub invariant-loop-flip : goal.invariant-loop-flip
invariant-loop-flip l = record {
  drawn : (number k : ℕ) → l.fn.draws.state ≡ state number k
      → l.draws.state ≡ state number (k + 3 * l._flip);
  items : (number : ℕ) → l.fn.draws.state ≡ state number (15 + 2 * l.shape.l)
      → l.flips.items ≡ map (drawn_flip number l.shape) (numbers_from 0 l._flip);
}
