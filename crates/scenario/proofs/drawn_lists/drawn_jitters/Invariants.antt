use Rattle.std.proofs.Common.{◌≡◌, ℕ, ◌+◌, ◌*◌, map}
use Rattle.link_params.specs.declared.fields.Params.{Params}
use Rattle.scenario.specs.Generated.{drawn_jitter, state}
use Rattle.scenario.specs.Plans.{numbers_from}
use Rattle.scenario.proofs.drawn_lists.drawn_jitters.Given as goal

abbrev pub invariant-loop-edge : goal.invariant-loop-edge
invariant-loop-edge l = record {
  drawn : (number k : ℕ) → l.fn.draws.state ≡ state number k
      → l.draws.state ≡ state number (k + l.edge);
  items : (number : ℕ) (p : Params) → l.fn.draws.state ≡ state number (6 + 2 * p.l)
      → l.jitters.items ≡ map (drawn_jitter number p) (numbers_from 0 l.edge);
}
