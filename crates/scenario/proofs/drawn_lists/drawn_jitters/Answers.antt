use Rattle.std.proofs.Common.{◌≡◌, ℕ, ◌+◌, ◌*◌, ◌∙◌, map, ap, arith}
use Rattle.scenario.specs.Generated.{drawn_jitter}
use Rattle.scenario.specs.Plans.{numbers_from}
use Rattle.scenario.proofs.DrawLemmas.{drawn-more, none-drawn, state-at}
use Rattle.scenario.proofs.drawn_lists.drawn_jitters.Goals as goal

pub loop-edge-init : goal.loop-edge-init
loop-edge-init c = record {
  drawn = λ number k is. let e : k ≡ k + 0 = omega arith in is ∙ state-at number _ _ e;
  items = λ number p is. none-drawn (drawn_jitter number p) _ c.in_ok-jitters.ensures.items;
}

pub loop-edge-preserved : goal.loop-edge-preserved
loop-edge-preserved c =
    let i = c.loop-edge.invariant in
    let edge : ℕ = c.loop-edge.edge in
    record {
      drawn = λ number k is. let e : k + edge + 1 ≡ k + (edge + 1) = omega arith in
          c.drawn_jitter.ensures.state number (k + edge) (i.drawn number k is)
          ∙ state-at number _ _ e;
      items = λ number p is.
          drawn-more (drawn_jitter number p) edge _ _ _ c.in_ok-push.ensures.items
          (i.items number p is)
          (c.drawn_jitter.ensures.answer number p (i.drawn number (6 + 2 * p.l) is));
    }

pub returns-clause-answer : goal.returns-clause-answer
returns-clause-answer c = λ number p is.
    let e : c.loop-edge.edge ≡ 8 = omega arith in
    c.loop-edge.invariant.items number p is
    ∙ ap (λ n. map (drawn_jitter number p) (numbers_from 0 n)) e

pub returns-clause-state : goal.returns-clause-state
returns-clause-state c = λ number k is.
    let e : k + c.loop-edge.edge ≡ k + 8 = omega arith in
    c.loop-edge.invariant.drawn number k is ∙ state-at number _ _ e
