use Rattle.std.proofs.Common.{◌≡◌, ℕ, ◌+◌, ◌*◌, ◌∙◌, map, ap, arith}
use Rattle.scenario.specs.Generated.{drawn_flip}
use Rattle.scenario.specs.Plans.{numbers_from}
use Rattle.scenario.proofs.DrawLemmas.{drawn-more, none-drawn, state-at}
use Rattle.scenario.proofs.drawn_lists.drawn_flips.Goals as goal

pub loop-flip-init : goal.loop-flip-init
loop-flip-init c = record {
  drawn = λ number k is. let e : k ≡ k + 0 = omega arith in is ∙ state-at number _ _ e;
  items = λ number is.
      none-drawn (drawn_flip number c.args.shape.now) _ c.in_ok-flips.ensures.items;
}

pub loop-flip-preserved : goal.loop-flip-preserved
loop-flip-preserved c =
    let i = c.loop-flip.invariant in
    let at : ℕ = c.loop-flip._flip in
    record {
      drawn = λ number k is. let e : k + 3 * at + 3 ≡ k + 3 * (at + 1) = omega arith in
          c.drawn_flip.ensures.state number (k + 3 * at) (i.drawn number k is)
          ∙ state-at number _ _ e;
      items = λ number is.
          drawn-more (drawn_flip number c.args.shape.now) at _ _ _ c.in_ok-push.ensures.items
          (i.items number is)
          (c.drawn_flip.ensures.answer number at (i.drawn number (15 + 2 * c.args.shape.now.l) is));
    }

pub returns : goal.returns
returns c = λ number is.
    let e : c.loop-flip._flip ≡ 16 = omega arith in
    c.loop-flip.invariant.items number is
    ∙ ap (λ n. map (drawn_flip number c.args.shape.now) (numbers_from 0 n)) e
