use Rattle.std.proofs.Common.{◌≡◌, ℕ, ◌+◌, ◌*◌, ◌∙◌, map, ap, arith}
use Rattle.link_params.specs.declared.fields.Params.{Params}
use Rattle.scenario.specs.Generated.{drawn_delay}
use Rattle.scenario.specs.Plans.{numbers_from}
use Rattle.scenario.proofs.DrawLemmas.{drawn-more, none-drawn, state-at}
use Rattle.scenario.proofs.drawn_lists.drawn_delays.Goals as goal

pub loop-lane-init : goal.loop-lane-init
loop-lane-init c = record {
  drawn = λ number is. is;
  items = λ number is high.
      none-drawn (drawn_delay number c.args.link.now.params) _ c.in_ok-events.ensures.items;
}

pub loop-lane-preserved : goal.loop-lane-preserved
loop-lane-preserved c =
    let i = c.loop-lane.invariant in
    let lane : ℕ = c.loop-lane.lane in
    let e : 6 + 2 * lane + 2 ≡ 6 + 2 * (lane + 1) = omega arith in
    record {
      drawn = λ number is. c.drawn_delay.ensures.state number (6 + 2 * lane) (i.drawn number is)
          ∙ state-at number _ _ e;
      items = λ number is high.
          drawn-more (drawn_delay number c.args.link.now.params) lane _ _ _
          c.in_ok-push.ensures.items (i.items number is high)
          (c.drawn_delay.ensures.answer number (i.drawn number is) high);
    }

pub returns-clause-answer : goal.returns-clause-answer
returns-clause-answer c = λ number is high.
    let same : c.shape.result.l ≡ c.args.link.now.params.l =
    ap (λ (q : Params). q.l) c.shape.ensures.same in
    let e : c.loop-lane.lane ≡ c.args.link.now.params.l =
    omega (arith, c.lanes-lanes.ensures.value, same) in
    c.loop-lane.invariant.items number is high
    ∙ ap (λ n. map (drawn_delay number c.args.link.now.params) (numbers_from 0 n)) e

pub returns-clause-state : goal.returns-clause-state
returns-clause-state c = λ number is.
    let same : c.shape.result.l ≡ c.args.link.now.params.l =
    ap (λ (q : Params). q.l) c.shape.ensures.same in
    let e : 6 + 2 * c.loop-lane.lane ≡ 6 + 2 * c.args.link.now.params.l =
    omega (arith, c.lanes-lanes.ensures.value, same) in
    c.loop-lane.invariant.drawn number is ∙ state-at number _ _ e
