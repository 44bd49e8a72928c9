use Rattle.std.proofs.Common.{rules}
use Rattle.std.proofs.lemmas.List.Sorted.{answers_always, IsNonDecreasingBy-from_sort}
use Rattle.std.proofs.lemmas.Result.{on_ok_weaker}
use Rattle.scenario.specs.declared.plan.Event.{Event}
use Rattle.scenario.proofs.OrderLemmas.{in_order-sorted}
use Rattle.scenario.proofs.finish.sort_events.Goals as goal

pub returns-clause-order : goal.returns-clause-order
returns-clause-order c =
    let keys = answers_always _ _ _ (λ f a r next called. search rules) in
    let stable = c.sort_by_key.ensures.stable (λ (e : Event). e.tick) keys in
    on_ok_weaker c.sort_by_key.result
    (λ sorted ticks below. in_order-sorted ticks _ _ below
    (IsNonDecreasingBy-from_sort (λ (e : Event). e.tick) _ (sorted (λ (e : Event). e.tick) keys))
    stable)
    c.sort_by_key.ensures.sorted

pub returns-clause-sorted : goal.returns-clause-sorted
returns-clause-sorted c =
    let keys = answers_always _ _ _ (λ f a r next called. search rules) in
    on_ok_weaker c.sort_by_key.result
    (λ sorted. IsNonDecreasingBy-from_sort (λ (e : Event). e.tick) _
    (sorted (λ (e : Event). e.tick) keys))
    c.sort_by_key.ensures.sorted
