use Rattle.std.proofs.Common.{◌≡◌, false, take}
use Rattle.std.specs.List.{list_any}
use Rattle.scenario.specs.declared.plan.Event.{Event}
use Rattle.link_model.specs.Edges.{resets}
use Rattle.link_run.proofs.events.has_reset.Given as goal

abbrev pub invariant-loop-event : goal.invariant-loop-event
invariant-loop-event l = list_any (λ (e : Event). resets l.device e.what)
    (take l.event-index l.events) ≡ false
