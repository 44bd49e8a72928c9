use Rattle.std.proofs.Common.{◌≡◌, ◌&&◌, ◌==◌, if◌then◌else◌, take, pos}
use Rattle.std.specs.List.{fold}
use Rattle.scenario.specs.declared.plan.Jitter.{Jitter}
use Rattle.link_model.specs.Edges.{is_device}
use Rattle.link_run.proofs.device_clock.jitter_of.Given as goal

abbrev pub invariant-loop-j : goal.invariant-loop-j
invariant-loop-j l = l.sixteenths ≡ fold (λ x (j : Jitter). if is_device l.device j.device
    && (j.edge == l.edge) then j.sixteenths else x) (pos 0) (take l.j-index l.jitters)
