use Rattle.std.proofs.Common.{◌∙◌, ◌&&◌, ◌==◌, if◌then◌else◌, pos, ap}
use Rattle.std.proofs.lemmas.List.{take_all}
use Rattle.std.specs.List.{fold}
use Rattle.scenario.specs.declared.plan.Jitter.{Jitter}
use Rattle.link_model.specs.Edges.{is_device, jitter}
use Rattle.link_run.proofs.device_clock.jitter_of.Goals as goal

pub returns : goal.returns
unfolding jitter
returns c =
    let whole = take_all c.loop-j.j-index c.args.jitters.now c.loop-j-test.false in
    c.loop-j.invariant
    ∙ ap (fold (λ x (j : Jitter). if is_device c.args.device j.device
    && (j.edge == c.args.edge) then j.sixteenths else x) (pos 0)) whole
