use Rattle.std.proofs.Common.{rules, refl}
use Rattle.scenario.specs.declared.kind.Job.TheVariants as job
use Rattle.link_bench.proofs.CauseLemmas.{plan-some, scenario-text}
use Rattle.link_bench.proofs.on_input.do_scenario.Goals.{in-Map+in-Frames, in-Map+in-Ramp, in-Unmap}
use Rattle.link_bench.proofs.on_input.do_scenario.Goals as goal

pub returns-in-Run-clause-cause : goal.returns-in-Run-clause-cause
returns-in-Run-clause-cause g c =
    let ready = rw c.in-Run.is at c.requires.ready in
    let (plan, is) = plan-some c.args.scenario ready in
    rw c.in-Run.is (plan, is, c.run_link.ensures.written plan is)

pub returns-in-Run-clause-kept : goal.returns-in-Run-clause-kept
returns-in-Run-clause-kept g c =
    let ready = rw c.in-Run.is at c.requires.ready in
    let (plan, is) = plan-some c.args.scenario ready in
    rw c.in-Run.is
    ((λ done. (plan, is, c.run_link.ensures.kept plan is done)), c.run_link.ensures.dropped)

pub returns-in-Ok-clause-cause : goal.returns-in-Ok-clause-cause
returns-in-Ok-clause-cause g c =
    let written = rw c.deref-in-Ok.ensures.value at c.write_text.ensures in
    elim c.match-job.branch [
      | in-Map+in-Frames w ↦ rw w.in-Map.is
          (scenario-text job.Map c.args.scenario c.write_text.result c.in-Ok.text.items _ _ _ _
          (rw w.in-Frames.is
          (rw (← w.text-is, c.in-Ok.is, w.deref.ensures.value) at w.mapped.ensures)) written)
      | in-Map+in-Ramp w ↦ rw w.in-Map.is
          (scenario-text job.Map c.args.scenario c.write_text.result c.in-Ok.text.items _ _ _ _
          (rw w.in-Ramp.is (rw (← w.text-is, c.in-Ok.is) at w.mapped-in-Ramp.ensures)) written)
      | in-Unmap w ↦ rw w.in-Unmap.is
          (scenario-text job.Unmap c.args.scenario c.write_text.result c.in-Ok.text.items _ _ _ _
          (rw (← w.text-is, c.in-Ok.is, w.deref-in-Unmap.ensures.value) at w.unmapped-text.ensures)
          written)
    ]

pub returns-clause-cause : goal.returns-clause-cause
returns-clause-cause g c =
    elim c.match-job.branch [
      | in-Map+in-Frames w ↦ rw w.in-Map.is (refl, refl)
      | in-Map+in-Ramp w ↦ rw w.in-Map.is (refl, refl)
      | in-Unmap w ↦ rw w.in-Unmap.is (refl, refl)
    ]
