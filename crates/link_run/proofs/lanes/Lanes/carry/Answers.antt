use Rattle.std.proofs.Common.{Bool, List, ◌∙◌, ap, length, subst, sym}
use Rattle.lane_threads.specs.Segments.{EachHasRun}
use Rattle.lane_threads.specs.declared.lane_pair.LanePair.{LanePair}
use Rattle.lane_threads.specs.declared.step.Step.{Step}
use Rattle.link_run.proofs.Carrying.{carried-at, carried-rings, carried-runs, length-run-lanes, on-rings-run}
use Rattle.link_run.proofs.LaneLemmas.{written-back}
use Rattle.link_run.proofs.lanes.Lanes.carry.Goals as goal

pub returns-clause-ran : goal.returns-clause-ran
returns-clause-ran κ c = λ s t m first last is.
    let run = c.run_segment.ensures.lanes in
    let old = c.as_mut_slice.ensures.value ∙ c.self.view_is in
    let count = c.as_mut_slice.ensures.len in
    let long = ap length c.as_mut_slice.ensures.value in
    let new = c.run_segment.new.lanes in
    let g = c.args.segment.now in
    let same = length-run-lanes c.steps.result.now c.gives.result c.as_mut_slice.result.now new run in
    let back = written-back c.self.inside.pairs.len c.self.inside.pairs.items new
    (sym long ∙ count) (same ∙ count) in
    let each : EachHasRun g.steps g.gives c.args.self.now new =
    subst (λ (l : List LanePair). EachHasRun g.steps g.gives l new) old
    (subst (λ (steps : List Step). EachHasRun steps g.gives c.as_mut_slice.result.now new)
    c.steps.ensures
    (subst (λ (b : Bool). EachHasRun c.steps.result.now b c.as_mut_slice.result.now new)
    c.gives.ensures run)) in
    rw back (
      carried-runs c.args.self.now new g s t m first last each is,
      carried-rings c.args.self.now new g s t m first last each is,
      carried-at c.args.self.now new g s t m first last each is,
    )

pub returns-clause-rings : goal.returns-clause-rings
returns-clause-rings κ c =
    let run = c.run_segment.ensures.lanes in
    let old = c.as_mut_slice.ensures.value ∙ c.self.view_is in
    let count = c.as_mut_slice.ensures.len in
    let long = ap length c.as_mut_slice.ensures.value in
    let new = c.run_segment.new.lanes in
    let g = c.args.segment.now in
    let same = length-run-lanes c.steps.result.now c.gives.result c.as_mut_slice.result.now new run in
    let back = written-back c.self.inside.pairs.len c.self.inside.pairs.items new
    (sym long ∙ count) (same ∙ count) in
    let each : EachHasRun g.steps g.gives c.args.self.now new =
    subst (λ (l : List LanePair). EachHasRun g.steps g.gives l new) old
    (subst (λ (steps : List Step). EachHasRun steps g.gives c.as_mut_slice.result.now new)
    c.steps.ensures
    (subst (λ (b : Bool). EachHasRun c.steps.result.now b c.as_mut_slice.result.now new)
    c.gives.ensures run)) in
    rw back (on-rings-run g.steps g.gives c.args.self.now new each)
