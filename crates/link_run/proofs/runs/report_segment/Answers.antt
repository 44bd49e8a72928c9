use Rattle.std.proofs.Common.{◌≡◌, false, true, ◌∙◌, ◌+◌, ◌≤◌, ℕ, suc, length, Some, arith, ap, refl, sym, subst}
use Rattle.link_model.proofs.RunTicks.{length-run}
use Rattle.link_model.specs.Kinds.{kind_of, run_of}
use Rattle.link_model.specs.Moments.{History}
use Rattle.scenario.specs.Plans.{Plan, plan_of}
use Rattle.link_run.specs.kept.Collected.{Collecting}
use Rattle.link_run.specs.kept.Gathered.{Gathering}
use Rattle.link_run.specs.kept.LinkStates.{HasSegment, LinkView, alarms_in}
use Rattle.link_run.specs.kept.Reported.{AreFew, HasReported, IsSeen, handed_so_far}
use Rattle.link_run.proofs.FeedLemmas.{same_params}
use Rattle.link_run.proofs.HandedRows.{handed-cut, handed-failed, handed-same, handed-then, shown-as}
use Rattle.link_run.proofs.LaneStates.{plan-there}
use Rattle.link_run.proofs.RunRows.{rows_in, so-far-next, so-far-to}
use Rattle.link_run.proofs.SegmentFacts.{part-all, part-next, part-none, part-segment}
use Rattle.link_run.proofs.TickFacts.{run-next}
use Rattle.link_run.proofs.runs.report_segment.Given.{Over}
use Rattle.link_run.proofs.runs.report_segment.Goals as goal
use Rattle.link_run.proofs.runs.report_segment.Goals.{In-loop-i}

-- the link with what was collected
abbrev with_collecting : Collecting → LinkView → LinkView
with_collecting c v = record v { collecting = c }

pub loop-i-init : goal.loop-i-init
loop-i-init g c =
    let z : c.args.from ≡ c.args.from + 0 = omega arith in
    record {
      same = record { same = refl; ends = refl };
      stands = λ plan is. part-none _ plan _ _ (c.requires.due plan is);
      reported = λ plan is. subst (λ (t : ℕ). HasReported c.args.report.now plan (run_of plan t)) z
          (c.requires.reported plan is);
      few = subst (λ (t : ℕ). AreFew c.args.report.now.totals t) z c.requires.few;
      params = (refl, refl);
      shape = refl;
      handed = λ plan start is had.
          handed-same {whole = true} _ _ (ap (λ (t : ℕ). handed_so_far c.args.report.now.short plan
          (run_of plan t)) z) had;
    }

-- the tick that comes is one of a segment
segment-then : (g : Over) (c : In-loop-i g) (plan : Plan) → plan_of c.args.s.now ≡ Some plan
    → (m : ℕ) × (length c.args.state.now.last.segment.steps ≡ suc m)
    × HasSegment c.loop-i.state plan c.args.from m c.loop-i.i
segment-then g c plan is =
    let n = length c.args.state.now.last.segment.steps in
    let below = c.loop-i-test.true in
    let due = c.due-i-end.ensures in
    let (m, end, h) = part-segment c.loop-i.state plan c.args.from (c.args.from + n) c.loop-i.i
    (c.loop-i.invariant.stands plan is) (omega arith) in
    (m, omega arith, h)

pub collect-seen-requires-clause-inside : goal.collect-seen-requires-clause-inside
collect-seen-requires-clause-inside g c =
    let same = ap (λ (v : LinkView). length v.last.segment.steps) c.loop-i.invariant.same.same in
    let due = c.due-i-end.ensures in
    let below = c.loop-i-test.true in
    omega arith

pub collect-seen-requires-clause-has : goal.collect-seen-requires-clause-has
collect-seen-requires-clause-has g c =
    let (plan, is) = plan-there c.args.s.now c.args.state.now.link c.requires.link in
    let (m, count, h) = segment-then g
    (goal.at.collect-seen-requires-clause-has g c).In-loop-i plan is in
    (plan, c.args.from, m, h)

pub alarms-alarms-requires : goal.alarms-alarms-requires
alarms-alarms-requires g c =
    let same = ap (λ (v : LinkView). length v.last.segment.steps) c.loop-i.invariant.same.same in
    let taken = ap (λ (v : LinkView). length v.last.segment.steps) c.collect-seen.ensures.same in
    let due = c.due-i-end.ensures in
    let below = c.loop-i-test.true in
    omega arith

pub report_tick-requires-clause-same : goal.report_tick-requires-clause-same
report_tick-requires-clause-same g c = c.loop-i.invariant.params.0 ∙ c.requires.same

pub report_tick-requires-clause-some : goal.report_tick-requires-clause-some
report_tick-requires-clause-some g c =
    c.args.s.now.some_words c.args.state.now.link c.requires.link

pub report_tick-requires-clause-frames : goal.report_tick-requires-clause-frames
report_tick-requires-clause-frames g c =
    let (plan, is) = plan-there c.args.s.now c.args.state.now.link c.requires.link in
    let (m, count, h) = segment-then g
    (goal.at.report_tick-requires-clause-frames g c).In-loop-i plan is in
    let below = c.loop-i-test.true in
    let due = c.due-i-end.ensures in
    let within : c.loop-i.i ≤ m = omega arith in
    let on = c.collect-seen.ensures.goes_on plan c.args.from m h within in
    ap (λ (d : Gathering). d.params) c.delivered-frames.ensures
    ∙ on.collected.gathered.same_params ∙ same_params c.args.s.now plan is

pub report_tick-requires-clause-shape : goal.report_tick-requires-clause-shape
report_tick-requires-clause-shape g c = λ p is.
    c.requires.shape p (sym c.loop-i.invariant.shape ∙ is) ∙ sym c.loop-i.invariant.params.0

pub returns-in_err-report_tick-clause-handed : goal.returns-in_err-report_tick-clause-handed
returns-in_err-report_tick-clause-handed g c = λ plan start is handed.
    let t = c.args.from in
    let i = c.loop-i.i in
    let short = c.args.report.now.short in
    let below = c.loop-i-test.true in
    let had = c.loop-i.invariant in
    let due = c.due-i-end.ensures in
    let (m, count, h) = segment-then g (goal.at.returns-in_err-report_tick-clause-handed g c).In-loop-i plan is in
    let within : i ≤ m = omega arith in
    let before : History = run_of plan (t + i) in
    let alarms : c.alarms-alarms.result.now ≡ alarms_in c.loop-i.state i =
    c.alarms-alarms.ensures.alarms
    ∙ ap (λ (v : LinkView). alarms_in v i) c.collect-seen.ensures.same in
    let seen : IsSeen c.collect-seen.result c.alarms-alarms.result.now c.delivered-frames.result.now.frames
    c.delivered-frames.result.now.at plan before = rw (c.delivered-frames.ensures, alarms)
    (c.collect-seen.ensures.seen plan t m h within) in
    let tick = c.in_err-report_tick.ensures.handed plan before is (had.reported plan is)
    (sym (length-run (kind_of plan.link.params) plan (t + i))) seen in
    let (rest, all) = so-far-to short plan (t + i + 1) (t + length c.args.state.now.last.segment.steps)
    (omega arith) in
    handed-failed c.from_residual.result c.from_residual.ensures.0
    (handed-same {whole = false} _ _ all
    (handed-cut _ _ (handed_so_far short plan (run_of plan (t + i + 1))) rest
    (handed-same {whole = false} _ _ (so-far-next short plan (t + i))
    (handed-then _ _ _ false (handed_so_far short plan before) (rows_in short plan (t + i))
    (had.handed plan start is handed)
    (shown-as _ _ _ had.params.1 tick)))))

pub returns-in_err-report_tick-clause-params : goal.returns-in_err-report_tick-clause-params
returns-in_err-report_tick-clause-params g c =
    let more = c.in_err-report_tick.ensures.params in
    let had = c.loop-i.invariant.params in
    (more.0 ∙ had.0, more.1 ∙ had.1)

pub loop-i-preserved : goal.loop-i-preserved
loop-i-preserved g c =
    let t = c.args.from in
    let i = c.loop-i.i in
    let short = c.args.report.now.short in
    let below = c.loop-i-test.true in
    let had = c.loop-i.invariant in
    let before-it = goal.at.loop-i-preserved g c in
    let due = c.due-i-end.ensures in
    let end = t + length c.args.state.now.last.segment.steps in
    let now : LinkView = c.collect-seen.new.self in
    let more = c.in_ok-report_tick.ensures in
    let up : t + i + 1 ≡ t + (i + 1) = omega arith in
    let alarms : c.alarms-alarms.result.now ≡ alarms_in c.loop-i.state i =
    c.alarms-alarms.ensures.alarms
    ∙ ap (λ (v : LinkView). alarms_in v i) c.collect-seen.ensures.same in
    record {
      same = record {
        same = c.collect-seen.ensures.same ∙ ap (with_collecting now.collecting) had.same.same;
        ends = c.collect-seen.ensures.ends ∙ had.same.ends;
      };
      stands = λ plan is.
          let (m, count, h) = segment-then g before-it.In-loop-i plan is in
          let within : i ≤ m = omega arith in
          let all : end ≡ t + suc m = omega arith in
          part-next c.loop-i.state now plan t end m i (had.stands plan is) all
          (ap (λ (v : LinkView). v.last) c.collect-seen.ensures.same)
          (c.collect-seen.ensures.goes_on plan t m h within);
      reported = λ plan is.
          let (m, count, h) = segment-then g before-it.In-loop-i plan is in
          let within : i ≤ m = omega arith in
          let before : History = run_of plan (t + i) in
          let seen : IsSeen c.collect-seen.result c.alarms-alarms.result.now c.delivered-frames.result.now.frames
          c.delivered-frames.result.now.at plan before = rw (c.delivered-frames.ensures, alarms)
          (c.collect-seen.ensures.seen plan t m h within) in
          subst (λ (n : ℕ). HasReported c.report_tick.new.report plan (run_of plan n)) up
          (subst (HasReported c.report_tick.new.report plan) (sym (run-next (t + i) plan))
          (more.counts plan before is (had.reported plan is)
          (sym (length-run (kind_of plan.link.params) plan (t + i))) seen));
      few = subst (AreFew c.report_tick.new.report.totals) up more.few;
      params = (more.params.0 ∙ had.params.0, more.params.1 ∙ had.params.1);
      shape =
          let (plan, is) = plan-there c.args.s.now c.args.state.now.link c.requires.link in
          let (m, count, h) = segment-then g before-it.In-loop-i plan is in
          let within : i ≤ m = omega arith in
          let before : History = run_of plan (t + i) in
          let seen : IsSeen c.collect-seen.result c.alarms-alarms.result.now c.delivered-frames.result.now.frames
          c.delivered-frames.result.now.at plan before = rw (c.delivered-frames.ensures, alarms)
          (c.collect-seen.ensures.seen plan t m h within) in
          (more.handed plan before is (had.reported plan is)
          (sym (length-run (kind_of plan.link.params) plan (t + i))) seen).same_shape ∙ had.shape;
      handed = λ plan start is handed.
          let (m, count, h) = segment-then g before-it.In-loop-i plan is in
          let within : i ≤ m = omega arith in
          let before : History = run_of plan (t + i) in
          let seen : IsSeen c.collect-seen.result c.alarms-alarms.result.now c.delivered-frames.result.now.frames
          c.delivered-frames.result.now.at plan before = rw (c.delivered-frames.ensures, alarms)
          (c.collect-seen.ensures.seen plan t m h within) in
          let tick = more.handed plan before is (had.reported plan is)
          (sym (length-run (kind_of plan.link.params) plan (t + i))) seen in
          handed-same {whole = true} _ _ (so-far-next short plan (t + i)
          ∙ ap (λ (n : ℕ). handed_so_far short plan (run_of plan n)) up)
          (handed-then _ _ _ true (handed_so_far short plan before) (rows_in short plan (t + i))
          (had.handed plan start is handed)
          (shown-as _ _ _ had.params.1 tick));
    }

pub returns-clause-collected : goal.returns-clause-collected
returns-clause-collected g c = λ plan is.
    let past = c.loop-i-test.false in
    let end = c.loop-i.auto.i-end in
    let due = c.due-i-end.ensures in
    part-all c.loop-i.state plan c.args.from _ c.loop-i.i (c.loop-i.invariant.stands plan is)
    (omega arith)

pub returns-clause-handed : goal.returns-clause-handed
returns-clause-handed g c = λ plan start is handed.
    let past = c.loop-i-test.false in
    let end = c.loop-i.auto.i-end in
    let due = c.due-i-end.ensures in
    let all : c.loop-i.i ≡ length c.args.state.now.last.segment.steps = omega arith in
    handed-same {whole = true} _ _ (ap (λ (n : ℕ). handed_so_far c.args.report.now.short plan
    (run_of plan (c.args.from + n))) all) (c.loop-i.invariant.handed plan start is handed)

pub returns-clause-reported : goal.returns-clause-reported
returns-clause-reported g c = λ plan is.
    let past = c.loop-i-test.false in
    let end = c.loop-i.auto.i-end in
    let due = c.due-i-end.ensures in
    let all : c.loop-i.i ≡ length c.args.state.now.last.segment.steps = omega arith in
    subst (λ (n : ℕ). HasReported c.loop-i.report plan (run_of plan (c.args.from + n))) all
    (c.loop-i.invariant.reported plan is)

pub returns-clause-few : goal.returns-clause-few
returns-clause-few g c =
    let past = c.loop-i-test.false in
    let end = c.loop-i.auto.i-end in
    let due = c.due-i-end.ensures in
    let all : c.loop-i.i ≡ length c.args.state.now.last.segment.steps = omega arith in
    subst (λ (n : ℕ). AreFew c.loop-i.report.totals (c.args.from + n)) all c.loop-i.invariant.few

pub returns-clause-same : goal.returns-clause-same
returns-clause-same g c = c.loop-i.invariant.same.same

pub returns-clause-ends : goal.returns-clause-ends
returns-clause-ends g c = c.loop-i.invariant.same.ends

pub returns-in_err-report_tick-clause-same : goal.returns-in_err-report_tick-clause-same
returns-in_err-report_tick-clause-same g c =
    c.collect-seen.ensures.same
    ∙ ap (with_collecting c.collect-seen.new.self.collecting) c.loop-i.invariant.same.same

pub returns-in_err-report_tick-clause-ends : goal.returns-in_err-report_tick-clause-ends
returns-in_err-report_tick-clause-ends g c =
    c.collect-seen.ensures.ends ∙ c.loop-i.invariant.same.ends
