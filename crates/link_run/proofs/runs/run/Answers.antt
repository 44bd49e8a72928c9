use Rattle.std.proofs.Common.{◌≡◌, false, true, ◌∙◌, ◌≤◌, ◌+◌, ◌++◌, ℕ, suc, List, [], ◌∷◌, length, fold, map, max, Some, if◌then◌else◌, ap, ap₂, arith, refl, subst, sym}
use Rattle.scenario.specs.declared.report_row.Row.TheVariants as row
use Rattle.scenario.specs.declared.report_row.Totals.{Totals}
use Rattle.scenario.specs.Plans.{Plan, plan_of}
use Rattle.lane_threads.specs.declared.lane_pair.LanePair.{LanePair}
use Rattle.link_model.specs.Kinds.{run_of}
use Rattle.link_model.specs.Report.{alarms_from, bare, totals}
use Rattle.link_model.specs.Run.{run as history}
use Rattle.link_run.specs.Rows.{WasHanded}
use Rattle.link_run.specs.kept.LinkStates.{HasAllTaken, HasDue, HasFinished, HasNext, HasRun, LinkView}
use Rattle.link_run.specs.kept.Reported.{AreFew, HasReported, handed_so_far}
use Rattle.link_run.proofs.HandedRows.{handed-cut, handed-err, handed-failed, handed-ok, handed-row, handed-same, handed-then}
use Rattle.link_run.proofs.LaneStates.{plan-there}
use Rattle.link_run.proofs.PlanFacts.{plan-facts}
use Rattle.link_run.proofs.RunRows.{all-handed, first-rows, handed-to-end, link-to-end}
use Rattle.link_run.proofs.LinkRuns.{IsReported, reported-before, run-whole}
use Rattle.link_run.proofs.SegmentFacts.{due-count, fullest-is}
use Rattle.link_run.proofs.runs.run.Given.{Over}
use Rattle.link_run.proofs.runs.run.Goals as goal
use Rattle.link_run.proofs.runs.run.Goals.{After-finish, After-run-count, After-totals-totals}

pub loop-t-init : goal.loop-t-init
unfolding alarms_from totals history
loop-t-init g c =
    record {
      within = omega arith;
      link = c.requires.link;
      same = refl;
      stands = c.requires.stands;
      reported = λ plan is. record { counts = c.requires.nothing };
      few = rw c.requires.nothing (record {
        ticks = omega arith;
        entered = omega arith;
        frames = record {
          delivered = omega arith;
          ok = omega arith;
          fixed = omega arith;
          bad = omega arith;
        };
        alarms = omega arith;
      });
      params = (c.requires.same, refl);
      handed = λ plan is.
          let short = c.args.report.now.short in
          let first = handed-ok c.row.result _ c.in_ok-row.was
          (handed-row _ _ (bare row.Link) c.row.result c.row.ensures.took c.row.ensures.nothing
          c.row.ensures.failed c.row.ensures.count c.row.ensures.shape) in
          handed-same {whole = true} _ _ (first-rows short plan)
          (handed-then _ _ _ true (bare row.Link ∷ [])
          (if short then [] else bare (row.Hunt 0) ∷ []) first c.in_ok-row-2.ensures.handed);
    }

pub returns-in_err-row-clause-handed : goal.returns-in_err-row-clause-handed
returns-in_err-row-clause-handed g c = λ plan is.
    let (rest, all) = link-to-end c.args.report.now.short plan in
    handed-failed c.from_residual.result c.from_residual.ensures.0
    (handed-same {whole = false} _ _ all
    (handed-cut _ _ (bare row.Link ∷ []) rest
    (handed-err c.row.result _ c.in_err-row.was
    (handed-row _ _ (bare row.Link) c.row.result c.row.ensures.took c.row.ensures.nothing
    c.row.ensures.failed c.row.ensures.count c.row.ensures.shape))))

pub returns-in_err-row-2-clause-handed : goal.returns-in_err-row-2-clause-handed
returns-in_err-row-2-clause-handed g c = λ plan is.
    let short = c.args.report.now.short in
    let (rest, all) = handed-to-end short plan 0 (omega arith) in
    let first = handed-ok c.row.result _ c.in_ok-row.was
    (handed-row _ _ (bare row.Link) c.row.result c.row.ensures.took c.row.ensures.nothing
    c.row.ensures.failed c.row.ensures.count c.row.ensures.shape) in
    handed-failed c.from_residual-in_err-row-2.result c.from_residual-in_err-row-2.ensures.0
    (handed-same {whole = false} _ _ all
    (handed-cut _ _ (handed_so_far short plan (run_of plan 0)) rest
    (handed-same {whole = false} _ _ (first-rows short plan)
    (handed-then _ _ _ false (bare row.Link ∷ [])
    (if short then [] else bare (row.Hunt 0) ∷ []) first c.in_err-row-2.ensures.handed))))

-- a segment has run, and the rows of the ticks before tick t are due
next-then : (g : Over) (c : After-run-count g) (plan : Plan) → plan_of c.args.s.now ≡ Some plan
    → (m : ℕ) × (c.run-count.result ≡ suc m)
    × HasNext c.run-count.new.self plan c.loop-t.from c.loop-t.t m
next-then g c plan is =
    c.run-count.ensures.ran plan c.loop-t.from is (c.loop-t.invariant.stands plan is)

-- they are as many as the segment before has
due-then : (g : Over) (c : After-run-count g) (plan : Plan) → plan_of c.args.s.now ≡ Some plan
    → c.loop-t.t ≡ c.loop-t.from + length c.run-count.new.self.last.segment.steps
due-then g c plan is =
    let (m, count, next) = next-then g c plan is in
    due-count c.run-count.new.self plan c.loop-t.from c.loop-t.t next.due.before

pub report_segment-requires-clause-ticks : goal.report_segment-requires-clause-ticks
report_segment-requires-clause-ticks g c =
    let (plan, is) = plan-there c.args.s.now c.loop-t.state.link c.loop-t.invariant.link in
    let due = due-then g (goal.at.report_segment-requires-clause-ticks g c).After-run-count plan is in
    let within = c.loop-t.invariant.within in
    omega arith

pub report_segment-requires-clause-link : goal.report_segment-requires-clause-link
report_segment-requires-clause-link g c =
    c.loop-t.invariant.link ∙ ap Some (sym c.run-count.ensures.same)

pub report_segment-requires-clause-due : goal.report_segment-requires-clause-due
report_segment-requires-clause-due g c = λ plan is.
    let before = (goal.at.report_segment-requires-clause-due g c).After-run-count in
    let (m, count, next) = next-then g before plan is in
    subst (HasDue c.run-count.new.self plan c.loop-t.from) (due-then g before plan is) next.due

pub report_segment-requires-clause-shape : goal.report_segment-requires-clause-shape
report_segment-requires-clause-shape g c = λ p is.
    let (plan, there) = plan-there c.args.s.now c.loop-t.state.link c.loop-t.invariant.link in
    c.requires.shape p (sym (c.loop-t.invariant.handed plan there).same_shape ∙ is)
    ∙ c.requires.same ∙ sym c.loop-t.invariant.params.0

pub returns-in_err-report_segment-clause-handed : goal.returns-in_err-report_segment-clause-handed
returns-in_err-report_segment-clause-handed g c = λ plan is.
    let had = c.loop-t.invariant in
    let short = c.args.report.now.short in
    let end = c.loop-t.from + length c.run-count.new.self.last.segment.steps in
    let due = due-then g (goal.at.returns-in_err-report_segment-clause-handed g c).After-run-count
    plan is in
    let low = had.within in
    let within : end ≤ plan.ticks = omega (arith, (plan-facts c.args.s.now plan is).ticks) in
    let same = ap (λ b. handed_so_far b plan (run_of plan c.loop-t.from)) (sym had.params.1) in
    let (rest, all) = handed-to-end short plan end within in
    handed-failed c.from_residual-in_err-report_segment.result
    c.from_residual-in_err-report_segment.ensures.0
    (handed-same {whole = false} _ _ all
    (handed-cut _ _ (handed_so_far short plan (run_of plan end)) rest
    (handed-same {whole = false} _ _ (ap (λ b. handed_so_far b plan (run_of plan end)) had.params.1)
    (c.in_err-report_segment.ensures.handed plan c.args.rows.now is
    (handed-same {whole = true} _ _ same (had.handed plan is))))))

pub loop-t-preserved : goal.loop-t-preserved
loop-t-preserved g c =
    let before-it = (goal.at.loop-t-preserved g c).After-run-count in
    let more = c.in_ok-report_segment.ensures in
    let within = c.run-count.ensures.within in
    let had = c.loop-t.invariant in
    let from = c.loop-t.from in
    let t = c.loop-t.t in
    let old : LinkView = c.run-count.new.self in
    let reported : IsReported old c.report_segment.new.state = record { same = more.same; ends = more.ends } in
    let link = c.turn.ensures.same ∙ ap (λ (v : LinkView). v.link) more.same
    ∙ c.run-count.ensures.same in
    record {
      within = omega arith;
      link = had.link ∙ ap Some (sym link);
      same = link ∙ had.same;
      stands = λ plan is.
          let (m, count, next) = next-then g before-it plan is in
          let due = due-then g before-it plan is in
          let taken = subst (HasAllTaken c.report_segment.new.state plan) (sym due)
          (more.collected plan is) in
          subst (λ (n : ℕ). HasRun c.turn.new.self plan t (t + n)) (sym count)
          (c.turn.ensures.turned plan t m
          (reported-before old c.report_segment.new.state plan from t m reported next taken));
      reported = λ plan is. subst (λ (n : ℕ). HasReported c.report_segment.new.report plan
          (run_of plan n)) (sym (due-then g before-it plan is)) (more.reported plan is);
      few =
          let (plan, is) = plan-there c.args.s.now c.loop-t.state.link had.link in
          subst (AreFew c.report_segment.new.report.totals) (sym (due-then g before-it plan is))
          more.few;
      params = (more.params.0 ∙ had.params.0, more.params.1 ∙ had.params.1);
      handed = λ plan is.
          let short = c.args.report.now.short in
          let due = due-then g before-it plan is in
          let same = ap (λ b. handed_so_far b plan (run_of plan from)) (sym had.params.1) in
          let end = ap (λ (n : ℕ). handed_so_far c.loop-t.report.short plan (run_of plan n)) (sym due) in
          handed-same {whole = true} _ _ (end ∙ ap (λ b. handed_so_far b plan (run_of plan t)) had.params.1)
          (more.handed plan c.args.rows.now is (handed-same {whole = true} _ _ same
          (had.handed plan is)));
    }

-- ---- the run is over

pub finish-requires : goal.finish-requires
finish-requires g c =
    let (plan, is) = plan-there c.args.s.now c.loop-t.state.link c.loop-t.invariant.link in
    record { pairs = (c.loop-t.invariant.stands plan is).ran.sized.pairs }

finished-then : (g : Over) (c : After-finish g) (plan : Plan) → plan_of c.args.s.now ≡ Some plan
    → HasFinished c.finish.new.self plan c.loop-t.from c.loop-t.t
finished-then g c plan is =
    c.finish.ensures.finished plan c.loop-t.from c.loop-t.t (c.loop-t.invariant.stands plan is)

-- all its ticks
all-then : (g : Over) (c : After-finish g) (plan : Plan) → plan_of c.args.s.now ≡ Some plan
    → c.loop-t.t ≡ plan.ticks
all-then g c plan is =
    let past = c.loop-t-test.false in
    let within = c.loop-t.invariant.within in
    omega (arith, (plan-facts c.args.s.now plan is).ticks)

last-then : (g : Over) (c : After-finish g) (plan : Plan) → plan_of c.args.s.now ≡ Some plan
    → c.loop-t.t ≡ c.loop-t.from + length c.finish.new.self.last.segment.steps
last-then g c plan is =
    due-count c.finish.new.self plan c.loop-t.from c.loop-t.t (finished-then g c plan is).due.before

pub report_segment-requires-2-clause-ticks : goal.report_segment-requires-2-clause-ticks
report_segment-requires-2-clause-ticks g c =
    let (plan, is) = plan-there c.args.s.now c.loop-t.state.link c.loop-t.invariant.link in
    let due = last-then g (goal.at.report_segment-requires-2-clause-ticks g c).After-finish plan is in
    let within = c.loop-t.invariant.within in
    omega arith

pub report_segment-requires-2-clause-link : goal.report_segment-requires-2-clause-link
report_segment-requires-2-clause-link g c =
    c.loop-t.invariant.link ∙ ap Some (sym c.finish.ensures.same)

pub report_segment-requires-2-clause-due : goal.report_segment-requires-2-clause-due
report_segment-requires-2-clause-due g c = λ plan is.
    let before = (goal.at.report_segment-requires-2-clause-due g c).After-finish in
    subst (HasDue c.finish.new.self plan c.loop-t.from) (last-then g before plan is)
    (finished-then g before plan is).due

pub report_segment-requires-2-clause-shape : goal.report_segment-requires-2-clause-shape
report_segment-requires-2-clause-shape g c = λ p is.
    let (plan, there) = plan-there c.args.s.now c.loop-t.state.link c.loop-t.invariant.link in
    c.requires.shape p (sym (c.loop-t.invariant.handed plan there).same_shape ∙ is)
    ∙ c.requires.same ∙ sym c.loop-t.invariant.params.0

pub returns-in_err-report_segment-2-clause-handed : goal.returns-in_err-report_segment-2-clause-handed
returns-in_err-report_segment-2-clause-handed g c = λ plan is.
    let had = c.loop-t.invariant in
    let short = c.args.report.now.short in
    let end = c.loop-t.from + length c.finish.new.self.last.segment.steps in
    let due = last-then g (goal.at.returns-in_err-report_segment-2-clause-handed g c).After-finish
    plan is in
    let low = had.within in
    let within : end ≤ plan.ticks = omega (arith, (plan-facts c.args.s.now plan is).ticks) in
    let same = ap (λ b. handed_so_far b plan (run_of plan c.loop-t.from)) (sym had.params.1) in
    let (rest, all) = handed-to-end short plan end within in
    handed-failed c.from_residual-in_err-report_segment-2.result
    c.from_residual-in_err-report_segment-2.ensures.0
    (handed-same {whole = false} _ _ all
    (handed-cut _ _ (handed_so_far short plan (run_of plan end)) rest
    (handed-same {whole = false} _ _ (ap (λ b. handed_so_far b plan (run_of plan end)) had.params.1)
    (c.in_err-report_segment-2.ensures.handed plan c.args.rows.now is
    (handed-same {whole = true} _ _ same (had.handed plan is))))))

-- the rows of its last segment were handed on
handed-then-all : (g : Over) (c : After-totals-totals g) (plan : Plan)
    → plan_of c.args.s.now ≡ Some plan
    → c.loop-t.t ≡ c.loop-t.from + length c.finish.new.self.last.segment.steps
    → WasHanded g.row.W.Denot g.W.Rows.Took g.W.Rows.shape g.W.Rows.faults c.args.rows.now
    c.report_segment-2.new.rows true
    (handed_so_far c.args.report.now.short plan (run_of plan c.loop-t.t))
handed-then-all g c plan is due =
    let had = c.loop-t.invariant in
    let short = c.args.report.now.short in
    let same = ap (λ b. handed_so_far b plan (run_of plan c.loop-t.from)) (sym had.params.1) in
    let end = ap (λ (n : ℕ). handed_so_far c.loop-t.report.short plan (run_of plan n)) (sym due) in
    handed-same {whole = true} _ _
    (end ∙ ap (λ b. handed_so_far b plan (run_of plan c.loop-t.t)) had.params.1)
    (c.in_ok-report_segment-2.ensures.handed plan c.args.rows.now is
    (handed-same {whole = true} _ _ same (had.handed plan is)))

-- the counts, with the most entries that lanes held
totals-then : (g : Over) (c : After-totals-totals g) (plan : Plan) → plan_of c.args.s.now ≡ Some plan
    → c.loop-t.t ≡ c.loop-t.from + length c.finish.new.self.last.segment.steps
    → HasFinished c.finish.new.self plan c.loop-t.from c.loop-t.t → c.loop-t.t ≡ plan.ticks
    → c.totals-totals.result ≡ totals plan (run_of plan plan.ticks)
unfolding totals
totals-then g c plan is due over all =
    let more = c.in_ok-report_segment-2.ensures in
    let ran = over.ran in
    let lanes = ap (λ (v : LinkView). v.lanes) more.same in
    let reported = subst (λ (n : ℕ). HasReported c.report_segment-2.new.report plan (run_of plan n))
    (sym due) (more.reported plan is) in
    c.totals-totals.ensures
    ∙ ap (λ (n : Totals). record n { fullest = c.fullest.result }) reported.counts
    ∙ ap (λ (f : ℕ). record (totals plan (run_of plan c.loop-t.t)) { fullest = f })
    (c.fullest.ensures
    ∙ ap (λ (xs : List LanePair). fold max 0 (map (λ (x : LanePair). x.fullest) xs)) lanes
    ∙ fullest-is c.finish.new.self.lanes plan c.loop-t.t c.loop-t.t ran.lanes.0 ran.rings)
    ∙ ap (λ t. totals plan (run_of plan t)) all

pub returns-clause-totals : goal.returns-clause-totals
returns-clause-totals g c = λ plan is.
    let before = goal.at.returns-clause-totals g c in
    totals-then g before.After-totals-totals plan is (last-then g before.After-finish plan is)
    (finished-then g before.After-finish plan is) (all-then g before.After-finish plan is)

pub returns-clause-ran : goal.returns-clause-ran
returns-clause-ran g c = λ plan is.
    let before = (goal.at.returns-clause-ran g c).After-finish in
    let more = c.in_ok-report_segment-2.ensures in
    run-whole c.finish.new.self c.report_segment-2.new.state plan c.loop-t.from c.loop-t.t
    (record { same = more.same; ends = more.ends }) (finished-then g before plan is)
    (all-then g before plan is)

pub returns-clause-same : goal.returns-clause-same
returns-clause-same g c =
    ap (λ (v : LinkView). v.link) c.in_ok-report_segment-2.ensures.same ∙ c.finish.ensures.same
    ∙ c.loop-t.invariant.same

pub returns-in_err-row-3-clause-handed : goal.returns-in_err-row-3-clause-handed
returns-in_err-row-3-clause-handed g c = λ plan is.
    let before = goal.at.returns-in_err-row-3-clause-handed g c in
    let short = c.args.report.now.short in
    let due = last-then g before.After-finish plan is in
    let at = all-then g before.After-finish plan is in
    let counts = totals-then g before.After-totals-totals plan is due
    (finished-then g before.After-finish plan is) at in
    handed-failed c.from_residual-in_err-row-3.result c.from_residual-in_err-row-3.ensures.0
    (handed-same {whole = false} _ _
    (ap₂ (λ (k : ℕ) (n : Totals). handed_so_far short plan (run_of plan k)
    ++ bare (row.End n) ∷ []) at counts
    ∙ all-handed short plan)
    (handed-then _ _ _ false (handed_so_far short plan (run_of plan c.loop-t.t))
    (bare (row.End c.totals-totals.result) ∷ [])
    (handed-then-all g before.After-totals-totals plan is due)
    (handed-err c.row-3.result _ c.in_err-row-3.was
    (handed-row _ _ (bare (row.End c.totals-totals.result)) c.row-3.result c.row-3.ensures.took
    c.row-3.ensures.nothing c.row-3.ensures.failed c.row-3.ensures.count c.row-3.ensures.shape))))

pub returns-clause-handed : goal.returns-clause-handed
returns-clause-handed g c = λ plan is.
    let before = goal.at.returns-clause-handed g c in
    let short = c.args.report.now.short in
    let due = last-then g before.After-finish plan is in
    let at = all-then g before.After-finish plan is in
    let counts = totals-then g before.After-totals-totals plan is due
    (finished-then g before.After-finish plan is) at in
    handed-same {whole = true} _ _
    (ap₂ (λ (k : ℕ) (n : Totals). handed_so_far short plan (run_of plan k)
    ++ bare (row.End n) ∷ []) at counts
    ∙ all-handed short plan)
    (handed-then _ _ _ true (handed_so_far short plan (run_of plan c.loop-t.t))
    (bare (row.End c.totals-totals.result) ∷ [])
    (handed-then-all g before.After-totals-totals plan is due)
    (handed-ok c.row-3.result _ c.in_ok-row-3.was
    (handed-row _ _ (bare (row.End c.totals-totals.result)) c.row-3.result c.row-3.ensures.took
    c.row-3.ensures.nothing c.row-3.ensures.failed c.row-3.ensures.count c.row-3.ensures.shape)))
