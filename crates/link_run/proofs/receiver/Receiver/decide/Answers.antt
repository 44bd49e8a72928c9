use Rattle.std.proofs.Common.{◌≡◌, ◌∙◌, ℕ, List, [], ◌∷◌, ◌++◌, length, map, sym, ap, ap₂, subst}
use Rattle.std.proofs.lemmas.List.{with_items_is}
use Rattle.std.specs.List.{All}
use Rattle.link_params.specs.declared.lane_report.LaneReport.{LaneReport}
use Rattle.bring_up.specs.kept.Controls.{HasDecided, NamesOctet}
use Rattle.bring_up.specs.Decisions.{decide_at}
use Rattle.link_params.specs.Lanes.{LaneKind}
use Rattle.scenario.specs.Plans.{Plan, numbers_from}
use Rattle.link_model.specs.Wiring.{route_of, wire_of}
use Rattle.link_model.specs.Moments.{History}
use Rattle.link_model.specs.Kinds.{kind_of, moment_of, run_of}
use Rattle.link_model.specs.kept.LaneRuns.{lane_stepped}
use Rattle.lane_threads.specs.declared.lane_pair.LanePair.{LanePair}
use Rattle.link_run.specs.kept.LaneRuns.{HaveRunLanes}
use Rattle.link_model.specs.kept.LaneRuns.{LaneRun}
use Rattle.link_run.specs.kept.ReceiverRuns.{HasToldTick, decisions_left}
use Rattle.link_model.proofs.Depth.{length-reports}
use Rattle.link_run.proofs.FeedLemmas.{some_plan}
use Rattle.link_model.proofs.LaneHistory.{has-hunt-run}
use Rattle.link_run.proofs.NamedOctets.{names-octets}
use Rattle.link_model.proofs.NextMoment.{lanes_of, reports-next, took}
use Rattle.link_model.proofs.RxHistory.{standing-next}
use Rattle.link_run.proofs.RunFacts.{reports-lanes}
use Rattle.link_run.proofs.receiver.Receiver.decide.Goals as goal

-- the reports that were written are those of the tick
written : (s : Plan) (t : ℕ) (lanes : List LanePair) (new : List LaneReport)
    → HaveRunLanes lanes s (lane_stepped (kind_of s.link.params) s (run_of s t))
    → ((q : Plan) (runs : ℕ → LaneRun) → HaveRunLanes lanes q runs
    → new ≡ map (λ lane. (kind_of q.link.params).report q.link.params q.link.timing (route_of q lane)
    (runs lane).taken) (numbers_from 0 q.link.params.l))
    → new ≡ (moment_of s (run_of s t)).reports
written s t lanes new ran wrote =
    let k : LaneKind = kind_of s.link.params in
    wrote s (lane_stepped k s (run_of s t)) ran
    ∙ reports-lanes k s (run_of s t) (has-hunt-run k t s)

-- their faults name octets of the configuration
named : (s : Plan) (t : ℕ) → All (NamesOctet s.link.params) (moment_of s (run_of s t)).reports
named s t =
    let k : LaneKind = kind_of s.link.params in
    let h : History = run_of s t in
    subst (All (NamesOctet s.link.params)) (sym (reports-next k s h))
    (names-octets s.link.params s.link.timing (route_of s) (took k s h) (lanes_of s))

pub report-requires : goal.report-requires
report-requires c =
    let (s, is) = some_plan c.args.s.now c.requires.link in
    let told = subst (λ x. HasToldTick x s (run_of s c.args.t)) (sym c.self.view_is)
    (c.requires.told s is) in
    let ran = c.requires.lanes s is in
    ap length c.deref_mut.ensures.value ∙ told.lanes ∙ sym ran.0

pub decide-requires-clause-reports : goal.decide-requires-clause-reports
decide-requires-clause-reports c =
    let (s, is) = some_plan c.args.s.now c.requires.link in
    let told = subst (λ x. HasToldTick x s (run_of s c.args.t)) (sym c.self.view_is)
    (c.requires.told s is) in
    let wrote = written s c.args.t c.args.lanes.now c.report.new.reports
    (c.requires.lanes s is) c.report.ensures in
    let long = ap length wrote ∙ length-reports (kind_of s.link.params) s (run_of s c.args.t) in
    let size = c.self.inside.reports.ok.0 ∙ told.lanes in
    ap length (c.deref.ensures.value ∙ with_items_is c.self.inside.reports c.report.new.reports
    (long ∙ sym size)) ∙ long ∙ ap (λ p. p.l) (sym told.control.params)

pub decide-requires-clause-octets : goal.decide-requires-clause-octets
decide-requires-clause-octets c =
    let (s, is) = some_plan c.args.s.now c.requires.link in
    let told = subst (λ x. HasToldTick x s (run_of s c.args.t)) (sym c.self.view_is)
    (c.requires.told s is) in
    let wrote = written s c.args.t c.args.lanes.now c.report.new.reports
    (c.requires.lanes s is) c.report.ensures in
    let long = ap length wrote ∙ length-reports (kind_of s.link.params) s (run_of s c.args.t) in
    let size = c.self.inside.reports.ok.0 ∙ told.lanes in
    let items = c.deref.ensures.value ∙ with_items_is c.self.inside.reports c.report.new.reports
    (long ∙ sym size) ∙ wrote in
    subst (λ p. All (NamesOctet p) c.deref.result.now) (sym told.control.params)
    (subst (All (NamesOctet s.link.params)) (sym items) (named s c.args.t))

pub returns : goal.returns
returns c = λ s is.
    let p = s.link.params in
    let t = s.link.timing in
    let h = run_of s c.args.t in
    let told = subst (λ x. HasToldTick x s h) (sym c.self.view_is) (c.requires.told s is) in
    let wrote = written s c.args.t c.args.lanes.now c.report.new.reports
    (c.requires.lanes s is) c.report.ensures in
    let long = ap length wrote ∙ length-reports (kind_of s.link.params) s h in
    let size = c.self.inside.reports.ok.0 ∙ told.lanes in
    let held = with_items_is c.self.inside.reports c.report.new.reports (long ∙ sym size) in
    let items = c.deref.ensures.value ∙ held ∙ wrote in
    let stands = sym (standing-next s h) in
    record {
      decision_due = c.decide.ensures.decision p t (decisions_left s h) told.control
          ∙ ap₂ (λ x r. (decide_at p t x r).decision) stands items;
      alarms = c.decide.ensures.alarms p t (decisions_left s h) told.control
          ∙ ap₂ (λ x r. (decide_at p t x r).alarms) stands items;
      control = subst (λ r. HasDecided c.decide.new.self p t (decisions_left s h ++ r ∷ [])) items
          (c.decide.ensures.goes_on p t (decisions_left s h) told.control);
      same_clock = ap (λ x. x.clock) c.self.view_is;
      lanes = ap length held ∙ long;
    }
