use Rattle.std.proofs.Common.{◌∙◌, List, if◌then◌else◌, None, sym, ap, subst}
use Rattle.link_params.specs.declared.alarms.Device.TheVariants.{Tx}
use Rattle.lane_threads.specs.declared.lane_pair.LanePair.{LanePair}
use Rattle.link_model.proofs.RunTicks.{length-run}
use Rattle.link_model.specs.Edges.{is_reset}
use Rattle.link_model.specs.Kinds.{kind_of, run_of}
use Rattle.link_model.specs.kept.LaneRuns.{lane_run}
use Rattle.link_run.specs.kept.LaneRuns.{AreAt}
use Rattle.link_run.specs.kept.LinkStates.{HasRunLanes, LinkView}
use Rattle.link_run.specs.kept.Sendings.{next_of}
use Rattle.link_run.proofs.FeedLemmas.{same_params}
use Rattle.link_run.proofs.LaneStates.{as-before, have-same, plan-there, ready-is}
use Rattle.link_run.proofs.LinkRuns.{pairs-kept}
use Rattle.link_run.proofs.SameLanes.{keep-again, rings-kept}
use Rattle.link_run.proofs.link_state.LinkState.happen.Goals as goal

abbrev with_lanes : List LanePair → LinkView → LinkView
with_lanes lanes x = record x { lanes = lanes }

pub happen-happened-requires-clause-from : goal.happen-happened-requires-clause-from
happen-happened-requires-clause-from c = λ s is.
    let stands = subst (λ x. HasRunLanes x s c.args.t) (sym c.self.view_is) (c.requires.stands s is) in
    c.next.ensures ∙ stands.planned.next_is

pub happen-happened-requires-clause-lanes : goal.happen-happened-requires-clause-lanes
happen-happened-requires-clause-lanes c =
    let (s, is) = plan-there c.args.s.now c.args.self.now.link c.requires.link in
    let stands = subst (λ x. HasRunLanes x s c.args.t) (sym c.self.view_is) (c.requires.stands s is) in
    stands.lanes.0 ∙ ap (λ p. p.l) (same_params c.args.s.now s is)

pub happen-happened-requires-clause-ran : goal.happen-happened-requires-clause-ran
happen-happened-requires-clause-ran c = λ s is.
    let h = run_of s c.args.t in
    let stands = subst (λ x. HasRunLanes x s c.args.t) (sym c.self.view_is) (c.requires.stands s is) in (
      lane_run s h,
      stands.lanes,
      as-before s h c.args.t (length-run (kind_of s.link.params) s c.args.t),
    )

pub returns : goal.returns
returns c = λ s is.
    let t = c.args.t in
    let h = run_of s t in
    let p = s.link.params in
    let stands = subst (λ x. HasRunLanes x s t) (sym c.self.view_is) (c.requires.stands s is) in
    let long = length-run (kind_of p) s t in
    let tx = c.happen-happened.ensures.tx s is in
    let lanes = c.happen-happened.ensures.lanes s (lane_run s h) is stands.lanes
    (as-before s h t long) in
    let kept = keep-again c.self.inside.lanes c.happen-happened.new.lanes c.clear_if.new.lanes
    c.happen-happened.ensures.rings c.clear_if.ensures.rings in
    let at = c.happen-happened.ensures.at p (next_of p c.self.inside.planner.tx.sending)
    stands.at_next in
    record {
      tx_reset = tx;
      rx_reset = c.happen-happened.ensures.rx s is;
      next = c.happen-happened.ensures.next s is;
      lanes = have-same c.clear_if.new.lanes s _ _
          (λ lane below. ready-is s h t lane c.happen-happened.result.tx_reset long
          (tx ∙ ap (is_reset s Tx) (sym long)))
          (c.clear_if.ensures.goes_on s _ lanes);
      rings = rings-kept c.self.inside.lanes c.clear_if.new.lanes s t t kept stands.rings;
      pairs = pairs-kept c.self.inside.lanes c.clear_if.new.lanes c.self.inside.collector.ends kept
          stands.sized.pairs;
      at_next =
          subst
          (λ x. AreAt c.clear_if.new.lanes p
          (if c.happen-happened.result.tx_reset then None else next_of p x.planning.tx.sending))
          c.self.view_is (c.clear_if.ensures.at p _ at);
      same = ap (with_lanes c.clear_if.new.lanes) c.self.view_is;
    }
