use Rattle.std.proofs.Common.{◌≡◌, ◌≤◌, ◌+◌, ◌*◌, ◌++◌, ◌∷◌, [], ◌∙◌, List, ap, arith, rules, subst, sym, vec_len}
use Rattle.std.specs.Prelude.{All, IsTrue}
use Rattle.link_params.specs.declared.fields.Params.{Params}
use Rattle.scenario.specs.Limits.{flip_fits}
use Rattle.scenario.specs.declared.plan.Flip.{Flip}
use Rattle.link_params.specs.Links.{Link}
use Rattle.link_params.specs.Numbers.{width}
use Rattle.lane_threads.specs.declared.cell_end.CellEnd.{CellEnd}
use Rattle.lane_threads.specs.declared.lane_pair.LanePair.{LanePair}
use Rattle.scenario.specs.declared.scenario_type.Scenario.{Scenario}
use Rattle.link_run.proofs.Carrying.{cells-none, ring-none}
use Rattle.link_run.proofs.LaneStates.{link-of}
use Rattle.link_run.proofs.PlanFacts.{plan-facts}
use Rattle.link_run.specs.kept.Opened.{IsOpened, IsOpenedEnd}
use Rattle.link_run.proofs.LaneLemmas.{AreOpened, ArePaired, opened-more, opened-none, paired-more, paired-none}
use Rattle.link_run.proofs.lanes.Lanes.open.Goals as goal

pub loop-lane-init : goal.loop-lane-init
loop-lane-init c = record {
  opened = opened-none (IsOpened c.args.s.now c.args.link.now)
      c.new-pairs.result.items c.new-pairs.ensures.items;
  ends = opened-none (λ k. IsOpenedEnd) c.new-ends.result.items c.new-ends.ensures.items;
  paired = paired-none c.new-pairs.result.items c.new-ends.result.items c.new-pairs.ensures.items
      c.new-ends.ensures.items;
  long = c.new-pairs.ensures.len;
}

pub loop-lane-preserved : goal.loop-lane-preserved
loop-lane-preserved c =
    let from : Scenario = c.args.s.now in
    let link = c.args.link.now in
    let lane = c.loop-lane.lane in
    let lanes = c.loop-lane.pairs.items in
    let ends = c.loop-lane.ends.items in
    let x : LanePair = c.in_ok-pair.pair in
    let y : CellEnd = c.in_ok-pair.end in
    let items : c.push.new.self.items ≡ lanes ++ x ∷ [] = search rules in
    let items_too : c.push-else-is_err.new.self.items ≡ ends ++ y ∷ [] = search rules in
    let longer : vec_len c.push.new.self ≡ vec_len c.loop-lane.pairs + 1 = search rules in
    record {
      opened =
          subst (λ (l : List LanePair). AreOpened (IsOpened from link) l (lane + 1))
          (sym items)
          (opened-more (IsOpened from link) lanes lane x c.in_ok-pair.ensures.opened
          c.loop-lane.invariant.opened);
      ends = subst (λ (l : List CellEnd). AreOpened (λ k. IsOpenedEnd) l (lane + 1)) (sym items_too)
          (opened-more (λ k. IsOpenedEnd) ends lane y c.in_ok-pair.ensures.end
          c.loop-lane.invariant.ends);
      paired =
          subst (λ (l : List LanePair). ArePaired l c.push-else-is_err.new.self.items (lane + 1))
          (sym items)
          (subst (λ (l : List CellEnd). ArePaired (lanes ++ x ∷ []) l (lane + 1)) (sym items_too)
          (paired-more lanes ends lane x y c.in_ok-pair.ensures.pair
          c.loop-lane.invariant.paired));
      long = longer ∙ ap (λ n. n + 1) c.loop-lane.invariant.long;
    }

pub invariant_of-result : goal.invariant_of-result
invariant_of-result c =
    let few = c.lanes-lane-end.ensures.bound in
    let long = c.loop-lane.invariant.long in
    let short : vec_len c.loop-lane.pairs ≤ 32 = omega arith in
    short

pub returns-clause-begins : goal.returns-clause-begins
returns-clause-begins c s is =
    let facts = plan-facts c.args.s.now s is in
    let same_link = sym (link-of c.args.s.now c.args.link.now s c.requires.link is) in
    let count = c.loop-lane.invariant.opened.count in
    let lanes = c.lanes-lane-end.ensures.value in
    let own = ap (λ k. k.l) c.shape.ensures.same in
    let same = ap (λ (k : Link). k.params.l) same_link in (
      (
        omega arith,
        λ lane d below. (c.loop-lane.invariant.opened.each lane d (omega arith)).begins s
            is,
      ),
      λ lane d below.
          let one = c.loop-lane.invariant.opened.each lane d (omega arith) in
          ring-none _ s lane c.args.s.now.ticks facts.ticks one.fullest one.room one.cells,
    )

pub returns-clause-ends : goal.returns-clause-ends
returns-clause-ends c s lane e below =
    let count = c.loop-lane.invariant.ends.count in
    let one = c.loop-lane.invariant.ends.each lane e (omega arith) in
    cells-none _ s lane one.received_none one.known_none

pub returns-clause-pairs : goal.returns-clause-pairs
returns-clause-pairs c =
    let all = c.loop-lane.invariant.paired in
    let lane_count = all.lane_count in
    let end_count = all.end_count in
    record {
      count = end_count ∙ sym lane_count;
      each = λ lane d e below. all.each lane d e (omega arith);
    }

pub returns-clause-at : goal.returns-clause-at
returns-clause-at c lane d below =
    let count = c.loop-lane.invariant.opened.count in
    let one = c.loop-lane.invariant.opened.each lane d (omega arith) in
    (one.same, one.next)

pub returns-clause-lanes : goal.returns-clause-lanes
returns-clause-lanes c =
    let count = c.loop-lane.invariant.opened.count in
    let lanes = c.lanes-lane-end.ensures.value in
    let own = ap (λ k. k.l) c.shape.ensures.same in
    omega arith
