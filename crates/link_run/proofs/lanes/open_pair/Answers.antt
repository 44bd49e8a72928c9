use Rattle.std.proofs.Common.{◌≡◌, ◌≤◌, ◌<◌, ◌+◌, ◌*◌, ◌∙◌, ℕ, Bool, true, false, List, ap, arith, get_or, length, refl, slice_index, subst, sym, vec_len}
use Rattle.std.specs.Prelude.{All, IsTrue}
use Rattle.std.proofs.lemmas.List.{get_or_default}
use Rattle.rtrb.specs.Ring.{sent}
use Rattle.link_params.specs.declared.fields.Params.{Params}
use Rattle.link_params.specs.Links.{Link}
use Rattle.link_params.specs.Numbers.{width}
use Rattle.scenario.specs.Limits.{flip_fits, is_order}
use Rattle.scenario.specs.declared.plan.Flip.{Flip}
use Rattle.scenario.specs.declared.scenario_type.Scenario.{Scenario}
use Rattle.scenario.proofs.LaneOrders.{order-length}
use Rattle.link_model.specs.Wiring.{has_inverted_polarity, route_of, wire_of}
use Rattle.link_model.specs.kept.LaneRuns.{LaneRun, no_run}
use Rattle.link_model.proofs.Wirings.{order-below}
use Rattle.lane_threads.specs.kept.LaneEnds.{next_in, params_in}
use Rattle.lane_threads.specs.kept.LaneRuns.{HasRunLane}
use Rattle.link_run.proofs.LaneLemmas.{fits-within}
use Rattle.link_run.proofs.LaneStates.{link-of}
use Rattle.link_run.proofs.PlanFacts.{plan-facts}
use Rattle.link_run.proofs.lanes.open_pair.Goals as goal

-- a lane of the link is one of the scenario's
own-lane : (s : Scenario) (link : Link) (lane : ℕ) → link.params ≡ s.shape
    → lane < link.params.l → lane < s.shape.l
own-lane s link lane same below = let lanes = ap (λ (p : Params). p.l) same in omega arith

-- an entry of an order of the lanes, read with any default
entry-below : (l : ℕ) (lanes : List ℕ) (lane x : ℕ) → is_order l lanes ≡ true → lane < l
    → x ≡ get_or lanes lane x → (x ≡ slice_index lanes lane) × (x < l)
entry-below l lanes lane x order below is =
    let long = order-length l lanes order in
    let same : x ≡ slice_index lanes lane = is ∙ get_or_default lanes lane x 0 (omega arith) in
    let small = order-below l lanes lane (omega arith) order in (
      same,
      subst (λ n. n < l) (sym same) small,
    )

pub index-requires : goal.index-requires
index-requires c =
    let s : Scenario = c.args.s.now in
    let below = own-lane s c.args.link.now c.args.lane
    (s.same_shape c.args.link.now c.requires.link) c.requires.lane in
    let long = order-length s.shape.l s.wire.items s.wire_lanes in
    let items = s.wire.ok.0 in
    omega arith

pub index-requires-2 : goal.index-requires-2
index-requires-2 c =
    let s : Scenario = c.args.s.now in
    let below = own-lane s c.args.link.now c.args.lane
    (s.same_shape c.args.link.now c.requires.link) c.requires.lane in
    let long = order-length s.shape.l s.route.items s.route_lanes in
    let items = s.route.ok.0 in
    omega arith

pub index-requires-3 : goal.index-requires-3
index-requires-3 c =
    let s : Scenario = c.args.s.now in
    let below = own-lane s c.args.link.now c.args.lane
    (s.same_shape c.args.link.now c.requires.link) c.requires.lane in
    let long = s.all_polarities in
    let items = s.inverted.ok.0 in
    omega arith

pub open-requires-clause-lane : goal.open-requires-clause-lane
open-requires-clause-lane c =
    let s : Scenario = c.args.s.now in
    let shape = s.same_shape c.args.link.now c.requires.link in
    let below = own-lane s c.args.link.now c.args.lane shape c.requires.lane in
    let entry = entry-below s.shape.l s.wire.items c.args.lane c.index.result.now s.wire_lanes below
    c.index.ensures in
    let small = entry.1 in
    let lanes = ap (λ (p : Params). p.l) shape in
    omega arith

pub open-requires-clause-expect : goal.open-requires-clause-expect
open-requires-clause-expect c =
    let s : Scenario = c.args.s.now in
    let shape = s.same_shape c.args.link.now c.requires.link in
    let below = own-lane s c.args.link.now c.args.lane shape c.requires.lane in
    let entry = entry-below s.shape.l s.route.items c.args.lane c.index-2.result.now s.route_lanes
    below c.index-2.ensures in
    let small = entry.1 in
    let lanes = ap (λ (p : Params). p.l) shape in
    omega arith

pub returns-clause-opened : goal.returns-clause-opened
returns-clause-opened c =
    let link = c.args.link.now in
    let s : Scenario = c.args.s.now in
    let lane = c.args.lane in
    let flips = c.as_slice.result.now in
    let fresh = c.in_ok-opened.ensures.new in
    let next = c.in_ok-opened.ensures.next in
    let rest = c.set_inverted.ensures.rest in
    let shape : link.params ≡ s.shape = s.same_shape link c.requires.link in
    let below = own-lane s link lane shape c.requires.lane in
    let wired = entry-below s.shape.l s.wire.items lane c.index.result.now s.wire_lanes below
    c.index.ensures in
    let routed = entry-below s.shape.l s.route.items lane c.index-2.result.now s.route_lanes below
    c.index-2.ensures in
    let polarities = s.all_polarities in
    let on : c.index-3.result.now ≡ get_or s.inverted.items lane false =
    c.index-3.ensures
    ∙ get_or_default s.inverted.items lane c.index-3.result.now false (omega arith) in
    let fit = subst (λ (fs : List Flip). All (λ f. IsTrue (flip_fits link.params s.ticks f)) fs)
    (sym c.as_slice.ensures.value)
    (subst (λ (p : Params). All (λ f. IsTrue (flip_fits p s.ticks f)) s.flips.items)
    (sym shape) s.flips_fit) in
    let within = fits-within link.params s.ticks flips fit in
    record {
      begins = λ plan is.
          let facts = plan-facts s plan is in
          let same_link = sym (link-of s link plan c.requires.link is) in
          let same_flips : plan.flips ≡ flips = facts.flips ∙ sym c.as_slice.ensures.value in
          let same_ticks = facts.ticks in
          let wire : wire_of plan lane ≡ c.index.result.now =
          ap (λ (l : List ℕ). slice_index l lane) facts.wire ∙ sym wired.0 in
          let route : route_of plan lane ≡ c.index-2.result.now =
          ap (λ (l : List ℕ). slice_index l lane) facts.route ∙ sym routed.0 in
          let polarity : has_inverted_polarity plan lane ≡ c.index-3.result.now =
          ap (λ (l : List Bool). get_or l lane false) facts.inverted ∙ sym on in
          let line = c.in_ok-line.ensures.begins plan lane same_link
          (c.in_ok-flips.ensures.inverted plan (width link.params * plan.ticks) same_flips
          (subst (λ t. All (λ (f : Flip). f.first + f.count ≤ width link.params * t) flips)
          (sym same_ticks) within)) in
          let run = c.in_ok-opened.ensures.begins plan lane (no_run plan) same_link wire route
          (refl, refl, refl, refl) line in
          subst (λ (b : Bool).
          HasRunLane c.set_inverted.new.self.lane plan lane (record (no_run plan) { inverted = b }))
          (sym polarity) (c.set_inverted.ensures.goes_on plan lane (no_run plan) run);
      same = ap params_in c.set_inverted.ensures.tx ∙ next.0;
      next = ap next_in c.set_inverted.ensures.tx ∙ next.1;
      fullest = rest.1 ∙ fresh.0;
      room = rest.2 ∙ fresh.1;
      cells = ap sent rest.3 ∙ fresh.2;
    }
