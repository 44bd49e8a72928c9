use Rattle.std.proofs.Common.{◌≡◌, ◌∙◌, ◌<◌, ℕ, Option, None, if◌then◌else◌, List, [], ◌∷◌, ◌++◌, length, slice_index, arith, sym, ap, ap₂, subst}
use Rattle.link_params.specs.declared.alarms.Device.TheVariants.{Tx, Rx}
use Rattle.link_params.specs.declared.fields.Params.{Params}
use Rattle.link_params.specs.declared.orders.RxOrder.{RxOrder}
use Rattle.link_params.specs.declared.orders.TxOrder.{TxOrder}
use Rattle.link_params.specs.Laws.{is_b}
use Rattle.link_params.specs.Numbers.{period}
use Rattle.scenario.proofs.LaneOrders.{order-length}
use Rattle.link_model.proofs.Wirings.{order-below}
use Rattle.link_model.proofs.NextMoment.{order-next, told-next}
use Rattle.link_model.proofs.RunTicks.{length-run}
use Rattle.link_model.specs.Edges.{off}
use Rattle.link_model.specs.Kinds.{kind_of, moment_of, run_of}
use Rattle.lane_threads.specs.declared.step.Step.{Step}
use Rattle.lane_threads.specs.kept.LaneEnds.{Follows, next_after}
use Rattle.link_run.specs.declared.edges.Edges.{Edges}
use Rattle.link_run.specs.kept.LaneRuns.{ArePut}
use Rattle.link_run.specs.kept.Segments.{StandAt, edges_of, step_of}
use Rattle.link_run.specs.kept.Sendings.{next_of}
use Rattle.link_run.proofs.FeedLemmas.{same_params}
use Rattle.link_run.proofs.LaneStates.{plan-there}
use Rattle.link_run.proofs.TickFacts.{frames-few}
use Rattle.link_run.proofs.planner.Planner.plan_tick.Goals as goal

abbrev step_with : TxOrder → RxOrder → Step
step_with order told = record { tx = order; rx = told }

abbrev edges_with : Option ℕ → Option ℕ → Edges
edges_with tx rx = record { tx = tx; rx = rx }

pub tick-sent-requires-clause-begun : goal.tick-sent-requires-clause-begun
tick-sent-requires-clause-begun c =
    let (s, is) = plan-there c.args.s.now c.args.self.now.link c.requires.link in
    let stands = subst (λ v. StandAt v s c.args.t) (sym c.self.view_is)
    (c.requires.stands s is).0 in
    let few = frames-few (kind_of s.link.params) c.args.t s in
    let count = stands.sent.feed.count in
    omega arith

pub tick-sent-requires-clause-shape : goal.tick-sent-requires-clause-shape
tick-sent-requires-clause-shape c =
    let (s, is) = plan-there c.args.s.now c.args.self.now.link c.requires.link in
    let stands = subst (λ v. StandAt v s c.args.t) (sym c.self.view_is)
    (c.requires.stands s is).0 in
    sym (stands.sent.feed.same_params ∙ same_params c.args.s.now s is)

pub tick-sent-requires-clause-link : goal.tick-sent-requires-clause-link
tick-sent-requires-clause-link c =
    let (s, is) = plan-there c.args.s.now c.args.self.now.link c.requires.link in
    let stands = subst (λ v. StandAt v s c.args.t) (sym c.self.view_is)
    (c.requires.stands s is).0 in
    ap (λ k. k.params) stands.same_link ∙ sym stands.sent.feed.same_params

pub put-requires-clause-lanes : goal.put-requires-clause-lanes
put-requires-clause-lanes c =
    let s = c.args.s.now in
    let shape = s.same_shape c.args.self.now.link c.requires.link in
    let same = ap (λ (p : Params). p.l) shape in
    let many = order-length s.shape.l s.wire.items s.wire_lanes in
    let wire = ap length c.as_slice-wire.ensures.value in
    omega (arith, c.requires.count, many, same, wire)

pub put-requires-clause-wired : goal.put-requires-clause-wired
put-requires-clause-wired c = λ lane below.
    let (s, is) = plan-there c.args.s.now c.args.self.now.link c.requires.link in
    let stands = (c.requires.stands s is).0 in
    let inner = subst (λ v. StandAt v s c.args.t) (sym c.self.view_is) stands in
    let feed = ap (λ (p : Params). p.l) (c.tick-sent.ensures.same ∙ inner.sent.feed.same_params
    ∙ ap (λ k. k.params) (sym stands.same_link)) in
    let from = c.args.s.now in
    let shape = ap (λ (p : Params). p.l) (from.same_shape c.args.self.now.link c.requires.link) in
    let low = order-below from.shape.l from.wire.items lane
    (omega (arith, c.requires.count, shape)) from.wire_lanes in
    subst (λ (w : List ℕ). slice_index w lane < length c.handed.result.now)
    (sym c.as_slice-wire.ensures.value) (omega (arith, low, shape, feed, c.handed.ensures.lanes))

pub put-requires-clause-inside : goal.put-requires-clause-inside
put-requires-clause-inside c = λ lane d below.
    let count = c.len.ensures in
    subst (λ (p : Params). c.len.result < period p) (sym (c.requires.lanes lane d below))
    (omega arith)

pub put-requires-clause-small : goal.put-requires-clause-small
put-requires-clause-small c = λ lane d below mode.
    let (s, is) = plan-there c.args.s.now c.args.self.now.link c.requires.link in
    let stands = (c.requires.stands s is).0 in
    let inner = subst (λ v. StandAt v s c.args.t) (sym c.self.view_is) stands in
    let params = inner.sent.feed.same_params ∙ ap (λ k. k.params) (sym stands.same_link) in
    let feed = ap (λ (p : Params). p.l) (c.tick-sent.ensures.same ∙ params) in
    let octets = ap (λ (p : Params). is_b p.mode) (params ∙ sym (c.requires.lanes lane d below))
    ∙ mode in
    let long = ap length c.handed.ensures.handed in
    let from = c.args.s.now in
    let shape = ap (λ (p : Params). p.l) (from.same_shape c.args.self.now.link c.requires.link) in
    let low = order-below from.shape.l from.wire.items lane
    (omega (arith, c.requires.count, shape)) from.wire_lanes in
    let sent : slice_index from.wire.items lane < length c.tick-sent.new.self.handed =
    omega (arith, low, shape, feed, long, c.handed.ensures.lanes) in
    let inside : slice_index c.as_slice-wire.result.now lane < length c.tick-sent.new.self.handed =
    subst (λ (w : List ℕ). slice_index w lane < length c.tick-sent.new.self.handed)
    (sym c.as_slice-wire.ensures.value) sent in
    subst (λ (v : List ℕ). slice_index v (slice_index c.as_slice-wire.result.now lane) < 256)
    (sym c.handed.ensures.handed)
    (c.tick-sent.ensures.small octets (slice_index c.as_slice-wire.result.now lane) 0 inside)

pub returns-clause-planned : goal.returns-clause-planned
returns-clause-planned c = λ s is.
    let p = s.link.params in
    let k = kind_of p in
    let t = c.args.t in
    let h = run_of s t in
    let given = c.requires.stands s is in
    let stands = subst (λ v. StandAt v s t) (sym c.self.view_is) given.0 in
    let long = length-run k s t in
    let tx = c.tick-sent.ensures.sent s h is (sym stands.same_link) stands.sent (sym long)
    given.1 in
    let rx = c.tell-told.ensures s h is (sym stands.same_link) stands.told (sym long) given.2 in
    let order : c.tick-sent.result.order ≡ (moment_of s h).order =
    tx.observes.order_due ∙ sym (order-next k s h) in
    let told : c.tell-told.result.told ≡ (moment_of s h).told = rx.told ∙ sym (told-next k s h) in
    let step : step_with c.tick-sent.result.order c.tell-told.result.told ≡ step_of s t =
    ap₂ step_with order told in
    let edges : edges_with c.tick-sent.result.off c.tell-told.result.off ≡ edges_of s t =
    ap₂ edges_with (tx.off ∙ ap (off s Tx) long) (rx.off ∙ ap (off s Rx) long) in
    record {
      steps = ap (λ g. g.steps) c.push.ensures
          ∙ ap (λ (x : Step). c.args.segment.now.steps ++ x ∷ []) step;
      edges = ap (λ g. g.edges) c.push.ensures
          ∙ ap (λ (x : Edges). c.args.segment.now.edges ++ x ∷ []) edges;
      decides_is = ap (λ g. g.decides) c.push.ensures ∙ rx.decides;
      sent = tx.after;
      told = rx.after;
      follows =
          subst (Follows p (if c.args.tx_reset then None else next_of p c.args.self.now.tx.sending))
          order (subst (λ v. Follows p (if c.args.tx_reset then None else next_of p v.tx.sending)
          c.tick-sent.result.order) c.self.view_is tx.observes.follows);
      next = tx.observes.next ∙ ap (next_after p) order;
    }

pub returns-clause-octets : goal.returns-clause-octets
returns-clause-octets c =
    subst (λ (w : List ℕ). ArePut c.args.lanes.now c.put.new.self w
    (length c.args.segment.now.steps) c.tick-sent.new.self.handed) c.as_slice-wire.ensures.value
    (subst (λ n. ArePut c.args.lanes.now c.put.new.self c.as_slice-wire.result.now n
    c.tick-sent.new.self.handed) c.len.ensures
    (subst (ArePut c.args.lanes.now c.put.new.self c.as_slice-wire.result.now c.len.result)
    c.handed.ensures.handed c.put.ensures.put))
