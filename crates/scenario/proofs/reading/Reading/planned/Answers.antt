use Rattle.std.proofs.Common.{◌≡◌, ◌<◌, ◌*◌, ◌∙◌, IsTrue, Some, length, refl, sym, ap, subst, nat_lt}
use Rattle.std.proofs.Math.Nat.{zero-mod}
use Rattle.std.proofs.lemmas.Bool.{and_parts, ltb-true}
use Rattle.std.proofs.lemmas.List.Elements.{All-weaker}
use Rattle.std.proofs.lemmas.List.Sorted.{All-permutation, length_permutation}
use Rattle.scenario.specs.Answer.{seen_of, shape_of}
use Rattle.scenario.specs.Limits.{event_fits, what_fits}
use Rattle.scenario.specs.Plans.{plan_at}
use Rattle.scenario.specs.kept.Sound.{AreEvents, AreLanes, AreSound, AreTicks}
use Rattle.scenario.specs.declared.plan.Event.{Event}
use Rattle.scenario.proofs.LaneOrders.{length-inverted, order-or}
use Rattle.scenario.proofs.InputLemmas.{IsGiven, given}
use Rattle.scenario.proofs.reading.Reading.planned.Goals as goal

pub invariant_of-result : goal.invariant_of-result
invariant_of-result c =
    let b = c.args.setup in
    let q = c.shape-shape.result in
    let r = c.args.self in
    let sound = subst (λ s. AreSound s (seen_of r)) c.requires.place c.requires.sound in
    let is : b.link.params ≡ q = sym c.shape-shape.ensures.same in
    let input = subst (λ p. IsGiven p r.words.items c.input_of.result) is
    (given b.link.params b.ramp r.words.items c.input_of.result c.shape-shape.ensures.legal
    c.input_of.ensures sound.0) in
    let ticks = subst (λ p. AreTicks p b.ticks b.print) is sound.2 in
    let events = subst (λ p. AreEvents p b.ticks r.events.items r.jitters.items r.flips.items) is
    sound.3 in
    let lanes = subst (λ p. AreLanes p r.wire.items r.route.items) is sound.4 in
    let moved = c.in_ok-sort_events.ensures.same in
    record {
      whole_frames = input.whole;
      words_fit = input.fit;
      whole_octets = rw sound.1 (zero-mod (q.l * q.f));
      ramp_fits = input.ramp;
      few_ticks = ticks.few;
      few_octets = ticks.octets;
      few_words = ticks.words;
      events_fit = All-permutation (λ e. IsTrue (event_fits q b.ticks e)) _ _ moved
          events.events_fit;
      jitters_fit = events.jitters_fit;
      flips_fit = events.flips_fit;
      events_ordered = c.in_ok-sort_events.ensures.sorted;
      few_events = rw (length_permutation _ _ moved) events.few_events;
      few_flips = events.few_flips;
      wire_lanes = rw (c.in_ok-wire.ensures, c.lanes-lanes.ensures.value)
          (order-or q.l r.wire.items lanes.wire_lanes);
      route_lanes = rw (c.in_ok-route.ensures, c.lanes-lanes.ensures.value)
          (order-or q.l r.route.items lanes.route_lanes);
      all_polarities = ap length c.in_ok-inverted.ensures ∙ length-inverted _ _
          ∙ c.lanes-lanes.ensures.value;
      same_shape = λ k e. let same : b.link ≡ k = cc e in ap (λ l. l.params) (sym same) ∙ is;
      some_ticks = λ k e. ticks.some;
      some_words = λ k e. input.some;
      no_ticks = λ e. absurd (cc e);
      no_print = λ e. absurd (cc e);
      no_ramp = λ e. absurd (cc e);
      no_events = λ e. absurd (cc e);
      no_jitters = λ e. absurd (cc e);
      no_flips = λ e. absurd (cc e);
    }

pub returns : goal.returns
returns c =
    let b = c.args.setup in
    let p = b.link.params in
    let seen = seen_of c.args.self in
    let sound = subst (λ s. AreSound s seen) c.requires.place c.requires.sound in
    let input = given p b.ramp c.args.self.words.items c.input_of.result c.shape-shape.ensures.legal
    c.input_of.ensures sound.0 in
    let events = sound.3 in
    let fits = All-permutation (λ e. IsTrue (event_fits p b.ticks e)) _ _ c.in_ok-sort_events.ensures.same
    events.events_fit in
    let below = All-weaker (λ e. IsTrue (event_fits p b.ticks e)) (λ (e : Event). e.tick < b.ticks)
    (λ e h. ltb-true e.tick b.ticks (and_parts (nat_lt e.tick b.ticks) (what_fits p e.what) h).0) _
    fits in
    let count = c.lanes-lanes.ensures.value ∙ ap (λ q. q.l) c.shape-shape.ensures.same in
    let order = c.in_ok-sort_events.ensures.order b.ticks below in
    record {
      shape = ap shape_of c.requires.place ∙ ap Some (sym c.shape-shape.ensures.same);
      words = input.same;
      octets = refl;
      plan = ap (λ s. plan_at s seen) c.requires.place ∙ rw (
        order,
        c.input_of.ensures,
        c.in_ok-wire.ensures,
        c.in_ok-route.ensures,
        c.in_ok-inverted.ensures,
        c.as_slice.ensures.value,
        count,
      ) refl;
    }
