use Rattle.std.proofs.Common.{◌≡◌, ◌*◌, ◌∙◌, false, refl, sym, ap, Some, arith}
use Rattle.std.proofs.lemmas.List.{length-replicate}
use Rattle.scenario.proofs.LaneOrders.{order-numbers}
use Rattle.std.proofs.Math.Nat.{zero-mod}
use Rattle.link_params.specs.Links.{Link}
use Rattle.scenario.proofs.FitLemmas.{AreSmall, events-fit, events-ordered, small, ticks-fit}
use Rattle.scenario.proofs.MadeLemmas.{made, plan-is}
use Rattle.scenario.proofs.generated.drawn_scenario.Goals as goal

pub invariant_of-result : goal.invariant_of-result
invariant_of-result c =
    let is = made c.args.number c.drawn_shape-shape.result c.drawn_link-link.result
    c.in_ok-events.events.items c.drawn_reset.result c.push.new.self.items
    c.in_ok-jitters.jitters.items c.in_ok-flips.flips.items
    _ _ _ _ _ _ c.of-draws.ensures c.drawn_shape-shape.ensures.answer
    c.drawn_shape-shape.ensures.state c.drawn_link-link.ensures.shape
    c.drawn_link-link.ensures.answer c.drawn_link-link.ensures.state c.in_ok-events.ensures.answer
    c.in_ok-events.ensures.state c.in_ok-jitters.ensures.answer c.in_ok-jitters.ensures.state
    c.drawn_reset.ensures.answer c.drawn_reset.ensures.state c.in_ok-push.ensures.items
    c.in_ok-flips.ensures in
    let number = c.args.number in
    let p = c.drawn_shape-shape.result in
    let are : AreSmall p = rw is.shape (small number) in
    let ticks = ticks-fit p are in
    let fit = events-fit number p are in
    record {
      whole_frames = zero-mod (p.m * p.s);
      words_fit = λ i d lt. absurd (omega arith);
      whole_octets = rw c.new.ensures.items (zero-mod (p.l * p.f));
      ramp_fits = rw is.shape refl;
      few_ticks = ticks.few;
      few_octets = ticks.octets;
      few_words = ticks.words;
      events_fit = rw is.events fit.events_fit;
      jitters_fit = rw is.jitters fit.jitters_fit;
      flips_fit = rw is.flips fit.flips_fit;
      events_ordered = rw is.events (events-ordered number p);
      few_events = rw (is.events, is.jitters) fit.few_events;
      few_flips = rw is.flips fit.few_flips;
      wire_lanes = rw (c.in_ok-all_lanes.ensures, c.lanes-lanes.ensures.value) (order-numbers p.l);
      route_lanes = rw (c.in_ok-all_lanes-2.ensures, c.lanes-lanes.ensures.value)
          (order-numbers p.l);
      all_polarities = rw (c.in_ok-none_inverted.ensures, c.lanes-lanes.ensures.value)
          (length-replicate p.l false);
      same_shape = λ k e. let same : c.drawn_link-link.result ≡ k = cc e in
          ap (λ (l : Link). l.params) (sym same) ∙ c.drawn_link-link.ensures.shape;
      some_ticks = λ k e. ticks.some;
      some_words = λ k e. refl;
      no_ticks = λ e. absurd (cc e);
      no_print = λ e. absurd (cc e);
      no_ramp = λ e. absurd (cc e);
      no_events = λ e. absurd (cc e);
      no_jitters = λ e. absurd (cc e);
      no_flips = λ e. absurd (cc e);
    }

pub returns-clause-plan : goal.returns-clause-plan
returns-clause-plan c =
    let is = made c.args.number c.drawn_shape-shape.result c.drawn_link-link.result
    c.in_ok-events.events.items c.drawn_reset.result c.push.new.self.items
    c.in_ok-jitters.jitters.items c.in_ok-flips.flips.items
    _ _ _ _ _ _ c.of-draws.ensures c.drawn_shape-shape.ensures.answer
    c.drawn_shape-shape.ensures.state c.drawn_link-link.ensures.shape
    c.drawn_link-link.ensures.answer c.drawn_link-link.ensures.state c.in_ok-events.ensures.answer
    c.in_ok-events.ensures.state c.in_ok-jitters.ensures.answer c.in_ok-jitters.ensures.state
    c.drawn_reset.ensures.answer c.drawn_reset.ensures.state c.in_ok-push.ensures.items
    c.in_ok-flips.ensures in
    rw (
      c.in_ok-all_lanes.ensures,
      c.in_ok-all_lanes-2.ensures,
      c.in_ok-none_inverted.ensures,
      c.lanes-lanes.ensures.value,
    ) (ap Some (plan-is c.args.number c.drawn_shape-shape.result _ _ _ _ is))
