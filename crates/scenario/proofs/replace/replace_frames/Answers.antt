use Rattle.std.proofs.Common.{◌≡◌, length, true, nat_le, refl, arith}
use Rattle.std.proofs.lemmas.Bool.Decides.{nat_tests}
use Rattle.scenario.proofs.replace.replace_frames.Goals as goal

pub invariant_of-result : goal.invariant_of-result
invariant_of-result c =
    let s = c.args.s in
    let some : nat_le 1 (length c.args.words.items) ≡ true = grind (arith, nat_tests) in
    record {
      whole_frames = c.requires.whole;
      words_fit = c.requires.below;
      whole_octets = s.whole_octets;
      ramp_fits = refl;
      few_ticks = s.few_ticks;
      few_octets = s.few_octets;
      few_words = s.few_words;
      events_fit = s.events_fit;
      jitters_fit = s.jitters_fit;
      flips_fit = s.flips_fit;
      events_ordered = s.events_ordered;
      few_events = s.few_events;
      few_flips = s.few_flips;
      wire_lanes = s.wire_lanes;
      route_lanes = s.route_lanes;
      all_polarities = s.all_polarities;
      same_shape = s.same_shape;
      some_ticks = s.some_ticks;
      some_words = λ k e. some;
      no_ticks = s.no_ticks;
      no_print = s.no_print;
      no_ramp = λ e. refl;
      no_events = s.no_events;
      no_jitters = s.no_jitters;
      no_flips = s.no_flips;
    }
