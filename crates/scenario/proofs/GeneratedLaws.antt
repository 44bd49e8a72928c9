-- The plan of a number is a legal one.
use Rattle.std.proofs.Common.{◌≡◌, ◌<◌, ℕ, ◌+◌, ◌/◌, false, None, arith}
use Rattle.std.proofs.lemmas.List.{length-replicate}
use Rattle.link_params.specs.Laws.{broken_law}
use Rattle.link_params.specs.Numbers.{period}
use Rattle.link_params.specs.TimingLaws.{broken_timing}
use Rattle.scenario.specs.Generated.{draw, drawn_params, drawn_timing, generated, lateness, latest, mode_of_draw}
use Rattle.scenario.specs.laws.ReadingLaws.{GeneratesLegalPlans}
use Rattle.scenario.proofs.FitLemmas.{draw-below, events-fit, small}
use Rattle.scenario.proofs.LaneOrders.{order-numbers}
use Rattle.scenario.proofs.LegalLemmas.{legal, timely}
use Rattle.scenario.proofs.ReadingLaws.{frame-below, frame-size}

drawn-laws : (number : ℕ) → broken_law (drawn_params number) ≡ None
drawn-laws number =
    let lanes = draw-below number 1 8 (omega arith) in
    let blocks = draw-below number 2 4 (omega arith) in
    legal (mode_of_draw (draw number 0 3)) (1 + draw number 1 8) (1 + draw number 2 4)
    (omega arith) (omega arith) (omega arith) (omega arith)

drawn-timing : (number : ℕ)
    → broken_timing (drawn_params number) (drawn_timing number (drawn_params number)) ≡ None
drawn-timing number =
    let p = drawn_params number in
    let are = small number in
    let low = are.period_low in
    let half : 0 < period p / 2 = omega arith in
    let high = draw-below number 5 (period p / 2) half in
    timely p (lateness number p) (draw number 4 (period p)) (latest number p) (omega arith)
    are.period_high (draw-below number 3 (period p) (omega arith))
    (draw-below number 4 (period p) (omega arith)) (omega arith) (omega arith)

pub generates-legal-plans : GeneratesLegalPlans
unfolding generated
generates-legal-plans number =
    let fit = events-fit number (drawn_params number) (small number) in
    record {
      laws = drawn-laws number;
      timing = drawn-timing number;
      some_ticks = omega arith;
      few_ticks = omega arith;
      events = fit.events_fit;
      jitters = fit.jitters_fit;
      flips = fit.flips_fit;
      wire = order-numbers (drawn_params number).l;
      route = order-numbers (drawn_params number).l;
      inverted = length-replicate (drawn_params number).l false;
      size = frame-size (generated number);
      words = λ n r. frame-below (generated number) n r tt;
    }
