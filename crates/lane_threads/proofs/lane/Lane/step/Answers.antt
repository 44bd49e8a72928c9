use Rattle.std.proofs.Common.{◌≡◌, ◌<◌, ◌^◌, ℕ, List, Bool, sym, ◌∙◌, ap, subst}
use Rattle.jesd_base.specs.Bits.{bits}
use Rattle.link_params.specs.Numbers.{width}
use Rattle.line_model.specs.LineBits.{Settings}
use Rattle.link_model.specs.Carried.{with_polarity}
use Rattle.link_model.specs.Wiring.{route_of, wire_of}
use Rattle.lane_threads.specs.kept.LaneRuns.{HasRunLane, Pair, settings}
use Rattle.lane_threads.specs.kept.LaneEnds.{tx_width}
use Rattle.lane_threads.proofs.PairLemmas.{lane-ticks}
use Rattle.lane_threads.proofs.lane.Lane.step.Goals as goal

pub returns-clause-goes_on : goal.returns-clause-goes_on
returns-clause-goes_on c = λ s lane x h stays.
    let p = s.link.params in
    let t = s.link.timing in
    let old = subst (λ (q : Pair). HasRunLane q s lane x) (sym c.self.view_is) h in
    let wide : c.width.result ≡ width p =
    c.width.ensures ∙ c.tick-sent.ensures.width ∙ sym c.self.invariant.sends
    ∙ ap (λ (v : Settings). v.width) old.line.keeps_settings in
    let flipped : c.self.inside.inverted ≡ x.inverted = old.polarity in
    let word = c.with_polarity-received.ensures.bits in
    let kept : bits (width p) c.with_polarity-received.result
    ≡ with_polarity c.self.inside.inverted (bits (width p) c.step.result) =
    subst (λ (n : ℕ). bits n c.with_polarity-received.result
    ≡ with_polarity c.self.inside.inverted (bits n c.step.result)) wide word in
    let read : bits (width p) c.with_polarity-received.result
    ≡ with_polarity x.inverted (bits (width p) c.step.result) =
    subst (λ (b : Bool). bits (width p) c.with_polarity-received.result
    ≡ with_polarity b (bits (width p) c.step.result)) flipped kept in
    lane-ticks _ s lane x c.args.order c.args.octets c.args.told.now c.tick-sent.result
    c.with_polarity-received.result (record {
      sends = c.tick-sent.ensures.bits p (wire_of s lane) x.handed old.tx;
      sent = c.tick-sent.ensures.sent p (wire_of s lane) x.handed old.tx;
      answer = read ∙ ap (with_polarity x.inverted)
          (c.step.ensures.answer (settings s lane x) x.sent old.line);
      carried = c.step.ensures.goes_on (settings s lane x) x.sent old.line;
      goes_on = λ no. c.take.ensures.goes_on p t (route_of s lane) x.taken x.gave old.rx no (stays no);
      begins = λ yes. c.take.ensures.begins p t (route_of s lane) x.taken x.gave old.rx yes;
      polarity = old.polarity;
      same_depth = c.take.ensures.depth ∙ old.depth;
    })
