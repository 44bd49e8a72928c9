use Rattle.std.proofs.Common.{◌∙◌, sym, ap, rules, arith, w32}
use Rattle.std.proofs.lemmas.Int.{to_z-of_z}
use Rattle.link_model.proofs.EdgeTicks.{IsSmall, jitter-small, skew-small, place_low, captured_near, captured_is}
use Rattle.link_params.specs.Links.{Link}
use Rattle.link_model.specs.Edges.{jitter}
use Rattle.link_run.proofs.device_clock.tick_of.Goals as goal

pub capture_tick-requires-clause-skew : goal.capture_tick-requires-clause-skew
capture_tick-requires-clause-skew c =
    let small = skew-small c.args.link.now c.args.device c.requires.paced in
    rw (c.skew_of.ensures, c.timing-timing.ensures.same) (omega arith)

pub capture_tick-requires-clause-earliest : goal.capture_tick-requires-clause-earliest
capture_tick-requires-clause-earliest c =
    let small : IsSmall c.jitter_of.result =
    rw c.jitter_of.ensures (jitter-small _ _ _ c.requires.jitters) in
    rw (to_z-of_z w32 c.jitter_of.result (search rules)) small.low

pub capture_tick-requires-clause-latest : goal.capture_tick-requires-clause-latest
capture_tick-requires-clause-latest c =
    let small : IsSmall c.jitter_of.result =
    rw c.jitter_of.ensures (jitter-small _ _ _ c.requires.jitters) in
    rw (to_z-of_z w32 c.jitter_of.result (search rules)) small.high

pub capture_tick-requires-clause-place : goal.capture_tick-requires-clause-place
capture_tick-requires-clause-place c =
    let small : IsSmall c.jitter_of.result =
    rw c.jitter_of.ensures (jitter-small _ _ _ c.requires.jitters) in
    let start = c.requires.paced.start_low in
    let t = c.timing-timing.ensures.same in
    rw (to_z-of_z w32 c.jitter_of.result (search rules))
    (place_low _ _ _ (rw t (omega arith)) small)

pub returns-clause-tick : goal.returns-clause-tick
returns-clause-tick c s link jitters =
    let z = to_z-of_z w32 c.jitter_of.result (search rules) in
    c.capture_tick.ensures
    ∙ captured_is s c.args.device c.args.edge c.timing-timing.result c.skew_of.result _
    (c.timing-timing.ensures.same ∙ ap (λ (k : Link). k.timing) (sym link)) c.skew_of.ensures
    (z ∙ c.jitter_of.ensures ∙ ap (λ x. jitter x c.args.device c.args.edge) (sym jitters))

pub returns-clause-near : goal.returns-clause-near
returns-clause-near c =
    let small : IsSmall c.jitter_of.result =
    rw c.jitter_of.ensures (jitter-small _ _ _ c.requires.jitters) in
    let z = to_z-of_z w32 c.jitter_of.result (search rules) in
    rw (c.capture_tick.ensures, z)
    (captured_near c.args.link.now _ _ _ _ c.timing-timing.ensures.same c.requires.paced small)
