use Rattle.std.proofs.Common.{◌≡◌, ◌∙◌, ◌++◌, ◌∷◌, [], ◌==◌, List, Bool, refl, sym, ap, subst}
use Rattle.link_params.specs.Numbers.{period}
use Rattle.sysref_clock.specs.Clocks.{phase_after, off_after}
use Rattle.sysref_clock.specs.kept.Ticks.{HasTicked}
use Rattle.sysref_clock.specs.declared.clock_tick.ClockTick.{ClockTick}
use Rattle.scenario.specs.Plans.{Plan}
use Rattle.link_run.specs.kept.Clocked.{Clocking, HasClocked}
use Rattle.link_model.specs.Edges.{is_reset, edges}
use Rattle.link_model.proofs.EdgeTicks.{IsRegular, taken}
use Rattle.link_run.proofs.EdgeTicks.{regular, edges-kept, stays, moves}
use Rattle.link_run.proofs.device_clock.DeviceClock.tick.Goals as goal
use Rattle.link_run.proofs.device_clock.DeviceClock.tick.Goals.{then-edge, else-edge}

-- the clock before this tick
abbrev before : goal.After-tick → Clocking
before c =
    let old = c.self.inside in
    record {
      link = old.link;
      device = old.device;
      next = old.next;
      tick = old.tick;
      clock =
          old.clock;
    }

record Known (c : goal.After-tick) (s : Plan) : Type 0 where
  run : HasClocked (before c) s c.args.t
  is_regular : IsRegular s
  edges_are : taken s (before c).device c.args.t c.args.reset ++ (c.args.t == (before c).tick)
      ∷ [] ≡ edges s (before c).device c.args.t
  ticked : HasTicked c.if-edge.self-inside.clock (period s.link.params)
      (taken s (before c).device c.args.t c.args.reset)

known : (c : goal.After-tick) (s : Plan) → HasClocked c.args.self.now s c.args.t
    → s.jitters ≡ c.args.jitters.now
    → c.args.reset ≡ is_reset s c.args.self.now.device c.args.t → Known c s
known c s run same is =
    let e : c.args.self.now ≡ before c = sym c.self.view_is in
    let ran = subst (λ (x : Clocking). HasClocked x s c.args.t) e run in
    let regular = regular s (before c) c.args.t c.self.invariant.0 (rw same c.requires.jitters)
    ran in
    let clock : c.if-edge.self-inside.clock ≡ c.clear_if.new.clock =
    elim c.if-edge.branch [
      | then-edge w ↦ rw w.self-inside-is refl
      | else-edge w ↦
          rw w.self-inside-is refl
    ] in
    record {
      run = ran;
      is_regular = regular;
      edges_are = edges-kept s (before c) c.args.t c.args.reset regular ran
          (is ∙ ap (λ (x : Clocking). is_reset s x.device c.args.t) e);
      ticked = rw clock (c.clear_if.ensures _ _ ran.ticked);
    }

pub returns-clause-answer : goal.returns-clause-answer
returns-clause-answer c s run same is =
    let k = known c s run same is in
    let answer : List Bool → ClockTick =
    λ x. record {
      phase = phase_after (period s.link.params) x;
      off =
          off_after (period s.link.params) x;
    } in
    c.tick.ensures.answer _ _ k.ticked ∙ ap answer k.edges_are
    ∙ ap (λ (x : Clocking). answer (edges s x.device c.args.t)) c.self.view_is

pub returns-clause-goes_on : goal.returns-clause-goes_on
returns-clause-goes_on c s run same is =
    let k = known c s run same is in
    let ran = k.run in
    let ticked = subst (λ x. HasTicked c.tick.new.self (period s.link.params) x) k.edges_are
    (c.tick.ensures.goes_on _ _ k.ticked) in
    elim c.if-edge.branch [
      | then-edge w ↦
          let next = w.tick_after-self-inside in
          rw w.self-inside-is
          (moves s (before c) c.args.t c.tick.new.self next.result k.is_regular ran
          w.if-edge.true (next.ensures.tick s (sym ran.same_link) same) ticked)
      | else-edge w ↦
          rw w.self-inside-is
          (stays s (before c) c.args.t c.tick.new.self ran w.if-edge.false ticked)
    ]
