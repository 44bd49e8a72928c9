-- In which ticks SYSREF edges are captured.
use Rattle.std.proofs.Common.{◌≡◌, ◌≤◌, ◌<◌, ◌+◌, ◌==◌, ℕ, Bool, [], ◌∷◌, ◌++◌, IsTrue, All, sym, ◌∙◌, ap, subst, add-one, arith, inl, inr}
use Rattle.std.proofs.lemmas.Bool.{cases_lt}
use Rattle.link_params.specs.Numbers.{period}
use Rattle.sysref_clock.specs.kept.Ticks.{Clock, HasTicked}
use Rattle.scenario.specs.Limits.{jitter_fits}
use Rattle.scenario.specs.Plans.{Plan}
use Rattle.link_model.proofs.EdgeTicks.{IsRegular, edges-taken, is_edge-next, later, taken}
use Rattle.link_model.specs.kept.Before.{IsPaced}
use Rattle.link_model.specs.Edges.{edge_tick, edges, is_edge, is_reset}
use Rattle.link_run.specs.kept.Clocked.{Clocking, HasClocked}

-- ---- what a clock keeps

pub regular : (s : Plan) (now : Clocking) (t : ℕ) → IsPaced now.link
    → All (λ j. IsTrue (jitter_fits j)) s.jitters → HasClocked now s t → IsRegular s
regular s now t h all run = record { link = subst IsPaced run.same_link h; jitters = all }

is_edge-kept : (s : Plan) (now : Clocking) (t : ℕ) → IsRegular s → HasClocked now s t
    → is_edge s now.device t ≡ (t == now.tick)
is_edge-kept s now t h run =
    let e = run.next_edge in
    let to_come = run.to_come in
    is_edge-next s now.device t now.next h run.passed (omega arith) ∙ ap (λ x. t == x) (sym e)

-- the edges up to tick t, as the clock took them
pub edges-kept : (s : Plan) (now : Clocking) (t : ℕ) (reset : Bool) → IsRegular s → HasClocked now s t
    → reset ≡ is_reset s now.device t
    → taken s now.device t reset ++ (t == now.tick) ∷ [] ≡ edges s now.device t
edges-kept s now t reset h run is =
    ap (λ b. taken s now.device t reset ++ b ∷ []) (sym (is_edge-kept s now t h run))
    ∙ sym (edges-taken s now.device t reset is)

-- no edge comes in tick t
pub stays : (s : Plan) (now : Clocking) (t : ℕ) (clock : Clock) → HasClocked now s t
    → (t ≡ now.tick → ⊥)
    → HasTicked clock (period s.link.params) (edges s now.device t)
    → HasClocked
    (record {
      link = now.link;
      device = now.device;
      next = now.next;
      tick = now.tick;
      clock =
          clock;
    }) s (t + 1)
stays s now t clock run apart ticked =
    let to_come = run.to_come in
    record {
      same_link = run.same_link;
      next_edge = run.next_edge;
      to_come = elim (cases_lt t now.tick) [
        | inl before ↦ let q : t + 1 ≤ now.tick = omega arith in
            q
        | inr past ↦ let e : t ≡ now.tick = omega arith in absurd (apart e)
      ];
      passed = λ i lt. let before = run.passed i lt in omega arith;
      ticked = rw add-one ticked;
    }

-- the next edge comes in tick t
pub moves : (s : Plan) (now : Clocking) (t : ℕ) (clock : Clock) (tick : ℕ) → IsRegular s
    → HasClocked now s t → t ≡ now.tick
    → tick ≡ edge_tick s now.device (now.next + 1)
    → HasTicked clock (period s.link.params) (edges s now.device t)
    → HasClocked
    (record {
      link = now.link;
      device = now.device;
      next = now.next + 1;
      tick = tick;
      clock =
          clock;
    }) s (t + 1)
moves s now t clock tick h run here is ticked =
    let f : now.tick ≡ edge_tick s now.device now.next = run.next_edge in
    let up : edge_tick s now.device now.next < edge_tick s now.device (now.next + 1) =
    later (now.next + 1) s now.device now.next h (omega arith) in
    record {
      same_link = run.same_link;
      next_edge = is;
      to_come = omega arith;
      passed = λ i lt. elim (cases_lt i now.next) [
        | inl gone ↦ let before = run.passed i gone in omega arith
        | inr same ↦ let k : i ≡ now.next = omega arith in
            let g : edge_tick s now.device i ≡ edge_tick s now.device now.next =
            ap (edge_tick s now.device) k in omega arith
      ];
      ticked = rw add-one ticked;
    }
