-- A device has a phase from a tick on, and each phase comes within a period.
use Rattle.std.proofs.Common.{◌≡◌, ℕ, ◌+◌, ◌-◌, ◌*◌, ◌/◌, ◌%◌, ◌<◌, ◌≤◌, ◌⊎◌, Bool, true, false, List, length, get_or, Option, Some, None, option_map, inl, inr, refl, ap, ◌∙◌, arith}
use Rattle.std.proofs.Math.Nat.{mod-lt}
use Rattle.std.proofs.lemmas.Bool.{cases_lt}
use Rattle.jesd_base.proofs.BitLemmas.{finds_none}
use Rattle.link_params.specs.declared.alarms.Device.{Device}
use Rattle.link_params.specs.declared.alarms.Device.TheVariants.{Tx, Rx}
use Rattle.link_params.specs.Numbers.{period}
use Rattle.link_params.proofs.LawFacts.{timely}
use Rattle.link_params.proofs.StepFacts.{in_step}
use Rattle.sysref_clock.specs.Clocks.{first_edge, phase_after}
use Rattle.scenario.specs.Plans.{Plan}
use Rattle.link_model.specs.Edges.{edge_tick, edges, is_edge, is_reset, jitter, last_reset, phase, skew}
use Rattle.link_model.proofs.TxHistory.{last-reset-le}
use Rattle.link_model.proofs.EdgeTicks.{is_edge-here, jitter-small, near_place}
use Rattle.link_laws.specs.Premises.{GivesPhase}
use Rattle.link_laws.specs.Laws.{IsPlanRead}
use Rattle.link_laws.proofs.PlanRead.{has-edges}
use Rattle.link_laws.proofs.Phases.{HasEdges, edge-of-phase, edges-at, gives-later, last-reset-same, length-edges, phase-of}

cases-some : (o : Option ℕ) → ((x : ℕ) × (o ≡ Some x)) ⊎ (o ≡ None)
cases-some (Some x) = inl (x, refl)
cases-some None = inr refl

-- the ticks from h on after which each device has a phase
abbrev pub phase_ticks : Plan → ℕ
phase_ticks s = s.link.timing.sysref_period + period s.link.params + 4

-- where an edge is captured there is a phase
phase-after-edge : (s : Plan) (d : Device) (t i : ℕ) → HasEdges s
    → last_reset s d t ≤ edge_tick s d i → edge_tick s d i ≤ t → (y : ℕ) × (phase s d t ≡ Some y)
unfolding phase_after
phase-after-edge s d t i e since by =
    let es : List Bool = edges s d t in
    let r : ℕ = last_reset s d t in
    let c : ℕ = edge_tick s d i in
    let long = length-edges s d t in
    elim (cases-some (first_edge es)) [
      | inl k ↦ (
        (length es - 1 - k.0) % period s.link.params,
        ap (option_map (λ (x : ℕ). (length es - 1 - x) % period s.link.params)) k.1,
      )
      | inr none ↦
          let no = (finds_none (λ j. get_or es j false) (length es) 0).0 none (c - r) (omega arith)
          (omega arith) in
          let at : r + (c - r) ≡ c = omega arith in
          let here : get_or es (c - r) false ≡ true = edges-at s d t (c - r) (omega arith)
          ∙ ap (is_edge s d) at ∙ is_edge-here s d c i e.regular refl in
          absurd (cc)
    ]

-- an edge comes after tick h, soon
record ComesSoon (s : Plan) (d : Device) (h : ℕ) : Type 0 where
  edge : ℕ
  after : h ≤ edge_tick s d edge
  soon : edge_tick s d edge ≤ h + phase_ticks s

skew-period : (s : Plan) (d : Device) → IsPlanRead s
    → skew s.link.timing d ≤ 16 * period s.link.params
skew-period s Tx read = (timely s.link.params s.link.timing read.timing).tx_skew
skew-period s Rx read = (timely s.link.params s.link.timing read.timing).rx_skew

edge-near : (s : Plan) (d : Device) (i : ℕ) → HasEdges s
    → (16 * (s.link.timing.sysref_start + i * s.link.timing.sysref_period) ≤ 16 * edge_tick s d i
    + 32)
    × (16 * edge_tick s d i ≤ 16 * (s.link.timing.sysref_start + i * s.link.timing.sysref_period)
    + skew s.link.timing d + 47)
unfolding edge_tick
edge-near s d i e =
    let paced = e.regular.link in
    let start = paced.start_low in
    let n : ℕ = s.link.timing.sysref_start + i * s.link.timing.sysref_period in
    let near = near_place n (skew s.link.timing d) (jitter s.jitters d i) (omega arith)
    (jitter-small s.jitters d i e.regular.jitters) in
    let low = near.0 in
    (omega arith, near.1)

-- a multiple that is not below a number, less than a step above it
multiple-above : (x n : ℕ) → 0 < n → (i : ℕ) × (x ≤ i * n) × (i * n < x + n)
multiple-above x n some =
    let whole : n * ((x + (n - 1)) / n) + (x + (n - 1)) % n ≡ x + (n - 1) = omega arith in
    let rest : (x + (n - 1)) % n < n = mod-lt (x + (n - 1)) some in
    let turn : ((x + (n - 1)) / n) * n ≡ n * ((x + (n - 1)) / n) = omega arith in
    ((x + (n - 1)) / n, omega arith, omega arith)

comes-soon : (s : Plan) (d : Device) (h : ℕ) → IsPlanRead s → ComesSoon s d h
comes-soon s d h read =
    let e = has-edges s read in
    let t = s.link.timing in
    let paced = e.regular.link in
    let start = paced.start_high in
    let some = paced.period_low in
    let small = skew-period s d read in
    elim (cases_lt t.sysref_start (h + 2)) [
      | inr early ↦
          let near = edge-near s d 0 e in
          let near_low = near.0 in
          let near_high = near.1 in
          record { edge = 0; after = omega arith; soon = omega arith }
      | inl late ↦
          let m = multiple-above (h + 2 - t.sysref_start) t.sysref_period (omega arith) in
          let low = m.1 in
          let high = m.2 in
          let near = edge-near s d m.0 e in
          let near_low = near.0 in
          let near_high = near.1 in
          record { edge = m.0; after = omega arith; soon = omega arith }
    ]

-- without a reset after h a device has a phase so many ticks later
pub phase-comes : (s : Plan) (d : Device) (h t : ℕ) → IsPlanRead s
    → ((x : ℕ) → h < x → x ≤ t → is_reset s d x ≡ false) → h + phase_ticks s ≤ t
    → (y : ℕ) × (phase s d t ≡ Some y)
phase-comes s d h t read quiet late =
    let c = comes-soon s d h read in
    let after = c.after in
    let soon = c.soon in
    let same = last-reset-same t s d h (omega arith) quiet in
    let low = last-reset-le s d h in
    phase-after-edge s d t c.edge (has-edges s read) (omega arith) (omega arith)

-- each phase comes within a period
pub phase-at : (s : Plan) (d : Device) (t y x : ℕ) → IsPlanRead s
    → ((i : ℕ) → t < i → i ≤ t + period s.link.params → is_reset s d i ≡ false)
    → phase s d t ≡ Some y
    → x < period s.link.params → (u : ℕ) × (t ≤ u) × (u < t + period s.link.params)
    × (phase s d u ≡ Some x)
phase-at s d t y x read quiet is below =
    let n : ℕ = period s.link.params in
    let e = has-edges s read in
    let k = edge-of-phase s d t y e.regular is in
    let g : GivesPhase s d t k.0 = k.1 in
    let by = g.by in
    let c : ℕ = edge_tick s d k.0 in
    let gap : ℕ = (x + n - (t - c + 0) % n) % n in
    let small : gap < n = mod-lt (x + n - (t - c + 0) % n) (let q : 0 < n = omega arith in q) in
    let step : (t - c + gap + 0) % n ≡ x = in_step n (t - c) 0 x below in
    let same : t + gap - c ≡ t - c + gap + 0 = omega arith in (
      t + gap,
      omega arith,
      omega arith,
      phase-of s d (t + gap) k.0 e.regular
          (gives-later s d t (t + gap) k.0 (omega arith) (λ i a b. quiet i a (omega arith)) g)
          ∙ ap (λ (m : ℕ). Some (m % n)) same ∙ ap Some step,
    )
