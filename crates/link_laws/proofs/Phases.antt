-- The phase of a device from the edge that gave it, and where that edge stands when it was met.
use Rattle.std.proofs.Common.{◌≡◌, ℕ, zero, suc, ◌+◌, ◌-◌, ◌*◌, ◌/◌, ◌%◌, ◌<◌, ◌≤◌, ◌==◌, ◌⊎◌, Bool, true, false, List, length, get_or, Option, Some, None, inl, inr, refl, sym, ap, ◌∙◌, ℤ, pos, negsuc, ◌≤ℤ◌, ◌+ℤ◌, nat_abs, arith}
use Rattle.std.specs.List.{list_any}
use Rattle.std.specs.Option.{option_map}
use Rattle.std.proofs.Math.Nat.{add-mul-mod_self_left, mul-le-mul_left, mul_left_comm}
use Rattle.std.proofs.lemmas.Bool.{cases_Bool, cases_lt, eqb-true}
use Rattle.std.proofs.lemmas.Int.{ints}
use Rattle.std.proofs.lemmas.List.{get_or-map, length-map}
use Rattle.jesd_base.proofs.BitLemmas.{finds_least}
use Rattle.link_params.specs.declared.alarms.Device.{Device}
use Rattle.link_params.specs.declared.alarms.Device.TheVariants.{Tx, Rx}
use Rattle.link_params.specs.declared.fields.Timing.{Timing}
use Rattle.link_params.specs.Laws.{ceil}
use Rattle.link_params.specs.Numbers.{period, rx_edge, tx_edge}
use Rattle.link_params.specs.TimingLaws.{is_steady}
use Rattle.sysref_clock.specs.Clocks.{captured, first_edge, phase_after, place_of_edge}
use Rattle.sysref_clock.specs.laws.ClockLaws.{IsFirstEdge}
use Rattle.sysref_clock.proofs.Edges.{phase_is_of_first}
use Rattle.scenario.specs.Plans.{Plan, numbers_from}
use Rattle.link_model.specs.Edges.{edge_tick, edges, is_edge, is_reset, jitter, last_reset, phase, skew}
use Rattle.link_model.proofs.NumberLists.{get_or-numbers, length-numbers}
use Rattle.link_model.proofs.TxHistory.{last-reset-before}
use Rattle.link_model.proofs.EdgeTicks.{IsRegular, is_edge-here, jitter-small, place_low}
use Rattle.link_model.specs.Wiring.{wire_of}
use Rattle.link_laws.specs.Premises.{GivesPhase}

-- ---- resets

-- without a reset after h the last one stays
pub last-reset-same : (t : ℕ) (s : Plan) (d : Device) (h : ℕ) → h ≤ t
    → ((x : ℕ) → h < x → x ≤ t → is_reset s d x ≡ false)
    → last_reset s d t ≡ last_reset s d h
last-reset-same zero s d h low none = let e : 0 ≡ h = omega arith in ap (last_reset s d) e
last-reset-same (suc t) s d h low none = elim (cases_lt h (suc t)) [
  | inr here ↦ let e : suc t ≡ h = omega arith in ap (last_reset s d) e
  | inl above ↦
      last-reset-before s d (suc t) (none (suc t) above (omega arith))
      ∙ last-reset-same t s d h (omega arith) (λ x up down. none x up (omega arith))
]

-- ---- the first edge since a reset

any-in : (n a : ℕ) (p : ℕ → Bool) → list_any p (numbers_from a n) ≡ true → (i : ℕ) × (p i ≡ true)
unfolding numbers_from
any-in zero a p e = let bad : false ≡ true = e in absurd (cc)
any-in (suc n) a p e = elim (cases_Bool (p a)) [
  | inl here ↦ (a, here)
  | inr apart ↦
      any-in n (suc a) p
      (let r : list_any p (numbers_from a (suc n)) ≡ list_any p (numbers_from (suc a) n) =
      rw apart refl in sym r ∙ e)
]

edge-of-tick : (s : Plan) (d : Device) (t : ℕ) → is_edge s d t ≡ true
    → (i : ℕ) × (edge_tick s d i ≡ t)
unfolding is_edge
edge-of-tick s d t e = let k = any-in (t / s.link.timing.sysref_period + 2) 0
    (λ i. edge_tick s d i == t) e in (k.0, eqb-true (edge_tick s d k.0) t k.1)

pub length-edges : (s : Plan) (d : Device) (t : ℕ) → length (edges s d t) ≡ t + 1 - last_reset s d t
unfolding edges
length-edges s d t = length-map (numbers_from (last_reset s d t) (t + 1 - last_reset s d t))
    (is_edge s d) ∙ length-numbers (t + 1 - last_reset s d t) (last_reset s d t)

pub edges-at : (s : Plan) (d : Device) (t j : ℕ) → j < t + 1 - last_reset s d t
    → get_or (edges s d t) j false ≡ is_edge s d (last_reset s d t + j)
unfolding edges
edges-at s d t j below =
    let r : ℕ = last_reset s d t in
    let long = length-numbers (t + 1 - r) r in
    get_or-map (is_edge s d) (numbers_from r (t + 1 - r)) j 0 false (omega arith)
    ∙ ap (is_edge s d) (get_or-numbers (t + 1 - r) j r 0 below)

cases-some : (o : Option ℕ) → ((x : ℕ) × (o ≡ Some x)) ⊎ (o ≡ None)
cases-some (Some x) = inl (x, refl)
cases-some None = inr refl

-- the phase by the edge that gave it
pub phase-of : (s : Plan) (d : Device) (t i : ℕ) → IsRegular s → GivesPhase s d t i
    → phase s d t ≡ Some ((t - edge_tick s d i) % period s.link.params)
phase-of s d t i regular g =
    let r : ℕ = last_reset s d t in
    let e : ℕ = edge_tick s d i in
    let since = g.since in
    let by = g.by in
    let long = length-edges s d t in
    let at : r + (e - r) ≡ e = omega arith in
    let first : IsFirstEdge (edges s d t) (e - r) = record {
      comes = edges-at s d t (e - r) (omega arith)
          ∙ ap (is_edge s d) at ∙ is_edge-here s d e i regular refl;
      first = λ y below. edges-at s d t y (omega arith) ∙ (elim (cases_Bool (is_edge s d (r + y))) [
        | inr none ↦ none
        | inl here ↦
            let k = edge-of-tick s d (r + y) here in
            let is = k.1 in
            let low = g.first k.0 (omega arith) in
            absurd (omega arith)
      ]);
    } in
    let far : length (edges s d t) - 1 - (e - r) ≡ t - e = omega arith in
    (phase_is_of_first (period s.link.params) (edges s d t)).0 (e - r) first
    ∙ ap (λ (n : ℕ). Some (n % period s.link.params)) far

phase-none : (s : Plan) (d : Device) (t : ℕ) → first_edge (edges s d t) ≡ None → phase s d t ≡ None
unfolding phase_after
phase-none s d t none =
    ap (option_map (λ (x : ℕ). (length (edges s d t) - 1 - x) % period s.link.params)) none

-- a phase was given by an edge
pub edge-of-phase : (s : Plan) (d : Device) (t x : ℕ) → IsRegular s → phase s d t ≡ Some x
    → (i : ℕ) × GivesPhase s d t i
edge-of-phase s d t x regular is =
    let r : ℕ = last_reset s d t in
    let es : List Bool = edges s d t in
    let long = length-edges s d t in
    elim (cases-some (first_edge es)) [
      | inr none ↦
          let bad = phase-none s d t none in
          absurd (cc)
      | inl k ↦
          let found = (finds_least (λ j. get_or es j false) (length es) 0 k.0).0 k.1 in
          let least = found.0 in
          let inside = found.1 in
          let here = edge-of-tick s d (r + k.0) (sym (edges-at s d t k.0 (omega arith))
          ∙ least.passes) in
          let tick = here.1 in (
            here.0,
            record {
              since = omega arith;
              by = omega arith;
              first = λ q since. elim (cases_lt (edge_tick s d q) (edge_tick s d here.0)) [
                | inr up ↦ up
                | inl before ↦
                    let e : ℕ = edge_tick s d q in
                    let no = least.least (e - r) (omega arith) (omega arith) in
                    let at : r + (e - r) ≡ e = omega arith in
                    let yes : get_or es (e - r) false ≡ true = edges-at s d t (e - r) (omega arith)
                    ∙ ap (is_edge s d) at ∙ is_edge-here s d e q regular refl in
                    absurd (cc)
              ];
            },
          )
    ]

-- it still gives the phase in later ticks, where no reset comes
pub gives-later : (s : Plan) (d : Device) (t u i : ℕ) → t ≤ u
    → ((x : ℕ) → t < x → x ≤ u → is_reset s d x ≡ false) → GivesPhase s d t i → GivesPhase s d u i
gives-later s d t u i low none g =
    let same = last-reset-same u s d t low none in
    let since = g.since in
    let by = g.by in
    record { since = omega arith; by = omega arith; first = λ k after. g.first k (omega arith) }

-- ---- an edge that is met

-- the tick in which a device captures edge 0 without jitter
abbrev pub first_capture : Timing → Device → ℕ
first_capture t Tx = tx_edge t
first_capture t Rx = rx_edge t

steady-place : (n k tol y : ℕ) → is_steady tol k ≡ true → 16 * n + k ≤ y + tol
    → y ≤ 16 * n + k + tol → (y + 15) / 16 ≡ n + ceil k 16
steady-place n k tol y steady low high =
    let same : ceil (k + 15 * tol) 16 ≡ ceil (k + 17 * tol) 16 =
    eqb-true (ceil (k + 15 * tol) 16) (ceil (k + 17 * tol) 16) steady in
    omega arith

whole : (z : ℤ) → pos 0 ≤ℤ z → z ≡ pos (nat_abs z)
whole (pos n) up = refl
whole (negsuc n) up = absurd (omega (arith, ints))

-- a sum with a small number, which is not below 0
near-sum : (a tol : ℕ) (z : ℤ) → nat_abs z ≤ tol → pos 0 ≤ℤ (pos a +ℤ z)
    → (a ≤ nat_abs (pos a +ℤ z) + tol) × (nat_abs (pos a +ℤ z) ≤ a + tol)
near-sum a tol (pos j) small up = (omega (arith, ints), omega (arith, ints))
near-sum a tol (negsuc j) small up =
    let e : pos a +ℤ negsuc j ≡ pos (nat_abs (pos a +ℤ negsuc j)) = whole (pos a +ℤ negsuc j) up in
    let few : suc j ≤ tol = small in
    (omega (arith, ints), omega (arith, ints))

captured-met : (n k tol : ℕ) (z : ℤ) → is_steady tol k ≡ true → nat_abs z ≤ tol
    → pos 0 ≤ℤ place_of_edge n k z → captured n k z ≡ n + ceil k 16
captured-met n k tol z steady small up =
    let near = near-sum (16 * n + k) tol z small up in
    steady-place n k tol (nat_abs (place_of_edge n k z)) steady near.0 near.1

times-over : (i p q : ℕ) → i * (p * q) ≡ p * (i * q)
times-over i p q = mul_left_comm i p q

-- what the laws give of edges, and that each lane is wired to one
pub record HasEdges (s : Plan) : Type 0 where
  pub regular : IsRegular s
  pub some : 17 ≤ period s.link.params
  pub multiple : (q : ℕ) × (s.link.timing.sysref_period ≡ period s.link.params * q)
  pub steady_tx : is_steady s.link.timing.tolerance s.link.timing.tx_skew ≡ true
  pub steady_rx : is_steady s.link.timing.tolerance s.link.timing.rx_skew ≡ true
  pub wired : (lane : ℕ) → lane < s.link.params.l → wire_of s lane < s.link.params.l

steady-skew : (s : Plan) (d : Device) → HasEdges s
    → is_steady s.link.timing.tolerance (skew s.link.timing d) ≡ true
steady-skew s Tx e = e.steady_tx
steady-skew s Rx e = e.steady_rx

first-is : (t : Timing) (d : Device) → t.sysref_start + ceil (skew t d) 16 ≡ first_capture t d
first-is t Tx = refl
first-is t Rx = refl

-- an edge that is met is captured a whole number of periods after the first one
pub edge-met : (s : Plan) (d : Device) (i : ℕ) → HasEdges s
    → nat_abs (jitter s.jitters d i) ≤ s.link.timing.tolerance
    → edge_tick s d i ≡ first_capture s.link.timing d + i * s.link.timing.sysref_period
unfolding edge_tick
edge-met s d i e small =
    let t = s.link.timing in
    let paced = e.regular.link in
    let start = paced.start_low in
    let up = place_low (t.sysref_start + i * t.sysref_period) (skew t d) (jitter s.jitters d i)
    (omega arith) (jitter-small s.jitters d i e.regular.jitters) in
    let first = first-is t d in
    captured-met (t.sysref_start + i * t.sysref_period) (skew t d) t.tolerance
    (jitter s.jitters d i) (steady-skew s d e) small up
    ∙ omega arith

-- so it is congruent to the first one
pub edge-step : (s : Plan) (d : Device) (i : ℕ) → HasEdges s
    → nat_abs (jitter s.jitters d i) ≤ s.link.timing.tolerance
    → edge_tick s d i % period s.link.params ≡ first_capture s.link.timing d % period s.link.params
edge-step s d i e small =
    let p : ℕ = period s.link.params in
    let q : ℕ = e.multiple.0 in
    let whole_periods = e.multiple.1 in
    let all : i * s.link.timing.sysref_period ≡ p * (i * q) = ap (λ (n : ℕ). i * n) whole_periods
    ∙ times-over i p q in
    ap (λ (n : ℕ). n % p)
    (edge-met s d i e small ∙ ap (λ (n : ℕ). first_capture s.link.timing d + n) all)
    ∙ add-mul-mod_self_left (first_capture s.link.timing d) p (i * q)

-- ---- decisions

-- two numbers less than a period apart that leave one remainder are one
pub one-remainder : (p a b : ℕ) → 0 < p → a % p ≡ b % p → a ≤ b → b < a + p → a ≡ b
one-remainder p a b some e le near =
    let x : p * (a / p) + a % p ≡ a = omega arith in
    let y : p * (b / p) + b % p ≡ b = omega arith in
    elim (cases_lt (a / p) (b / p)) [
      | inl below ↦ let m : p * (a / p + 1) ≤ p * (b / p) =
          mul-le-mul_left p (let q : a / p + 1 ≤ b / p = omega arith in q) in absurd (omega arith)
      | inr up ↦ let m : p * (b / p) ≤ p * (a / p) = mul-le-mul_left p up in omega arith
    ]

-- two ticks of one phase are at least a period apart
pub phases-apart : (s : Plan) (d : Device) (t u x : ℕ) → HasEdges s → t < u
    → ((i : ℕ) → t < i → i ≤ u → is_reset s d i ≡ false)
    → phase s d t ≡ Some x → phase s d u ≡ Some x → t + period s.link.params ≤ u
phases-apart s d t u x e before none one two =
    let n : ℕ = period s.link.params in
    let some = e.some in
    let k = edge-of-phase s d t x e.regular one in
    let g : GivesPhase s d t k.0 = k.1 in
    let by = g.by in
    let c : ℕ = edge_tick s d k.0 in
    let first = phase-of s d t k.0 e.regular g in
    let second = phase-of s d u k.0 e.regular (gives-later s d t u k.0 (omega arith) none g) in
    let same : (t - c) % n ≡ (u - c) % n = cc in
    elim (cases_lt u (t + n)) [
      | inr far ↦ far
      | inl near ↦ let eq = one-remainder n (t - c) (u - c) (omega arith) same (omega arith)
          (omega arith) in absurd (omega arith)
    ]

-- the phase comes again after a period
pub phase-again : (s : Plan) (d : Device) (t u x : ℕ) → HasEdges s → t + period s.link.params ≡ u
    → ((i : ℕ) → t < i → i ≤ u → is_reset s d i ≡ false)
    → phase s d u ≡ Some x → (y : ℕ) → phase s d t ≡ Some y → phase s d t ≡ Some x
phase-again s d t u x e far none two y one =
    let n : ℕ = period s.link.params in
    let k = edge-of-phase s d t y e.regular one in
    let g : GivesPhase s d t k.0 = k.1 in
    let by = g.by in
    let c : ℕ = edge_tick s d k.0 in
    let first = phase-of s d t k.0 e.regular g in
    let second = phase-of s d u k.0 e.regular (gives-later s d t u k.0 (omega arith) none g) in
    let turn : u - c ≡ t - c + n * 1 = omega arith in
    let same : (u - c) % n ≡ (t - c) % n = ap (λ (m : ℕ). m % n) turn
    ∙ add-mul-mod_self_left (t - c) n 1 in
    let is : (u - c) % n ≡ x = cc in
    first ∙ ap Some (sym same ∙ is)

-- once there is a phase there is one in later ticks
pub phase-stays : (s : Plan) (d : Device) (t u x : ℕ) → HasEdges s → t ≤ u
    → ((i : ℕ) → t < i → i ≤ u → is_reset s d i ≡ false)
    → phase s d t ≡ Some x → (y : ℕ) × (phase s d u ≡ Some y)
phase-stays s d t u x e low none one =
    let k = edge-of-phase s d t x e.regular one in (
      (u - edge_tick s d k.0) % period s.link.params,
      phase-of s d u k.0 e.regular
          (gives-later s d t u k.0 low none k.1),
    )
