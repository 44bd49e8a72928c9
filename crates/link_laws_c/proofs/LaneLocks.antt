-- The law of the lock for 64b/66b lanes.
use Rattle.std.proofs.Common.{◌≡◌, ℕ, suc, ◌+◌, ◌-◌, ◌*◌, ◌/◌, ◌%◌, ◌<◌, ◌≤◌, nat_le, max, Bool, true, false, List, length, drop, Some, inl, inr, refl, ap, ◌∙◌, one-mul, mul-le-mul_left, zero-mul, arith}
use Rattle.std.proofs.lemmas.Bool.{cases_lt, cond-false, le-leb, leb-true}
use Rattle.jesd_base.specs.Search.{IsLeast, first_from}
use Rattle.jesd_base.proofs.BitLemmas.{finds_least, finds_none}
use Rattle.link_params.specs.declared.alarms.Device.TheVariants.{Tx}
use Rattle.link_params.specs.Laws.{is_b}
use Rattle.link_params.specs.Numbers.{period}
use Rattle.link_params.proofs.LawFacts.{timely}
use Rattle.scenario.specs.Plans.{Plan}
use Rattle.link_model.specs.Carried.{delay_at}
use Rattle.link_model.specs.Edges.{edge_tick, jitter, last_reset, skew}
use Rattle.link_model.proofs.EdgeTicks.{edge_tick-is_near, jitter-small, later, near_place}
use Rattle.link_model.proofs.TxHistory.{last-reset-le}
use Rattle.block_66b.specs.Blocks.{header}
use Rattle.multiblock.specs.Places.{Place, pattern, pattern_size, span}
use Rattle.lane_c.specs.Received.{lanes_c}
use Rattle.link_model.specs.Sessions.{first_tick, report_at}
use Rattle.link_model.specs.Wiring.{wire_of}
use Rattle.link_laws.specs.Premises.{GivesPhase, arrival, lock_pattern}
use Rattle.link_laws.specs.LaneLaws.{LaneLock, lock_ticks}
use Rattle.link_laws.specs.Laws.{IsPlanRead}
use Rattle.link_laws.proofs.Phases.{HasEdges, last-reset-same}
use Rattle.link_laws.proofs.PlanRead.{arrival-below, reset-none}
use Rattle.link_laws.proofs.ReleaseTick.{untouched}
use Rattle.link_laws.proofs.SessionStages.{first-high, first-low}
use Rattle.link_laws_c.proofs.Framing.{pattern-stands}
use Rattle.link_laws_c.proofs.HeaderLists.{header_of}
use Rattle.link_laws_c.proofs.Held.{InSessionC, edges, held, on, some-e}
use Rattle.link_laws_c.proofs.HeldPlace.{some-place}
use Rattle.link_laws_c.proofs.HeldReport.{locked-of-place, locked-to-sender}
use Rattle.link_laws_c.proofs.Holding.{Holds}
use Rattle.link_laws_c.proofs.OldBlocks.{edges-apart}
use Rattle.link_laws_c.proofs.OnGrid.{StandsFor, gives-since}
use Rattle.link_laws_c.proofs.SentBits.{not-b, sent-block}
use Rattle.link_laws_c.proofs.SentForm.{form-sent, header-of-block, remainder_from, word_bit}
use Rattle.link_laws_c.proofs.SentTicks.{cases_some, octets_from}
use Rattle.link_laws_c.proofs.SessionBits.{header-taken, length-session-bits}
use Rattle.link_laws_c.proofs.SessionWords.{bits_at}

-- ---- an edge comes in time

-- edge 0 is captured before the first SYSREF period and a period more are over
first-edge : (s : Plan) → IsPlanRead s → HasEdges s
    → edge_tick s Tx 0 ≤ s.link.timing.sysref_period + period s.link.params + 2
unfolding edge_tick
first-edge s read e =
    let t = s.link.timing in
    let limits = timely s.link.params t read.timing in
    let tx_skew = limits.tx_skew in
    let paced = e.regular.link in
    let start = paced.start_low in
    let high = paced.start_high in
    let n : ℕ = t.sysref_start + 0 * t.sysref_period in
    let none : 0 * t.sysref_period ≡ 0 = zero-mul t.sysref_period in
    let a = near_place n (skew t Tx) (jitter s.jitters Tx 0) (omega arith)
    (jitter-small s.jitters Tx 0 e.regular.jitters) in
    let up = a.1 in
    omega arith

-- edges go on: edge h + 1 is not before tick h
late-edge : (s : Plan) (h : ℕ) → HasEdges s → h ≤ edge_tick s Tx (suc h)
late-edge s h e =
    let paced = e.regular.link in
    let near = edge_tick-is_near s Tx (suc h) e.regular in
    let low = paced.period_low in
    let many : suc h * 17 ≤ suc h * s.link.timing.sysref_period = mul-le-mul_left (suc h) low in
    omega arith

-- an edge from tick h on, at most a SYSREF period, a period and two ticks later
pub edge-by : (s : Plan) (h : ℕ) → IsPlanRead s → HasEdges s
    → (i : ℕ) × (h ≤ edge_tick s Tx i)
    × (edge_tick s Tx i ≤ h + s.link.timing.sysref_period + period s.link.params + 2)
edge-by s h read e =
    let test : ℕ → Bool = λ i. nat_le h (edge_tick s Tx i) in
    let here : test (suc h) ≡ true = le-leb h (edge_tick s Tx (suc h)) (late-edge s h e) in
    elim (cases_some (first_from test (suc (suc h)) 0)) [
      | inr none ↦ let no_one = (finds_none test (suc (suc h)) 0).0 none (suc h) (omega arith)
          (omega arith) in absurd (cc)
      | inl k ↦
          let least : IsLeast test 0 k.0 = ((finds_least test (suc (suc h)) 0 k.0).0 k.1).0 in
          let low = leb-true h (edge_tick s Tx k.0) least.passes in (
            k.0,
            low,
            elim (cases_lt 0 k.0) [
              | inr at_start ↦
                  let z : k.0 ≡ 0 = omega arith in
                  let same : edge_tick s Tx k.0 ≡ edge_tick s Tx 0 = ap (edge_tick s Tx) z in
                  let first = first-edge s read e in
                  omega arith
              | inl more ↦
                  let before : test (k.0 - 1) ≡ false =
                  least.least (k.0 - 1) (omega arith) (omega arith) in
                  let early : edge_tick s Tx (k.0 - 1) < h =
                  elim (cases_lt (edge_tick s Tx (k.0 - 1)) h) [
                    | inl yes_early ↦ yes_early
                    | inr not_early ↦ let is = le-leb h (edge_tick s Tx (k.0 - 1)) not_early in
                        absurd (cc)
                  ] in
                  let apart = (edges-apart s k.0 (k.0 - 1) e (omega arith)).1 in
                  let one : k.0 - (k.0 - 1) ≡ 1 = omega arith in
                  let step : (k.0 - (k.0 - 1)) * s.link.timing.sysref_period
                  ≡ s.link.timing.sysref_period =
                  ap (λ (n : ℕ). n * s.link.timing.sysref_period) one
                  ∙ one-mul s.link.timing.sysref_period in
                  let some = e.some in
                  omega arith
            ],
          )
    ]

edges-grow : (s : Plan) (i j : ℕ) → HasEdges s → i ≤ j → edge_tick s Tx i ≤ edge_tick s Tx j
edges-grow s i j e le = elim (cases_lt i j) [
  | inl before ↦ let l = later j s Tx i e.regular before in omega arith
  | inr same ↦ let z : i ≡ j = omega arith in
      let eq : edge_tick s Tx i ≡ edge_tick s Tx j = ap (edge_tick s Tx) z in omega arith
]

-- an edge since the reset: some edge, not after it, gave the phase
pub phase-by : (s : Plan) (t k : ℕ) → HasEdges s → last_reset s Tx t ≤ edge_tick s Tx k
    → edge_tick s Tx k ≤ t
    → (i : ℕ) × GivesPhase s Tx t i × (edge_tick s Tx i ≤ edge_tick s Tx k)
phase-by s t k e since by =
    let test : ℕ → Bool = λ i. nat_le (last_reset s Tx t) (edge_tick s Tx i) in
    let here : test k ≡ true = le-leb (last_reset s Tx t) (edge_tick s Tx k) since in
    elim (cases_some (first_from test (suc k) 0)) [
      | inr none ↦ let no_one = (finds_none test (suc k) 0).0 none k (omega arith) (omega arith) in
          absurd (cc)
      | inl j ↦
          let found = (finds_least test (suc k) 0 j.0).0 j.1 in
          let least : IsLeast test 0 j.0 = found.0 in
          let inside = found.1 in
          let low = leb-true (last_reset s Tx t) (edge_tick s Tx j.0) least.passes in
          let grow = edges-grow s j.0 k e (omega arith) in (
            j.0,
            record {
              since = low;
              by = omega arith;
              first = λ m after. elim (cases_lt m j.0) [
                | inr not_before ↦ edges-grow s j.0 m e not_before
                | inl before ↦
                    let no_one = least.least m (omega arith) before in
                    let is = le-leb (last_reset s Tx t) (edge_tick s Tx m) after in absurd (cc)
              ];
            },
            grow,
          )
    ]

-- ---- a place on the grid after the hunt

module _ (s : Plan) (h t lane : ℕ) (c : InSessionC s h t lane) where
  abbrev bs : List Bool
  bs = bits_at lanes_c s lane t

  -- where tick q begins a multiblock and all that the pattern needs has come, the pattern stands
  pattern-sent : (x q i : ℕ) → GivesPhase s Tx t i → edge_tick s Tx i ≤ q
      → q % 32 ≡ edge_tick s Tx i % 32 → StandsFor s h lane x q → h < q
      → x + span s.link.params.e ≤ length bs
      → pattern s.link.params.e (drop x bs)
      ≡ Some (remainder_from s.link.params.e ((q - edge_tick s Tx i) / 32))
  pattern-sent x q i gives from step is after whole =
      let g = on s h t lane c in
      let f = first-low lanes_c s h t g in
      let high = first-high lanes_c s h t g in
      let above = g.above in
      let e = edges s h t lane c in
      let p = s.link.params in
      let os = octets_from s (wire_of s lane) (edge_tick s Tx i) (suc t) in
      let k : ℕ = q - edge_tick s Tx i in
      let none : k % 32 ≡ 0 = omega arith in
      let long = length-session-bits s h t g lane t (omega arith) (omega arith) e c.mode c.below in
      pattern-stands p.e (remainder_from p.e (k / 32)) x bs (λ n. word_bit p os (k + n))
      (form-sent p os k (not-b p.mode c.mode) (some-e s h t lane c) none) whole
      (λ n inside.
      let there : StandsFor s h lane (x + 66 * n) (q + n) = omega arith in
      let number : q + n - edge_tick s Tx i ≡ k + n = omega arith in
      header-taken s h t g lane t (omega arith) (omega arith) e c.mode c.below (x + 66 * n)
      (q + n) c.damage (omega arith) (omega arith) there
      ∙ ap header
      (sent-block s (wire_of s lane) (q + n) i (suc t) e c.mode (e.wired lane c.below)
      (gives-since s Tx t (q + n) i gives (omega arith) (omega arith)) (omega arith))
      ∙ header-of-block (word_bit p os (q + n - edge_tick s Tx i)) _
      ∙ ap (λ (m : ℕ). header_of (word_bit p os m)) number)

  -- so the lane is locked once 96 blocks more have come
  locked-then : (q i : ℕ) → GivesPhase s Tx t i → edge_tick s Tx i ≤ q
      → q % 32 ≡ edge_tick s Tx i % 32 → h < q
      → q + arrival s lane h + (32 * pattern_size s.link.params.e + 95) ≤ t
      → (report_at lanes_c s lane t).locked ≡ true
  locked-then q i gives from step after by =
      let g = on s h t lane c in
      let f = first-low lanes_c s h t g in
      let high = first-high lanes_c s h t g in
      let above = g.above in
      let e = edges s h t lane c in
      let long = length-session-bits s h t g lane t (omega arith) (omega arith) e c.mode c.below in
      let d : ℕ = delay_at s lane h in
      let a : arrival s lane h ≡ (d + 65) / 66 = rw c.mode refl in
      let x : ℕ = 66 * q + d - 66 * first_tick lanes_c s h in
      let is : StandsFor s h lane x q = omega arith in
      let whole : x + span s.link.params.e ≤ length bs = omega arith in
      let stands = pattern-sent x q i gives from step is after whole in
      let found =
      some-place s.link.params.e x
      (remainder_from s.link.params.e ((q - edge_tick s Tx i) / 32)) bs whole stands in
      let p : Place = found.0 in
      let le = found.2 in
      let k : Holds s h t lane t p = held s h t lane c t p (omega arith) (omega arith) found.1 in
      let there = k.sent.stands in
      locked-of-place s h t lane t p g (omega arith) (omega arith) c.mode c.below k
      ∙ le-leb (k.sent.q + arrival s lane h + (32 * pattern_size s.link.params.e + 95)) t
      (omega arith)

  -- the transmitter was not reset since the hunt
  reset-before : last_reset s Tx t ≤ h
  reset-before =
      let g = on s h t lane c in
      let above = g.above in
      let clear = untouched s h t c.damage in
      let same = last-reset-same t s Tx h (omega arith)
      (λ y a b. reset-none s Tx y (clear.no_event y a b)) in
      let l = last-reset-le s Tx h in
      omega arith

  -- which is in time
  pub locks-in-time : h + lock_ticks s.link ≤ t → (report_at lanes_c s lane t).locked ≡ true
  locks-in-time late =
      let g = on s h t lane c in
      let e = edges s h t lane c in
      let some = some-e s h t lane c in
      let n : ℕ = period s.link.params in
      let period_is : n ≡ 32 * s.link.params.e = cond-false (is_b s.link.params.mode)
      (s.link.params.f * s.link.params.k) (32 * s.link.params.e) c.mode in
      let ticks : lock_ticks s.link ≡ s.link.timing.sysref_period + 8 * n + 256 =
      cond-false (is_b s.link.params.mode) (4 * n) (s.link.timing.sysref_period + 8 * n + 256)
      c.mode in
      let a = arrival-below s lane h c.read in
      let edge = edge-by s h c.read e in
      let edge_low = edge.1 in
      let edge_high = edge.2 in
      let reset = reset-before in
      let gives = phase-by s t edge.0 e (omega arith) (omega arith) in
      let early = gives.2 in
      let x0 : ℕ = edge_tick s Tx gives.0 in
      let m : ℕ = max x0 (h + 1) in
      let q : ℕ = x0 + 32 * ((m - x0 + 31) / 32) in
      locked-then q gives.0 gives.1 (omega arith) (omega arith) (omega arith) (omega arith)

pub lane-lock : (s : Plan) → IsPlanRead s → is_b s.link.params.mode ≡ false
    → LaneLock lanes_c lock_pattern s
lane-lock s read mode h lane t below session lone clean =
    let c : InSessionC s h t lane =
    record {
      read = read;
      mode = mode;
      below = below;
      session = session;
      lone = lone;
      damage =
          inl clean;
    } in
    let g = on s h t lane c in
    let high = first-high lanes_c s h t g in
    let above = g.above in
    record {
      locks = λ late unarmed. locks-in-time s h t lane c late;
      to_sender = λ not_b locked. locked-to-sender s h t lane g (omega arith) (edges s h t lane c)
          mode below lone locked;
    }
