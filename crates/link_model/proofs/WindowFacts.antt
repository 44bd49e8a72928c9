-- How far a release point is from a start inside the window, and how the receiver's phase goes on.
use Rattle.std.proofs.Common.{◌≡◌, ℕ, suc, ◌+◌, ◌-◌, ◌*◌, ◌/◌, ◌%◌, ◌<◌, ◌≤◌, ◌⊎◌, true, false, nat_le, [], ◌∷◌, ◌++◌, map, Some, None, inl, inr, sym, ap, ◌∙◌, arith}
use Rattle.std.proofs.Math.Nat.{mod-lt, mul-le-mul_left, add-mul-mod_self_left, mod-eq_of_lt}
use Rattle.std.proofs.lemmas.Bool.{and_parts, cases_lt, leb-true}
use Rattle.std.proofs.lemmas.List.{map_push}
use Rattle.link_params.specs.declared.fields.Params.{Params}
use Rattle.link_params.specs.declared.fields.Timing.{Timing}
use Rattle.link_params.specs.declared.alarms.Device.TheVariants.{Rx}
use Rattle.link_params.specs.Lanes.{is_inside}
use Rattle.link_params.specs.Laws.{broken_law}
use Rattle.link_params.specs.TimingLaws.{broken_timing}
use Rattle.link_params.specs.Numbers.{depth, lat_ticks, period, rx_edge, tx_edge, wait}
use Rattle.link_params.proofs.LawFacts.{legal_sizes, timely}
use Rattle.link_params.proofs.StepFacts.{in_step, lat_ticks-is}
use Rattle.sysref_clock.specs.Clocks.{phase_after}
use Rattle.sysref_clock.proofs.Edges.{next_phase}
use Rattle.scenario.specs.Plans.{Plan, numbers_from}
use Rattle.link_model.proofs.NumberLists.{numbers-to}
use Rattle.link_model.proofs.TxHistory.{last-reset-before, last-reset-le}
use Rattle.link_model.specs.Edges.{edges, is_edge, is_reset, last_reset, phase}
use Rattle.link_model.specs.Receives.{offset_at}

-- two numbers less than a period apart that leave one remainder are one
one-remainder : (p a b : ℕ) → 0 < p → a % p ≡ b % p → a ≤ b → b < a + p → a ≡ b
one-remainder p a b pos e le near =
    let x : p * (a / p) + a % p ≡ a = omega arith in
    let y : p * (b / p) + b % p ≡ b = omega arith in
    elim (cases_lt (a / p) (b / p)) [
      | inl below ↦ let m : p * (a / p + 1) ≤ p * (b / p) =
          mul-le-mul_left p (let q : a / p + 1 ≤ b / p = omega arith in q) in absurd (omega arith)
      | inr up ↦ let m : p * (b / p) ≤ p * (a / p) = mul-le-mul_left p up in omega arith
    ]

-- what the laws of a link give
pub record IsLegal (p : Params) (t : Timing) : Type 0 where
  pub some : 17 ≤ period p
  pub rbd : t.rbd < period p
  pub window : t.w_lo ≤ t.w_hi
  pub late : t.w_hi + wait p ≤ lat_ticks p t
  pub near : lat_ticks p t < t.w_lo + wait p + period p
  pub behind : tx_edge t ≤ rx_edge t + period p
  pub step : (lat_ticks p t + tx_edge t) % period p ≡ (rx_edge t + t.rbd) % period p

pub legal : (p : Params) (t : Timing) → broken_law p ≡ None → broken_timing p t ≡ None
    → IsLegal p t
legal p t laws timing =
    let sizes = legal_sizes p laws in
    let some : 17 ≤ period p = sizes.period_low in
    let pos : 0 < period p = omega arith in
    let l = timely p t timing in
    let due : ℕ = (rx_edge t + t.rbd) % period p in
    let low : due < period p = mod-lt (rx_edge t + t.rbd) pos in
    let least : ℕ = t.w_hi + wait p in
    let gap : ℕ = (due + period p - (least + tx_edge t) % period p) % period p in
    let small : gap < period p = mod-lt (due + period p - (least + tx_edge t) % period p) pos in
    let steps : (least + gap + tx_edge t) % period p ≡ due =
    in_step (period p) least (tx_edge t) due low in
    let is : least + gap ≡ lat_ticks p t = lat_ticks-is p t (least + gap) pos (omega arith)
    (omega arith) steps in
    let skew = l.tx_skew in
    let latency = l.latency in
    record {
      some = some;
      rbd = l.rbd;
      window = l.order;
      late = omega arith;
      near = omega arith;
      behind = omega arith;
      step = ap (λ (n : ℕ). (n + tx_edge t) % period p) (sym is) ∙ steps;
    }

inside-parts : (t : Timing) (f : ℕ) → is_inside t f ≡ true → (t.w_lo ≤ f) × (f ≤ t.w_hi)
inside-parts t f e =
    let parts = and_parts (nat_le t.w_lo f) (nat_le f t.w_hi) e in
    (leb-true t.w_lo f parts.0, leb-true f t.w_hi parts.1)

-- what is left of the latency after a start at this offset and the wait for a check
abbrev pub ticks_left : Params → Timing → ℕ → ℕ
ticks_left p t f = lat_ticks p t - wait p - f

-- an offset inside the window lies within the latency
pub record IsNear (p : Params) (t : Timing) (f : ℕ) : Type 0 where
  pub within : f + wait p ≤ lat_ticks p t
  pub near : ticks_left p t f < period p
  pub fits : ticks_left p t f + 1 ≤ depth p t

pub near-offset : (p : Params) (t : Timing) (f : ℕ) → IsLegal p t → is_inside t f ≡ true
    → IsNear p t f
near-offset p t f l inside =
    let parts = inside-parts t f inside in
    let low = parts.0 in
    let high = parts.1 in
    let late = l.late in
    let near = l.near in
    record { within = omega arith; near = omega arith; fits = omega arith }

-- so many ticks after phase x comes a release point
abbrev pub ComesAfter : Params → Timing → ℕ → ℕ → Type 0
ComesAfter p t x d = (x + d ≡ t.rbd) ⊎ (x + d ≡ t.rbd + period p)

-- a period more for each tick of the wait is more than the wait
grown : (w n : ℕ) → 0 < n → w + n ≤ (w + 1) * n
grown w n pos =
    let more : w * 1 ≤ w * n = mul-le-mul_left w pos in
    let all : (w + 1) * n ≡ w * n + n = omega arith in
    omega arith

-- where a start at phase x has an offset inside the window, a release point comes after what is
-- left of the latency
pub comes-after-start : (p : Params) (t : Timing) (x : ℕ) → IsLegal p t → x < period p
    → is_inside t (offset_at p t (Some x)) ≡ true
    → ComesAfter p t x (ticks_left p t (offset_at p t (Some x)))
comes-after-start p t x l below inside =
    let n : ℕ = period p in
    let some = l.some in
    let pos : 0 < n = omega arith in
    let behind = l.behind in
    let rbd = l.rbd in
    let f : ℕ = offset_at p t (Some x) in
    let w : ℕ = wait p in
    let more : ℕ = (w + 1) * n in
    let times : more ≡ n * (w + 1) = omega arith in
    let room : w + n ≤ more = grown w n pos in
    let whole : ℕ = x + rx_edge t + more - (tx_edge t + w) in
    let near = near-offset p t f l inside in
    let in_reach = near.within in
    let small = near.near in
    let q : ℕ = ticks_left p t f in
    let k : ℕ = whole / n in
    let parts : n * k + whole % n ≡ whole = omega arith in
    let sum : q + x + rx_edge t + more ≡ lat_ticks p t + tx_edge t + n * k = omega arith in
    let rest : (q + x + rx_edge t + more) % n ≡ (rx_edge t + t.rbd) % n =
    ap (λ (m : ℕ). m % n) sum ∙ add-mul-mod_self_left (lat_ticks p t + tx_edge t) n k ∙ l.step in
    let again : (rx_edge t + t.rbd + more) % n ≡ (rx_edge t + t.rbd) % n =
    ap (λ (m : ℕ). (rx_edge t + t.rbd + m) % n) times
    ∙ add-mul-mod_self_left (rx_edge t + t.rbd) n (w + 1) in
    let once : rx_edge t + t.rbd + more + n ≡ rx_edge t + t.rbd + more + n * 1 = omega arith in
    let twice : (rx_edge t + t.rbd + more + n) % n ≡ (rx_edge t + t.rbd) % n =
    ap (λ (m : ℕ). m % n) once
    ∙ add-mul-mod_self_left (rx_edge t + t.rbd + more) n 1 ∙ again in
    elim (cases_lt t.rbd (q + x)) [
      | inr low ↦
          let e = one-remainder n (q + x + rx_edge t + more) (rx_edge t + t.rbd + more) pos
          (rest ∙ sym again) (omega arith) (omega arith) in
          inl (omega arith)
      | inl above ↦ elim (cases_lt (t.rbd + n) (q + x)) [
        | inr low ↦
            let e = one-remainder n (q + x + rx_edge t + more) (rx_edge t + t.rbd + more + n) pos
            (rest ∙ sym twice) (omega arith) (omega arith) in
            inr (omega arith)
        | inl high ↦
            let e = one-remainder n (rx_edge t + t.rbd + more + n) (q + x + rx_edge t + more) pos
            (twice ∙ sym rest) (omega arith) (omega arith) in
            inr (omega arith)
      ]
    ]

-- ---- phases

pub phase-next : (s : Plan) (t x : ℕ) → 0 < period s.link.params → is_reset s Rx (suc t) ≡ false
    → phase s Rx t ≡ Some x
    → phase s Rx (suc t) ≡ Some ((x + 1) % period s.link.params)
unfolding edges
phase-next s t x pos e some =
    let r : ℕ = last_reset s Rx t in
    let low = last-reset-le s Rx t in
    let same : last_reset s Rx (suc t) ≡ r = last-reset-before s Rx (suc t) e in
    let count : suc t - r ≡ t + 1 - r = omega arith in
    let longer : numbers_from r (suc t + 1 - r) ≡ numbers_from r (t + 1 - r) ++ suc t ∷ [] =
    numbers-to r (suc t) (omega arith) ∙ ap (λ (n : ℕ). numbers_from r n ++ suc t ∷ []) count in
    let more : edges s Rx (suc t) ≡ edges s Rx t ++ is_edge s Rx (suc t) ∷ [] = unfold edges in
    ap (λ (q : ℕ). map (is_edge s Rx) (numbers_from q (suc t + 1 - q))) same
    ∙ ap (map (is_edge s Rx)) longer
    ∙ map_push (is_edge s Rx) (numbers_from r (t + 1 - r)) (suc t) in
    ap (phase_after (period s.link.params)) more ∙ next_phase (period s.link.params) (edges s Rx t)
    (is_edge s Rx (suc t)) x pos some

-- a phase that goes on comes nearer to the release point
pub record GoesNear (p : Params) (t : Timing) (x d : ℕ) : Type 0 where
  pub left : ℕ
  pub less : d ≡ left + 1
  pub comes : ComesAfter p t ((x + 1) % period p) left

pub goes-near : (p : Params) (t : Timing) (x d : ℕ) → IsLegal p t → x < period p → 1 ≤ d
    → d < period p → ComesAfter p t x d → GoesNear p t x d
goes-near p t x d l below some short comes =
    let n : ℕ = period p in
    let rbd = l.rbd in
    elim (cases_lt (x + 1) n) [
      | inl inside ↦
          let e : (x + 1) % n ≡ x + 1 = mod-eq_of_lt inside in
          record {
            left = d - 1;
            less = omega arith;
            comes =
                elim comes [ inl h ↦ inl (omega arith) | inr h ↦ inr (omega arith) ];
          }
      | inr end ↦
          let whole : x + 1 ≡ 0 + n * 1 = omega arith in
          let e : (x + 1) % n ≡ 0 = ap (λ (m : ℕ). m % n) whole ∙ add-mul-mod_self_left 0 n 1
          ∙ mod-eq_of_lt (let pos : 0 < n = omega arith in pos) in
          record {
            left = d - 1;
            less = omega arith;
            comes =
                elim comes [ inl h ↦ absurd (omega arith) | inr h ↦ inl (omega arith) ];
          }
    ]
