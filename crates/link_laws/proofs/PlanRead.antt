-- What the laws of a plan give of its numbers, in each mode.
use Rattle.std.proofs.Common.{◌≡◌, ℕ, ◌+◌, ◌-◌, ◌*◌, ◌/◌, ◌%◌, ◌<◌, ◌≤◌, ◌==◌, ◌&&◌, nat_le, nat_lt, if◌then◌else◌, Bool, true, false, List, [], ◌∷◌, fold, All, Some, None, inl, inr, refl, sym, ap, ◌∙◌, arith}
use Rattle.std.proofs.Math.Nat.{mod-lt, mul-le-mul_right}
use Rattle.std.specs.List.{list_any}
use Rattle.std.proofs.lemmas.Bool.{cases_Bool, cases_lt, and_parts, eq-eqb, eqb-true, le-leb, leb-true, lt-leb, or_from, or_parts}
use Rattle.std.proofs.lemmas.List.Elements.{All-head, All-tail}
use Rattle.link_params.specs.declared.alarms.Device.{Device}
use Rattle.link_params.specs.declared.fields.Params.{Params}
use Rattle.link_params.specs.declared.fields.Timing.{Timing}
use Rattle.link_params.specs.Laws.{ceil, first_broken, is_b, is_within}
use Rattle.link_params.specs.TimingLaws.{is_steady, timing_laws}
use Rattle.link_params.specs.Numbers.{lat_ticks, period, rx_edge, tx_edge, wait, width}
use Rattle.link_params.proofs.LawFacts.{AllHold, legal_sizes, timely}
use Rattle.link_params.proofs.StepFacts.{in_step, lat_ticks-is}
use Rattle.scenario.specs.declared.plan.What.{What}
use Rattle.scenario.specs.declared.plan.What.TheVariants.{Reset, Delay, Dead}
use Rattle.scenario.specs.declared.plan.Event.{Event}
use Rattle.scenario.specs.Limits.{event_fits, what_fits}
use Rattle.scenario.specs.Plans.{Plan}
use Rattle.link_model.specs.Edges.{is_reset, resets}
use Rattle.link_model.specs.Carried.{delay_after, delay_at, first_delay}
use Rattle.link_model.proofs.EdgeTicks.{paced_by}
use Rattle.link_laws.specs.Premises.{arrival, has_event}
use Rattle.link_laws.specs.Laws.{IsPlanRead}
use Rattle.link_laws.proofs.Phases.{HasEdges}
use Rattle.link_laws.proofs.SetAsWired.{wired}

pub all-hold : (ls : List (ℕ × Bool)) → first_broken ls ≡ None → AllHold ls
all-hold [] e = tt
all-hold (l ∷ ls) e = elim (cases_Bool l.1) [
  | inl holds ↦ (holds, all-hold ls (let k : first_broken ls ≡ None = rw holds at e in k))
  | inr fails ↦ let bad : Some l.0 ≡ None = rw fails at e in absurd (cc)
]

-- the numbers of a legal link, in each mode
pub record HasNumbers (p : Params) (t : Timing) : Type 0 where
  pub some : 17 ≤ period p
  pub small_wait : wait p ≤ 2 * period p
  pub rbd : t.rbd < period p
  pub sync_delay : t.sync_delay < period p
  pub window : t.w_lo ≤ t.w_hi
  pub high : t.w_hi < period p
  pub late : t.w_hi + wait p ≤ lat_ticks p t
  pub near : lat_ticks p t < t.w_lo + wait p + period p
  pub behind : tx_edge t ≤ rx_edge t + period p
  pub step : (lat_ticks p t + tx_edge t) % period p ≡ (rx_edge t + t.rbd) % period p

small-wait : (p : Params) → 17 ≤ period p → wait p ≤ 2 * period p
small-wait p some = elim (cases_Bool (is_b p.mode)) [
  | inl b ↦ rw b (omega arith)
  | inr c ↦ let least : 17 ≤ 32 * p.e = (let e : period p ≡ 32 * p.e = rw c refl in omega arith) in
      rw c (omega arith)
]

pub numbers : (s : Plan) → IsPlanRead s → HasNumbers s.link.params s.link.timing
numbers s r =
    let p = s.link.params in
    let t = s.link.timing in
    let sizes = legal_sizes p r.laws in
    let some : 17 ≤ period p = sizes.period_low in
    let pos : 0 < period p = omega arith in
    let l = timely p t r.timing in
    let due : ℕ = (rx_edge t + t.rbd) % period p in
    let low : due < period p = mod-lt (rx_edge t + t.rbd) pos in
    let least : ℕ = t.w_hi + wait p in
    let gap : ℕ = (due + period p - (least + tx_edge t) % period p) % period p in
    let small : gap < period p = mod-lt (due + period p - (least + tx_edge t) % period p) pos in
    let steps : (least + gap + tx_edge t) % period p ≡ due =
    in_step (period p) least (tx_edge t) due low in
    let is : least + gap ≡ lat_ticks p t = lat_ticks-is p t (least + gap) pos (omega arith)
    (omega arith) steps in
    let skew = l.tx_skew in
    let latency = l.latency in
    record {
      some = some;
      small_wait = small-wait p some;
      rbd = l.rbd;
      sync_delay = l.sync_delay;
      window = l.order;
      high = l.window;
      late = omega arith;
      near = latency;
      behind = omega arith;
      step = ap (λ (n : ℕ). (n + tx_edge t) % period p) (sym is) ∙ steps;
    }

-- ---- delays

-- the longest delay, in bits
abbrev pub reach : Params → ℕ
reach p = (period p - 1) * width p

delay-fits : (lane d : ℕ) (p : Params) (w : What) → what_fits p w ≡ true → d ≤ reach p
    → delay_after lane d w ≤ reach p
delay-fits lane d p (Reset e) fits small = small
delay-fits lane d p (Dead l dead) fits small = small
delay-fits lane d p (Delay l bits) fits small = elim (cases_Bool (l == lane)) [
  | inl e ↦ rw e (leb-true bits (reach p) (and_parts (nat_lt l p.l) (nat_le bits (reach p)) fits).1)
  | inr e ↦ rw e small
]

delays-fit : (es : List Event) (lane ticks t d : ℕ) (p : Params)
    → All (λ e. event_fits p ticks e ≡ true) es → d ≤ reach p
    → fold (λ d (e : Event). if nat_le e.tick t then delay_after lane d e.what else d) d es
    ≤ reach p
delays-fit [] lane ticks t d p all small = small
delays-fit (e ∷ es) lane ticks t d p all small =
    let here : event_fits p ticks e ≡ true = All-head (λ e. event_fits p ticks e ≡ true) e es all in
    let rest = All-tail (λ e. event_fits p ticks e ≡ true) e es all in
    let fits = (and_parts (nat_lt e.tick ticks) (what_fits p e.what) here).1 in
    elim (cases_Bool (nat_le e.tick t)) [
      | inl up ↦
          rw up
          (delays-fit es lane ticks t (delay_after lane d e.what) p rest
          (delay-fits lane d p e.what fits small))
      | inr past ↦ rw past (delays-fit es lane ticks t d p rest small)
    ]

ceil-below : (p : Params) (d n : ℕ) → d ≤ n * width p → ceil d (width p) ≤ n
ceil-below p d n small = elim (cases_Bool (is_b p.mode)) [
  | inl b ↦ let e : width p ≡ 10 = rw b refl in
      let m : d ≤ n * 10 =
      (let k : n * width p ≡ n * 10 = ap (λ (w : ℕ). n * w) e in omega arith) in rw e (omega arith)
  | inr c ↦ let e : width p ≡ 66 = rw c refl in
      let m : d ≤ n * 66 =
      (let k : n * width p ≡ n * 66 = ap (λ (w : ℕ). n * w) e in omega arith) in rw e (omega arith)
]

-- an arrival is below a period
pub arrival-below : (s : Plan) (lane t : ℕ) → IsPlanRead s → arrival s lane t < period s.link.params
unfolding delay_at
arrival-below s lane t r =
    let p = s.link.params in
    let n = numbers s r in
    let some = n.some in
    let window = n.window in
    let high = n.high in
    let first : first_delay s ≤ reach p =
    mul-le-mul_right (width p) (let q : s.link.timing.w_lo ≤ period p - 1 = omega arith in q) in
    let few : delay_at s lane t ≤ reach p =
    delays-fit s.events lane s.ticks t (first_delay s) p r.events first in
    let c = ceil-below p (delay_at s lane t) (period p - 1) few in
    omega arith

later-kept : (es : List Event) (lane h t d : ℕ) → h ≤ t
    → ((x : ℕ) → h < x → x ≤ t → list_any (λ (e : Event). e.tick == x) es ≡ false)
    → fold (λ d (e : Event). if nat_le e.tick t then delay_after lane d e.what else d) d es
    ≡ fold (λ d (e : Event). if nat_le e.tick h then delay_after lane d e.what else d) d es
later-kept [] lane h t d low none = refl
later-kept (e ∷ es) lane h t d low none =
    let rest : (x : ℕ) → h < x → x ≤ t → list_any (λ (e : Event). e.tick == x) es ≡ false =
    λ x up down. (or_parts (e.tick == x) (list_any (λ (e : Event). e.tick == x) es)
    (none x up down)).1 in
    let same : nat_le e.tick t ≡ nat_le e.tick h = elim (cases_lt h e.tick) [
      | inr early ↦ le-leb e.tick t (omega arith) ∙ sym (le-leb e.tick h early)
      | inl after ↦ elim (cases_lt t e.tick) [
        | inl late ↦ lt-leb e.tick t late ∙ sym (lt-leb e.tick h after)
        | inr between ↦
            let no =
            (or_parts (e.tick == e.tick) (list_any (λ (x : Event). x.tick == e.tick) es)
            (none e.tick after between)).0 in
            let is = eq-eqb e.tick e.tick refl in
            absurd (cc)
      ]
    ] in
    ap (λ (b : Bool). fold
    (λ d (x : Event). if nat_le x.tick t then delay_after lane d x.what else d)
    (if b then delay_after lane d e.what else d) es) same
    ∙ later-kept es lane h t (if nat_le e.tick h then delay_after lane d e.what else d) low rest

-- the delay stays where no record comes
pub delay-same : (s : Plan) (lane h t : ℕ) → h ≤ t
    → ((x : ℕ) → h < x → x ≤ t → has_event s x ≡ false) → delay_at s lane t ≡ delay_at s lane h
unfolding delay_at
delay-same s lane h t low none = later-kept s.events lane h t (first_delay s) low none

pub arrival-same : (s : Plan) (lane h t : ℕ) → h ≤ t
    → ((x : ℕ) → h < x → x ≤ t → has_event s x ≡ false) → arrival s lane t ≡ arrival s lane h
unfolding delay_at
arrival-same s lane h t low none = ap (λ (d : ℕ). ceil d (width s.link.params))
    (later-kept s.events lane h t (first_delay s) low none)

no-reset : (es : List Event) (d : Device) (t : ℕ) → list_any (λ (e : Event). e.tick == t) es ≡ false
    → list_any (λ (e : Event). (e.tick == t) && resets d e.what) es ≡ false
no-reset [] d t none = refl
no-reset (e ∷ es) d t none =
    let parts = or_parts (e.tick == t) (list_any (λ (e : Event). e.tick == t) es) none in
    or_from ((e.tick == t) && resets d e.what)
    (list_any (λ (e : Event). (e.tick == t) && resets d e.what) es) (rw (parts.0) refl)
    (no-reset es d t parts.1)

-- without a record there is no reset
pub reset-none : (s : Plan) (d : Device) (t : ℕ) → has_event s t ≡ false → is_reset s d t ≡ false
unfolding is_reset
reset-none s d t none = no-reset s.events d t none

pub has-edges : (s : Plan) → IsPlanRead s → HasEdges s
has-edges s r =
    let p = s.link.params in
    let t = s.link.timing in
    let sizes = legal_sizes p r.laws in
    let some = sizes.period_low in
    let a = all-hold (timing_laws p t) r.timing in
    let n : ℕ = period p in
    let sysref = and_parts ((t.sysref_period % n == 0) && is_within n 1048576 t.sysref_period
    && nat_le 2 t.sysref_start) (nat_lt t.sysref_start t.sysref_period) a.0 in
    let before = and_parts ((t.sysref_period % n == 0) && is_within n 1048576 t.sysref_period)
    (nat_le 2 t.sysref_start) sysref.0 in
    let whole =
    eqb-true (t.sysref_period % n) 0
    (and_parts (t.sysref_period % n == 0) (is_within n 1048576 t.sysref_period) before.0).0 in
    let parts : n * (t.sysref_period / n) + t.sysref_period % n ≡ t.sysref_period = omega arith in
    let both = and_parts (nat_le t.tx_skew (16 * n) && nat_le t.rx_skew (16 * n)
    && is_steady t.tolerance t.tx_skew) (is_steady t.tolerance t.rx_skew) a.1.0 in
    let one = and_parts (nat_le t.tx_skew (16 * n) && nat_le t.rx_skew (16 * n))
    (is_steady t.tolerance t.tx_skew) both.0 in
    record {
      regular = record {
        link = paced_by s.link p n refl refl some sizes.period r.timing;
        jitters =
            r.jitters;
      };
      some = some;
      multiple = (t.sysref_period / n, omega arith);
      steady_tx = one.1;
      steady_rx = both.1;
      wired = λ lane below. wired s lane r below;
    }
