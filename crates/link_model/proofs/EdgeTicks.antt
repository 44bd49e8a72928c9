-- In which ticks SYSREF edges are captured.
use Rattle.std.proofs.Common.{◌≡◌, ◌≤◌, ◌<◌, ◌+◌, ◌-◌, ◌*◌, ◌/◌, ◌%◌, ◌^◌, ◌==◌, ◌&&◌, nat_le, nat_lt, ℕ, zero, suc, Bool, true, false, if◌then◌else◌, List, [], ◌∷◌, ◌++◌, map, None, IsTrue, All, ℤ, pos, negsuc, ◌≤ℤ◌, ◌+ℤ◌, nat_abs, refl, sym, ◌∙◌, ap, arith, inl, inr}
use Rattle.std.specs.List.{fold, list_any}
use Rattle.std.proofs.Math.Nat.{mul-le-mul_left}
use Rattle.std.proofs.lemmas.Int.{ints}
use Rattle.std.proofs.lemmas.Bool.{cases_Bool, cases_lt, or_left, or_right, or_from, leb-true, ltb-true, eq-eqb, ne_eqb, and_parts}
use Rattle.std.proofs.lemmas.Bool.Decides.{nat_tests}
use Rattle.std.proofs.lemmas.List.{map-append}
use Rattle.std.proofs.lemmas.List.Elements.{All-head, All-tail}
use Rattle.link_params.specs.declared.fields.Params.{Params}
use Rattle.link_params.specs.declared.fields.Timing.{Timing}
use Rattle.link_params.specs.declared.alarms.Device.{Device}
use Rattle.link_params.specs.declared.alarms.Device.TheVariants.{Tx, Rx}
use Rattle.link_params.specs.Links.{Link}
use Rattle.link_params.specs.Laws.{is_within}
use Rattle.link_params.specs.Numbers.{period}
use Rattle.link_params.specs.TimingLaws.{broken_timing, is_sysref}
use Rattle.link_params.proofs.LawFacts.{timely}
use Rattle.sysref_clock.specs.Clocks.{captured, place_of_edge}
use Rattle.scenario.specs.declared.plan.Jitter.{Jitter}
use Rattle.scenario.specs.Limits.{jitter_fits}
use Rattle.scenario.specs.Plans.{Plan, numbers_from}
use Rattle.link_model.specs.kept.Before.{IsNear, IsPaced, edges_before}
use Rattle.link_model.specs.Edges.{edge_tick, edges, is_device, is_edge, is_reset, jitter, last_reset, skew}

-- ---- the limits of a link

within-true : (low high x : ℕ) → is_within low high x ≡ true → (low ≤ x) × (x ≤ high)
within-true low high x h = grind (arith, nat_tests)

sysref_law : (p : Params) (t : Timing) → broken_timing p t ≡ None → is_sysref p t ≡ true
sysref_law p t e = elim (cases_Bool (is_sysref p t)) [
  | inl h ↦ h
  | inr f ↦ let bad = rw f at e in cc
]

paced : (k : Link) → 17 ≤ period k.params → period k.params ≤ 1024
    → broken_timing k.params k.timing ≡ None → IsPaced k
paced k low high e =
    let p = k.params in
    let t = k.timing in
    let limits = timely p t e in
    let law =
    and_parts ((t.sysref_period % period p == 0) && is_within (period p) 1048576 t.sysref_period
    && nat_le 2 t.sysref_start) (nat_lt t.sysref_start t.sysref_period) (sysref_law p t e) in
    let before =
    and_parts ((t.sysref_period % period p == 0)
    && is_within (period p) 1048576 t.sysref_period) (nat_le 2 t.sysref_start) law.0 in
    let range = within-true (period p) 1048576 t.sysref_period
    (and_parts (t.sysref_period % period p == 0) (is_within (period p) 1048576 t.sysref_period)
    before.0).1 in
    let least : period p ≤ t.sysref_period = range.0 in
    let tx : t.tx_skew ≤ 16 * period p = limits.tx_skew in
    let rx : t.rx_skew ≤ 16 * period p = limits.rx_skew in
    record {
      period_low = omega arith;
      period_high = range.1;
      start_low = leb-true 2 t.sysref_start before.1;
      start_high = ltb-true t.sysref_start t.sysref_period law.1;
      tx_skew = omega arith;
      rx_skew = omega arith;
    }

-- the same, for a shape and a period that a link handed out
pub paced_by : (k : Link) (p : Params) (n : ℕ) → p ≡ k.params → n ≡ period p → 17 ≤ n → n ≤ 1024
    → broken_timing k.params k.timing ≡ None → IsPaced k
paced_by k p n same is low high e =
    let is : period k.params ≡ n = ap period (sym same) ∙ sym is in
    paced k (omega arith) (omega arith) e

pub skew-small : (k : Link) (d : Device) → IsPaced k → skew k.timing d ≤ 16384
skew-small k Tx h = h.tx_skew
skew-small k Rx h = h.rx_skew

-- the edge after one that is captured below 2^20 is in time
pub next_place : (k : Link) (i t : ℕ) → IsPaced k → IsNear k i t → t < 1048576
    → (k.timing.sysref_start + (i + 1) * k.timing.sysref_period ≤ 2 ^ 21) × (i < 2 ^ 21)
next_place k zero t h near low =
    let a = h.period_high in
    let b = h.start_high in
    (omega arith, omega arith)
next_place k (suc i) t h near low =
    let n : ℕ = k.timing.sysref_period in
    let a : 17 ≤ n = h.period_low in
    let b : n ≤ 1048576 = h.period_high in
    let c : 2 ≤ k.timing.sysref_start = h.start_low in
    let e : suc i * n ≡ n + i * n = omega arith in
    let f : (suc i + 1) * n ≡ n + n + i * n = omega arith in
    let m : i * 17 ≤ i * n = mul-le-mul_left i a in
    (omega arith, omega arith)

-- ---- jitter

pub record IsSmall (z : ℤ) : Type 0 where
  pub low : negsuc 31 ≤ℤ z
  pub high : z ≤ℤ pos 32

record_small : (j : Jitter) → IsTrue (jitter_fits j) → IsSmall j.sixteenths
record_small j h =
    record { low = grind (arith, ints, nat_tests); high = grind (arith, ints, nat_tests) }

last_small : (js : List Jitter) (d : Device) (i : ℕ) (z : ℤ) → All (λ j. IsTrue (jitter_fits j)) js
    → IsSmall z
    → IsSmall
    (fold (λ x (j : Jitter). if is_device d j.device && (j.edge == i) then j.sixteenths else x) z
    js)
last_small [] d i z all small = small
last_small (j ∷ js) d i z all small = elim (cases_Bool (is_device d j.device && (j.edge == i))) [
  | inl t ↦
      rw t (last_small js d i j.sixteenths (All-tail (λ j. IsTrue (jitter_fits j)) j js all)
      (record_small j (All-head (λ j. IsTrue (jitter_fits j)) j js all)))
  | inr f ↦ rw f (last_small js d i z (All-tail (λ j. IsTrue (jitter_fits j)) j js all) small)
]

pub jitter-small : (js : List Jitter) (d : Device) (i : ℕ) → All (λ j. IsTrue (jitter_fits j)) js
    → IsSmall (jitter js d i)
unfolding jitter
jitter-small js d i all =
    last_small js d i (pos 0) all (record { low = omega (arith, ints); high = omega (arith, ints) })

-- ---- places

place_of : (z : ℤ) → pos 0 ≤ℤ z → z ≡ pos (nat_abs z)
place_of (pos n) h = refl
place_of (negsuc n) h = absurd (omega (arith, ints))

pub record IsPlace (a y : ℕ) : Type 0 where
  pub low : a ≤ y + 32
  pub high : y ≤ a + 32

is_place : (a : ℕ) (z : ℤ) → 32 ≤ a → IsSmall z → IsPlace a (nat_abs (pos a +ℤ z))
is_place a z some small =
    let low = small.low in
    let high = small.high in
    let e : pos a +ℤ z ≡ pos (nat_abs (pos a +ℤ z)) = place_of (pos a +ℤ z) (omega (arith, ints)) in
    record { low = omega (arith, ints); high = omega (arith, ints) }

-- what is needed of a plan
pub record IsRegular (s : Plan) : Type 0 where
  pub link : IsPaced s.link
  pub jitters : All (λ j. IsTrue (jitter_fits j)) s.jitters

-- the tick in which an edge is captured, against the edge's place
pub near_place : (n k : ℕ) (z : ℤ) → 2 ≤ n → IsSmall z → (16 * n + k ≤ 16 * captured n k z + 32)
    × (16 * captured n k z ≤ 16 * n + k + 47)
near_place n k z some small =
    let place = is_place (16 * n + k) z (omega arith) small in
    let low = place.low in
    let high = place.high in
    (omega arith, omega arith)

-- no edge comes before tick 0
pub place_low : (n k : ℕ) (z : ℤ) → 2 ≤ n → IsSmall z → pos 0 ≤ℤ place_of_edge n k z
place_low n k z some small =
    let low = small.low in
    omega (arith, ints)

-- the tick of an edge, of a timing, a skew and a jitter that were read
pub captured_near : (k : Link) (t : Timing) (i y : ℕ) (z : ℤ) → t ≡ k.timing → IsPaced k → IsSmall z
    → IsNear k i (captured (t.sysref_start + i * t.sysref_period) y z)
captured_near k t i y z same paced small =
    let start : 2 ≤ k.timing.sysref_start = paced.start_low in
    let n : ℕ = k.timing.sysref_start + i * k.timing.sysref_period in
    let near : 16 * n + y ≤ 16 * captured n y z + 32 = (near_place n y z (omega arith) small).0 in
    rw same (omega arith)

pub captured_is : (s : Plan) (d : Device) (i : ℕ) (t : Timing) (y : ℕ) (z : ℤ) → t ≡ s.link.timing
    → y ≡ skew t d → z ≡ jitter s.jitters d i
    → captured (t.sysref_start + i * t.sysref_period) y z ≡ edge_tick s d i
unfolding edge_tick
captured_is s d i t y z e f g = rw (f, g, e) refl

sixteenths : Plan → Device → ℕ → ℕ
sixteenths s d i = 16 * (s.link.timing.sysref_start + i * s.link.timing.sysref_period)
    + skew s.link.timing d

edge_tick-near : (s : Plan) (d : Device) (i : ℕ) → IsRegular s
    → (sixteenths s d i ≤ 16 * edge_tick s d i + 32)
    × (16 * edge_tick s d i ≤ sixteenths s d i + 47)
unfolding edge_tick sixteenths
edge_tick-near s d i h =
    let paced = h.link in
    let start = paced.start_low in
    near_place (s.link.timing.sysref_start + i * s.link.timing.sysref_period) (skew s.link.timing d)
    (jitter s.jitters d i) (omega arith) (jitter-small s.jitters d i h.jitters)

pub edge_tick-is_near : (s : Plan) (d : Device) (i : ℕ) → IsRegular s
    → IsNear s.link i (edge_tick s d i)
unfolding sixteenths
edge_tick-is_near s d i h =
    let n : ℕ = s.link.timing.sysref_start + i * s.link.timing.sysref_period in
    let a : 16 * n + skew s.link.timing d ≤ 16 * edge_tick s d i + 32 =
    (edge_tick-near s d i h).0 in
    omega arith

-- edges are captured in ascending ticks
next_later : (s : Plan) (d : Device) (i : ℕ) → IsRegular s → edge_tick s d i < edge_tick s d (suc i)
unfolding sixteenths
next_later s d i h =
    let t = s.link.timing in
    let paced = h.link in
    let p : 17 ≤ t.sysref_period = paced.period_low in
    let n : ℕ = t.sysref_start + i * t.sysref_period in
    let m : ℕ = t.sysref_start + suc i * t.sysref_period in
    let more : m ≡ n + t.sysref_period = omega arith in
    let a : 16 * edge_tick s d i ≤ 16 * n + skew t d + 47 = (edge_tick-near s d i h).1 in
    let b : 16 * m + skew t d ≤ 16 * edge_tick s d (suc i) + 32 =
    (edge_tick-near s d (suc i) h).0 in
    omega arith

pub later : (j : ℕ) (s : Plan) (d : Device) (i : ℕ) → IsRegular s → i < j
    → edge_tick s d i < edge_tick s d j
later zero s d i h lt = absurd (omega arith)
later (suc j) s d i h lt =
    let last = next_later s d j h in
    elim (cases_lt i j) [
      | inl below ↦ let before = later j s d i h below in omega arith
      | inr here ↦ let e : i ≡ j = omega arith in rw e last
    ]

-- ---- the edge of a tick

any_from : (n a : ℕ) (p : ℕ → Bool) (i : ℕ) → a ≤ i → i < a + n → p i ≡ true
    → list_any p (numbers_from a n) ≡ true
unfolding numbers_from
any_from zero a p i low high h = absurd (omega arith)
any_from (suc n) a p i low high h = elim (cases_lt a i) [
  | inl above ↦ or_right (p a) (list_any p (numbers_from (suc a) n))
      (any_from n (suc a) p i (omega arith) (omega arith) h)
  | inr here ↦ let e : i ≡ a = omega arith in or_left (p a) (list_any p (numbers_from (suc a) n))
      (rw (← e) h)
]

none_from : (n a : ℕ) (p : ℕ → Bool) → ((i : ℕ) → p i ≡ false)
    → list_any p (numbers_from a n) ≡ false
unfolding numbers_from
none_from zero a p h = refl
none_from (suc n) a p h = or_from (p a) (list_any p (numbers_from (suc a) n)) (h a)
    (none_from n (suc a) p h)

-- a product that is not above a number has a factor that is not above its quotient
factor_below : (i p t : ℕ) → 0 < p → i * p ≤ t → i < t / p + 2
factor_below i p t some h = elim (cases_lt i (t / p + 2)) [
  | inl below ↦ below
  | inr above ↦
      let q : ℕ = t / p in
      let whole : p * q + t % p ≡ t = omega arith in
      let rest : t % p < p = omega arith in
      let m : p * (q + 2) ≤ p * i = mul-le-mul_left p above in
      let e : p * (q + 2) ≡ p * q + p + p = omega arith in
      absurd (omega arith)
]

pub is_edge-here : (s : Plan) (d : Device) (t i : ℕ) → IsRegular s → edge_tick s d i ≡ t
    → is_edge s d t ≡ true
unfolding is_edge
is_edge-here s d t i h e =
    let p : ℕ = s.link.timing.sysref_period in
    let near : s.link.timing.sysref_start + i * p ≤ edge_tick s d i + 2 =
    edge_tick-is_near s d i h in
    let paced = h.link in
    let start : 2 ≤ s.link.timing.sysref_start = paced.start_low in
    let low : 17 ≤ p = paced.period_low in
    any_from (t / p + 2) 0 (λ i. edge_tick s d i == t) i (omega arith)
    (let b = factor_below i p t (omega arith) (omega arith) in omega arith)
    (eq-eqb (edge_tick s d i) t e)

is_edge-none : (s : Plan) (d : Device) (t : ℕ) → ((i : ℕ) → edge_tick s d i ≡ t → ⊥)
    → is_edge s d t ≡ false
unfolding is_edge
is_edge-none s d t h = none_from (t / s.link.timing.sysref_period + 2) 0 (λ i. edge_tick s d i == t)
    (λ i. ne_eqb (edge_tick s d i) t (h i))

-- where the next edge is known
pub is_edge-next : (s : Plan) (d : Device) (t next : ℕ) → IsRegular s
    → ((i : ℕ) → i < next → edge_tick s d i < t) → t ≤ edge_tick s d next
    → is_edge s d t ≡ (t == edge_tick s d next)
is_edge-next s d t next h passed to_come = elim (cases_lt t (edge_tick s d next)) [
  | inl before ↦
      is_edge-none s d t (λ i e. elim (cases_lt i next) [
        | inl gone ↦ let lt = passed i gone in absurd (omega arith)
        | inr left ↦ elim (cases_lt next i) [
          | inl after ↦ let lt = later i s d next h after in absurd (omega arith)
          | inr same ↦ let k : i ≡ next = omega arith in
              let f : edge_tick s d i ≡ edge_tick s d next = ap (edge_tick s d) k in
              absurd (omega arith)
        ]
      ])
      ∙ sym (ne_eqb t (edge_tick s d next) (λ e. omega arith))
  | inr here ↦
      let e : edge_tick s d next ≡ t = omega arith in
      is_edge-here s d t next h e ∙ sym (eq-eqb t (edge_tick s d next) (sym e))
]

-- ---- the edges since the last reset

last_reset-le : (t : ℕ) (s : Plan) (d : Device) → last_reset s d t ≤ t
unfolding last_reset
last_reset-le zero s d = omega arith
last_reset-le (suc t) s d = elim (cases_Bool (is_reset s d (suc t))) [
  | inl h ↦ rw h (omega arith)
  | inr h ↦ let k = last_reset-le t s d in rw h (omega arith)
]

last_reset-here : (t : ℕ) (s : Plan) (d : Device) → is_reset s d t ≡ true → last_reset s d t ≡ t
unfolding last_reset
last_reset-here zero s d h = refl
last_reset-here (suc t) s d h = rw h refl

last_reset-kept : (t : ℕ) (s : Plan) (d : Device) → is_reset s d (suc t) ≡ false
    → last_reset s d (suc t) ≡ last_reset s d t
unfolding last_reset
last_reset-kept t s d h = rw h refl

numbers_from-more : (n a : ℕ) → numbers_from a (suc n) ≡ numbers_from a n ++ (a + n) ∷ []
unfolding numbers_from
numbers_from-more zero a = let e : a ≡ a + 0 = omega arith in ap (λ x. x ∷ []) e
numbers_from-more (suc n) a = let e : suc a + n ≡ a + suc n = omega arith in
    ap (λ xs. a ∷ xs) (numbers_from-more n (suc a) ∙ ap (λ x. numbers_from (suc a) n ++ x ∷ []) e)

one_number : (a : ℕ) → numbers_from a 1 ≡ a ∷ []
unfolding numbers_from
one_number a = refl

pub edges-reset : (t : ℕ) (s : Plan) (d : Device) → is_reset s d t ≡ true
    → edges s d t ≡ is_edge s d t ∷ []
unfolding edges
edges-reset t s d h =
    let e : t + 1 - t ≡ 1 = omega arith in
    ap (λ r. map (is_edge s d) (numbers_from r (t + 1 - r))) (last_reset-here t s d h)
    ∙ ap (λ n. map (is_edge s d) (numbers_from t n)) e
    ∙ ap (map (is_edge s d)) (one_number t)

pub edges-more : (t : ℕ) (s : Plan) (d : Device) → is_reset s d t ≡ false
    → edges s d t ≡ edges_before s d t ++ is_edge s d t ∷ []
unfolding edges last_reset
edges-more zero s d h = ap (map (is_edge s d)) (one_number 0)
edges-more (suc t) s d h =
    let r : ℕ = last_reset s d t in
    let low = last_reset-le t s d in
    let e : suc t + 1 - r ≡ suc (t + 1 - r) = omega arith in
    let f : r + (t + 1 - r) ≡ suc t = omega arith in
    ap (λ r. map (is_edge s d) (numbers_from r (suc t + 1 - r))) (last_reset-kept t s d h)
    ∙ ap (λ n. map (is_edge s d) (numbers_from r n)) e
    ∙ ap (map (is_edge s d)) (numbers_from-more (t + 1 - r) r
    ∙ ap (λ x. numbers_from r (t + 1 - r) ++ x ∷ []) f)
    ∙ map-append (is_edge s d) (numbers_from r (t + 1 - r)) (suc t ∷ [])

-- what the clock took before the tick's edge: nothing after a reset
abbrev pub taken : Plan → Device → ℕ → Bool → List Bool
taken s d t reset = if reset then [] else edges_before s d t

pub edges-taken : (s : Plan) (d : Device) (t : ℕ) (reset : Bool) → reset ≡ is_reset s d t
    → edges s d t ≡ taken s d t reset ++ is_edge s d t ∷ []
edges-taken s d t true e = edges-reset t s d (sym e)
edges-taken s d t false e = edges-more t s d (sym e)
