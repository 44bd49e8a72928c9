-- A place on the grid that begins in blocks of an older transmission: the transmitter was reset in
-- the tick of an edge, so no silence came between, and the older blocks stand on the same grid, a
-- whole number of extended multiblocks before.
use Rattle.std.proofs.Common.{◌≡◌, ℕ, zero, suc, ◌+◌, ◌-◌, ◌*◌, ◌/◌, ◌%◌, ◌==◌, ◌<◌, ◌≤◌, nat_lt, min, Bool, true, false, if◌then◌else◌, List, length, drop, get_or, Some, ◌⊎◌, inl, inr, refl, sym, ap, ap₂, ◌∙◌, add-mul, mul_assoc, mul_left_comm, mul-le-mul_left, mul-one, mul-pos, mul-zero, arith}
use Rattle.std.proofs.lemmas.Bool.{cases_lt, lt-ltb, le-ltb}
use Rattle.std.proofs.lemmas.List.{drop-drop}
use Rattle.std.proofs.Math.Nat.{add-mul-mod_self_left}
use Rattle.jesd_base.specs.Bits.{zeros}
use Rattle.link_params.specs.declared.alarms.Device.TheVariants.{Tx}
use Rattle.link_params.specs.Laws.{is_b}
use Rattle.link_params.specs.Numbers.{period}
use Rattle.scenario.specs.Plans.{Plan}
use Rattle.link_model.specs.Edges.{edge_tick, jitter, last_reset, phase, skew}
use Rattle.link_model.proofs.EdgeTicks.{jitter-small, later, near_place}
use Rattle.link_model.proofs.TxHistory.{last-reset-le}
use Rattle.block_66b.specs.declared.sync_bit.SyncBit.{SyncBit}
use Rattle.block_66b.specs.declared.sync_bit.SyncBit.TheVariants.{Zero, One, Bad}
use Rattle.block_66b.specs.Blocks.{header}
use Rattle.multiblock.specs.SyncWords.{pilot}
use Rattle.multiblock.specs.Places.{headers, pattern, pattern_size, span}
use Rattle.lane_c.specs.Sent.{payload_of, word_of}
use Rattle.lane_c.specs.Received.{lanes_c}
use Rattle.link_model.specs.Sessions.{first_tick}
use Rattle.link_model.specs.Wiring.{wire_of}
use Rattle.link_laws.specs.Premises.{GivesPhase, Undamaged, arrival}
use Rattle.link_laws.specs.Laws.{IsPlanRead}
use Rattle.link_laws.proofs.Phases.{HasEdges, edge-of-phase, last-reset-same}
use Rattle.link_laws.proofs.PlanRead.{arrival-below, reset-none}
use Rattle.link_laws.proofs.ReleaseTick.{untouched}
use Rattle.link_laws.proofs.SessionStages.{Goes, first-low}
use Rattle.link_laws_c.proofs.Framing.{CarriesSync, IsForm, Stands, header-same, pilot-read, size-over, stands-of}
use Rattle.link_laws_c.proofs.HeaderLists.{ReadsGood, good-reads, header_of, headers-get, headers-length}
use Rattle.link_laws_c.proofs.Holding.{HasForm}
use Rattle.link_laws_c.proofs.OnGrid.{StandsFor, gives-since, reset-since}
use Rattle.link_laws_c.proofs.SentBits.{not-b, sent-block, sent-silent, sent_at}
use Rattle.link_laws_c.proofs.SentForm.{end-from, form-sent, header-of-block, remainder_from, word-end, word-pilot, word_bit}
use Rattle.link_laws_c.proofs.SentTicks.{cases_some, octets_from}
use Rattle.link_laws_c.proofs.SessionBits.{header-taken, length-session-bits}
use Rattle.link_laws_c.proofs.SessionWords.{bits_at}

-- two edges are a whole number of SYSREF periods apart, four ticks more or less
pub edges-apart : (s : Plan) (i j : ℕ) → HasEdges s → j < i
    → (edge_tick s Tx j + (i - j) * s.link.timing.sysref_period ≤ edge_tick s Tx i + 4)
    × (edge_tick s Tx i ≤ edge_tick s Tx j + (i - j) * s.link.timing.sysref_period + 4)
unfolding edge_tick
edges-apart s i j e before =
    let t = s.link.timing in
    let start = e.regular.link.start_low in
    let n : ℕ = t.sysref_start + i * t.sysref_period in
    let m : ℕ = t.sysref_start + j * t.sysref_period in
    let a = near_place n (skew t Tx) (jitter s.jitters Tx i) (omega arith)
    (jitter-small s.jitters Tx i e.regular.jitters) in
    let b = near_place m (skew t Tx) (jitter s.jitters Tx j) (omega arith)
    (jitter-small s.jitters Tx j e.regular.jitters) in
    let split : i * t.sysref_period ≡ j * t.sysref_period + (i - j) * t.sysref_period =
    parts i j t.sysref_period (omega arith) in
    let a0 = a.0 in
    let a1 = a.1 in
    let b0 = b.0 in
    let b1 = b.1 in
    (omega arith, omega arith)
  where
    parts : (i j p : ℕ) → j ≤ i → i * p ≡ j * p + (i - j) * p
    parts i j p low = let sum : j + (i - j) ≡ i = omega arith in ap (λ (n : ℕ). n * p) (sym sum)
        ∙ add-mul j (i - j) p

good-not-bad : (b : Bool) → header_of b ≡ Bad → ⊥
good-not-bad true e = let bad : One ≡ Bad = e in cc
good-not-bad false e = let bad : Zero ≡ Bad = e in cc

silent-bad : header (zeros 66) ≡ Bad
unfolding header zeros
silent-bad = refl

-- the bit of a sync word by its number
bit-of-number : (s : Plan) (os : List ℕ) (m j i : ℕ) → m ≡ 32 * j + i → i < 32
    → word_bit s.link.params os m ≡ get_or (word_of s.link.params (payload_of os) j) i false
bit-of-number s os m j i is low =
    let a : m / 32 ≡ j = omega arith in
    let b : m % 32 ≡ i = omega arith in
    ap₂ (λ (x y : ℕ). get_or (word_of s.link.params (payload_of os) x) y false) a b

-- the pilots of one multiblock show its place, four places more or less
off-grid : (s : Plan) (os : List ℕ) (k : ℕ) → is_b s.link.params.mode ≡ false
    → ((i : ℕ) → i < 5 → word_bit s.link.params os (k + (27 + i)) ≡ get_or pilot i false)
    → (k % 32 ≤ 4) ⊎ (28 ≤ k % 32) → k % 32 ≡ 0
unfolding pilot
off-grid s os k mode reads near = elim (cases_lt 0 (k % 32)) [
  | inr none ↦ omega arith
  | inl some ↦ elim near [
    | inl early ↦
        let i : ℕ = 4 - k % 32 in
        let last = word-pilot s.link.params (payload_of os) (k / 32) 4
        (not-b s.link.params.mode mode) (omega arith) in
        let read = reads i (omega arith) in
        let is = bit-of-number s os (k + (27 + i)) (k / 32) 31 (omega arith) (omega arith) in
        let low : i < 4 = omega arith in
        let zero_here : get_or pilot i false ≡ false = early-zero i low in
        let bad : false ≡ true = sym zero_here ∙ sym read ∙ is ∙ last in
        absurd (cc)
    | inr late ↦
        let i : ℕ = k % 32 - 28 in
        let early = word-pilot s.link.params (payload_of os) (k / 32 + 1) i
        (not-b s.link.params.mode mode) (omega arith) in
        let read = reads 4 (omega arith) in
        let is = bit-of-number s os (k + (27 + 4)) (k / 32 + 1) (27 + i) (omega arith)
        (omega arith) in
        let zero_here : get_or pilot i false ≡ false = early-zero i (omega arith) in
        let bad : true ≡ false = sym read ∙ is ∙ early ∙ zero_here in
        absurd (cc)
  ]
]
  where
    early-zero : (i : ℕ) → i < 4 → get_or pilot i false ≡ false
    early-zero zero low = refl
    early-zero (suc zero) low = refl
    early-zero (suc (suc zero)) low = refl
    early-zero (suc (suc (suc zero))) low = refl
    early-zero (suc (suc (suc (suc i)))) low = absurd (omega arith)

module _ (s : Plan) (h t lane u x q i r : ℕ) (g : Goes lanes_c s h t)
    (low : first_tick lanes_c s h ≤ u) (up : u ≤ t) (read : IsPlanRead s) (e : HasEdges s)
    (mode : is_b s.link.params.mode ≡ false) (some : 1 ≤ s.link.params.e)
    (below : lane < s.link.params.l) (damage : Undamaged s h t)
    (gives : GivesPhase s Tx t i) (old : q < edge_tick s Tx i) (stands : StandsFor s h lane x q)
    (step : q % 32 ≡ edge_tick s Tx i % 32)
    (whole : x + span s.link.params.e ≤ length (bits_at lanes_c s lane u))
    (is : pattern s.link.params.e (drop x (bits_at lanes_c s lane u)) ≡ Some r) where
  abbrev bs : List Bool
  bs = bits_at lanes_c s lane u

  abbrev v : ℕ
  v = 32 * pattern_size s.link.params.e

  pattern-read : Stands s.link.params.e (drop x bs) r
  pattern-read = stands-of s.link.params.e r (drop x bs) is

  -- the header of each block of the pattern is good
  read-at : (n : ℕ) → n < v
      → header (drop (x + 66 * n) bs) ≡ header_of (get_or pattern-read.sync n false)
  read-at n inside =
      let hs : List SyncBit = headers v (drop x bs) in
      let long = headers-length v (drop x bs) in
      let k : ReadsGood hs pattern-read.sync = good-reads hs pattern-read.sync pattern-read.reads in
      sym (headers-get v n (drop x bs) Bad inside ∙ ap header (drop-drop (66 * n) x bs))
      ∙ k.each n (omega arith)

  -- and it is that of what was sent, behind the first
  sent-header : (n : ℕ) → 0 < n → x + 66 * suc n ≤ length bs
      → header (drop (x + 66 * n) bs) ≡ header (sent_at s (wire_of s lane) (q + n))
  sent-header n later_one inside =
      let f = first-low lanes_c s h t g in
      let long = length-session-bits s h t g lane u low up e mode below in
      header-taken s h t g lane u low up e mode below (x + 66 * n) (q + n) damage (omega arith)
      (omega arith) (omega arith)

  -- so it is no silence
  phase-there : (n : ℕ) → 0 < n → n < v → (y : ℕ) × (phase s Tx (q + n) ≡ Some y)
  phase-there n later_one inside = elim (cases_some (phase s Tx (q + n))) [
    | inl k ↦ k
    | inr none ↦ absurd (good-not-bad (get_or pattern-read.sync n false)
        (sym (read-at n inside) ∙ sent-header n later_one (omega arith)
        ∙ ap header (sent-silent s (wire_of s lane) (q + n) e mode (e.wired lane below) none) ∙ silent-bad))
  ]

  abbrev x0 : ℕ
  x0 = edge_tick s Tx i

  -- before the edge and since the reset the transmitter has no phase
  before-reset : (n : ℕ) → 0 < n → n < v → q + n < x0 → q + n ≤ t → q + n < last_reset s Tx t
  before-reset n later_one inside early by = elim (cases_lt (q + n) (last_reset s Tx t)) [
    | inl before ↦ before
    | inr since ↦
        let k = phase-there n later_one inside in
        let j = edge-of-phase s Tx (q + n) k.0 e.regular k.1 in
        let gj : GivesPhase s Tx (q + n) j.0 = j.1 in
        let same = reset-since t s Tx (q + n) since by in
        let after = gj.since in
        let at_by = gj.by in
        let first = gives.first j.0 (omega arith) in
        absurd (omega arith)
  ]

  reset-low : last_reset s Tx t ≤ h
  reset-low =
      let a = g.above in
      let clear = untouched s h t damage in
      let same = last-reset-same t s Tx h (omega arith)
      (λ y b c. reset-none s Tx y (clear.no_event y b c)) in
      let l = last-reset-le s Tx h in
      omega arith

  width-period : period s.link.params ≡ 32 * s.link.params.e
  width-period = rw mode refl

  -- the edge was captured in the tick of the reset, which is not after the hunt, and the place
  -- begins less than a period before it
  pub record IsReset : Type 0 where
    pub now : last_reset s Tx t ≡ x0
    pub near : x0 ≤ q + 32 * (s.link.params.e - 1)

  reset-here : IsReset
  reset-here =
      let f = first-low lanes_c s h t g in
      let over = size-over s.link.params.e in
      let period_is = width-period in
      let a = arrival-below s lane h read in
      let low_reset = reset-low in
      let since = gives.since in
      let by = gives.by in
      let soon : h ≤ q + arrival s lane h = arrive-soon in
      let n : ℕ = min (v - 1) (x0 - 1 - q) in
      let before = before-reset n (omega arith) (omega arith) (omega arith) (omega arith) in
      record { now = omega arith; near = omega arith }
    where
      arrive-soon : h ≤ q + arrival s lane h
      arrive-soon = let f = first-low lanes_c s h t g in rw mode (omega arith)

  -- ---- the older transmission

  record IsOlder : Type 0 where
    edge : ℕ
    given : GivesPhase s Tx (x0 - 1) edge
    before : edge < i
    from : edge_tick s Tx edge ≤ q
    periods : ℕ
    far : 32 * (s.link.params.e * periods) ≤ x0 + 4 - edge_tick s Tx edge
    near : x0 ≤ edge_tick s Tx edge + 32 * (s.link.params.e * periods) + 4

  -- x0 is at least a multiblock after q
  multiblock-after : q + 32 ≤ x0
  multiblock-after = omega arith

  older : IsOlder
  older =
      let over = size-over s.link.params.e in
      let rs = reset-here in
      let near = rs.near in
      let after = multiblock-after in
      let n : ℕ = x0 - 1 - q in
      let k = phase-there n (omega arith) (omega arith) in
      let at_end : q + n ≡ x0 - 1 = omega arith in
      let j = edge-of-phase s Tx (x0 - 1) k.0 e.regular (ap (phase s Tx) (sym at_end) ∙ k.1) in
      let gj : GivesPhase s Tx (x0 - 1) j.0 = j.1 in
      let by = gj.by in
      let early : edge_tick s Tx j.0 < x0 = omega arith in
      let order : j.0 < i = elim (cases_lt j.0 i) [
        | inl before ↦ before
        | inr not_before ↦ elim (cases_lt i j.0) [
          | inl after_it ↦ let l = later j.0 s Tx i e.regular after_it in absurd (omega arith)
          | inr not_after ↦ let same : j.0 ≡ i = omega arith in
              let eq : edge_tick s Tx j.0 ≡ x0 = ap (edge_tick s Tx) same in absurd (omega arith)
        ]
      ] in
      let apart = edges-apart s i j.0 e order in
      let c : ℕ = i - j.0 in
      let m = e.multiple in
      let number : c * s.link.timing.sysref_period ≡ 32 * (s.link.params.e * (c * m.0)) =
      ap (λ (z : ℕ). c * z) (m.1 ∙ ap (λ (z : ℕ). z * m.0) width-period
      ∙ mul_assoc 32 s.link.params.e m.0)
      ∙ mul_left_comm c 32 (s.link.params.e * m.0)
      ∙ ap (λ (z : ℕ). 32 * z) (mul_left_comm c s.link.params.e m.0) in
      let some_periods : 1 ≤ m.0 = elim (cases_lt 0 m.0) [
        | inl up_one ↦ up_one
        | inr none ↦
            let z : m.0 ≡ 0 = omega arith in
            let low_period = e.regular.link.period_low in
            let nothing : s.link.timing.sysref_period ≡ 0 = m.1
            ∙ ap (λ (y : ℕ). period s.link.params * y) z ∙ mul-zero (period s.link.params) in
            absurd (omega arith)
      ] in
      let many : 1 ≤ c * m.0 = mul-pos (let l : 0 < c = omega arith in l) some_periods in
      let least : s.link.params.e * 1 ≤ s.link.params.e * (c * m.0) =
      mul-le-mul_left s.link.params.e many in
      let one : s.link.params.e * 1 ≡ s.link.params.e = mul-one s.link.params.e in
      let a0 = apart.0 in
      let a1 = apart.1 in
      record {
        edge = j.0;
        given = gj;
        before = order;
        from = elim (cases_lt q (edge_tick s Tx j.0)) [
          | inr low_one ↦ low_one
          | inl inside ↦
              absurd (omega (arith, near, inside, a0, number, least, one))
        ];
        periods = c * m.0;
        far = omega (arith, a0, number, early);
        near = omega (arith, a1, number);
      }

  abbrev x1 : ℕ
  x1 = edge_tick s Tx older.edge

  -- the octets of the older transmission, and those of the present one
  abbrev was : List ℕ
  was = octets_from s (wire_of s lane) x1 x0

  abbrev now_sent : List ℕ
  now_sent = octets_from s (wire_of s lane) x0 (suc u)

  -- what was sent before the edge are blocks of the older one
  old-sent : (n : ℕ) → q + n < x0
      → header (sent_at s (wire_of s lane) (q + n)) ≡ header_of (word_bit s.link.params was (q - x1 + n))
  old-sent n before =
      let o : IsOlder = older in
      let from = o.from in
      let number : q + n - x1 ≡ q - x1 + n = omega arith in
      ap header
      (sent-block s (wire_of s lane) (q + n) o.edge x0 e mode (e.wired lane below)
      (gives-since s Tx (x0 - 1) (q + n) o.edge o.given (omega arith) (omega arith))
      (omega arith))
      ∙ header-of-block (word_bit s.link.params was (q + n - x1)) _
      ∙ ap (λ (m : ℕ). header_of (word_bit s.link.params was m)) number

  new-sent : (n : ℕ) → x0 ≤ q + n → q + n ≤ u
      → header (sent_at s (wire_of s lane) (q + n)) ≡ header_of (word_bit s.link.params now_sent (q + n - x0))
  new-sent n after by =
      ap header
      (sent-block s (wire_of s lane) (q + n) i (suc u) e mode (e.wired lane below)
      (gives-since s Tx t (q + n) i gives after (omega arith)) (omega arith))
      ∙ header-of-block (word_bit s.link.params now_sent (q + n - x0)) _

  -- they stand on the same grid
  same-grid : (q - x1) % 32 ≡ 0
  same-grid =
      let o : IsOlder = older in
      let from = o.from in
      let far = o.far in
      let near = o.near in
      let over = size-over s.link.params.e in
      let after = multiblock-after in
      off-grid s was (q - x1) mode (λ j five.
      header-same (word_bit s.link.params was (q - x1 + (27 + j))) (get_or pilot j false)
      (sym (old-sent (27 + j) (omega arith))
      ∙ sym (sent-header (27 + j) (omega arith) (omega arith)) ∙ read-at (27 + j) (omega arith)
      ∙ ap header_of (pilot-read s.link.params.e r (drop x bs) pattern-read j five)))
      (elim (cases_lt 4 ((q - x1) % 32)) [
        | inr low_one ↦ inl low_one
        | inl high ↦
            inr (omega (arith, from, far, near, step, high))
      ])

  -- so the edges are a whole number of extended multiblocks apart
  whole-apart : x0 ≡ x1 + 32 * (s.link.params.e * older.periods)
  whole-apart =
      let o : IsOlder = older in
      let from = o.from in
      let far = o.far in
      let near = o.near in
      let on = same-grid in
      omega (arith, from, far, near, step, on, old)

  -- the end bits of both, counted from the place
  same-ends : (j : ℕ) → x0 ≤ q + 32 * j
      → (j % s.link.params.e == remainder_from s.link.params.e ((q - x1) / 32))
      ≡ ((q + 32 * j - x0) / 32 % s.link.params.e == s.link.params.e - 1)
  same-ends j after =
      let ee : ℕ = s.link.params.e in
      let o : IsOlder = older in
      let from = o.from in
      let on = same-grid in
      let apart = whole-apart in
      let k : ℕ = (q + 32 * j - x0) / 32 in
      let number : (q - x1) / 32 + j ≡ k + ee * o.periods =
      omega (arith, from, on, apart, after, step) in
      sym (end-from ee ((q - x1) / 32) j some)
      ∙ ap (λ (n : ℕ). n == ee - 1) (ap (λ (n : ℕ). n % ee) number
      ∙ add-mul-mod_self_left k ee o.periods)

  -- the sync bits from the place on
  abbrev both : ℕ → Bool
  both n = if nat_lt (q + n) x0 then word_bit s.link.params was (q - x1 + n) else word_bit
      s.link.params now_sent (q + n - x0)

  both-old : (n : ℕ) → q + n < x0 → both n ≡ word_bit s.link.params was (q - x1 + n)
  both-old n before = rw (lt-ltb (q + n) x0 before) refl

  both-new : (n : ℕ) → x0 ≤ q + n → both n ≡ word_bit s.link.params now_sent (q + n - x0)
  both-new n after = rw (le-ltb (q + n) x0 after) refl

  both-form : IsForm s.link.params.e (remainder_from s.link.params.e ((q - x1) / 32)) both
  both-form =
      let p = s.link.params in
      let f = form-sent p was (q - x1) (not-b p.mode mode) some same-grid in
      record {
        below = f.below;
        pilots = λ j n five. elim (cases_lt (q + (32 * j + (27 + n))) x0) [
          | inl before ↦ both-old (32 * j + (27 + n)) before ∙ f.pilots j n five
          | inr after ↦
              let first : x0 ≤ q + 32 * j = omega arith in
              both-new (32 * j + (27 + n)) after
              ∙ bit-of-number s now_sent (q + (32 * j + (27 + n)) - x0) ((q + 32 * j - x0) / 32)
              (27 + n) (omega arith) (omega arith)
              ∙ word-pilot p (payload_of now_sent) ((q + 32 * j - x0) / 32) n (not-b p.mode mode)
              five
        ];
        ends = λ j. elim (cases_lt (q + (32 * j + 22)) x0) [
          | inl before ↦ both-old (32 * j + 22) before ∙ f.ends j
          | inr after ↦
              let first : x0 ≤ q + 32 * j = omega arith in
              both-new (32 * j + 22) after
              ∙ bit-of-number s now_sent (q + (32 * j + 22) - x0) ((q + 32 * j - x0) / 32) 22
              (omega arith) (omega arith)
              ∙ word-end p (payload_of now_sent) ((q + 32 * j - x0) / 32) (not-b p.mode mode)
              ∙ sym (same-ends j first)
        ];
      }

  both-carried : CarriesSync bs x both
  both-carried n later_one inside =
      let f = first-low lanes_c s h t g in
      let long = length-session-bits s h t g lane u low up e mode below in
      sent-header n later_one inside ∙ elim (cases_lt (q + n) x0) [
        | inl before ↦ old-sent n before ∙ ap header_of (sym (both-old n before))
        | inr after ↦ new-sent n after (omega arith) ∙ ap header_of (sym (both-new n after))
      ]

  pub old-form : HasForm s lane u x q i
  old-form =
      let rs = reset-here in
      let near = rs.near in
      let over = size-over s.link.params.e in
      record {
        remainder = remainder_from s.link.params.e ((q - x1) / 32);
        sync = both;
        carries = both-carried;
        form = both-form;
        soon = omega arith;
        turns = same-ends;
      }
