-- On a clean line a 64b/66b lane is locked only where the transmitter has a phase: without one only
-- zeros were sent from the hunt on, and of the blocks of a pattern the last one has a header that
-- was sent since, as a lane's arrival is below the period.
use Rattle.std.proofs.Common.{◌≡◌, ℕ, zero, suc, ◌+◌, ◌-◌, ◌*◌, ◌/◌, ◌%◌, ◌<◌, ◌≤◌, Bool, true, false, List, [], ◌∷◌, length, drop, get_or, Some, None, is_some, inl, inr, refl, sym, ap, ◌∙◌, arith}
use Rattle.std.proofs.lemmas.Bool.{cond-false}
use Rattle.std.proofs.lemmas.List.{drop-drop, get_or-drop, length-drop}
use Rattle.jesd_base.specs.Bits.{zeros}
use Rattle.link_params.specs.declared.alarms.Device.TheVariants.{Tx}
use Rattle.link_params.specs.Laws.{is_b}
use Rattle.link_params.specs.Numbers.{period}
use Rattle.scenario.specs.Plans.{Plan}
use Rattle.link_model.specs.Carried.{delay_at}
use Rattle.link_model.specs.Edges.{phase}
use Rattle.block_66b.specs.declared.sync_bit.SyncBit.{SyncBit}
use Rattle.block_66b.specs.declared.sync_bit.SyncBit.TheVariants.{Zero, One, Bad}
use Rattle.block_66b.specs.Blocks.{header}
use Rattle.multiblock.specs.Places.{Place, headers, pattern, pattern_size, span}
use Rattle.multiblock.specs.laws.PlaceLaws.{IsLeastPlace}
use Rattle.multiblock.proofs.PlaceLemmas.{finds_least_place}
use Rattle.lane_c.specs.Received.{lanes_c}
use Rattle.link_model.specs.Sessions.{first_tick}
use Rattle.link_model.specs.Wiring.{wire_of}
use Rattle.link_laws.specs.Premises.{Clean, arrival}
use Rattle.link_laws.specs.LaneLaws.{LaneSender}
use Rattle.link_laws.specs.Laws.{IsPlanRead}
use Rattle.link_laws.proofs.Phases.{HasEdges, phase-stays}
use Rattle.link_laws.proofs.PlanRead.{arrival-below, has-edges, reset-none}
use Rattle.link_laws.proofs.ReleaseTick.{goes}
use Rattle.link_laws.proofs.SessionStages.{Goes, first-high, first-low}
use Rattle.link_laws_c.proofs.Framing.{Stands, stands-of}
use Rattle.link_laws_c.proofs.HeaderLists.{ReadsGood, good-reads, header_of, headers-get, headers-length}
use Rattle.link_laws_c.proofs.HeldReport.{place-of-lock}
use Rattle.link_laws_c.proofs.SentBits.{sent-silent}
use Rattle.link_laws_c.proofs.SentTicks.{cases_some}
use Rattle.link_laws_c.proofs.SessionBits.{bit-of-session, header-by-bits, length-session-bits}
use Rattle.link_laws_c.proofs.SessionWords.{bits_at}
use Rattle.link_laws_c.proofs.TakenBits.{bit-clean, sent_bit}

-- each header of a pattern carries a sync bit
header-of-pattern : (e m n : ℕ) (bs : List Bool) → pattern e bs ≡ Some m → n < 32 * pattern_size e
    → (b : Bool) × (header (drop (66 * n) bs) ≡ header_of b)
header-of-pattern e m n bs is below =
    let st : Stands e bs m = stands-of e m bs is in
    let count : ℕ = 32 * pattern_size e in
    let hs : List SyncBit = headers count bs in
    let long = headers-length count bs in
    let r : ReadsGood hs st.sync = good-reads hs st.sync st.reads in
    (get_or st.sync n false, sym (headers-get count n bs Bad below) ∙ r.each n (omega arith))

never-bad : {A : Type 0} (b : Bool) → Bad ≡ header_of b → A
never-bad true is = let bad : Bad ≡ One = is in absurd (cc)
never-bad false is = let bad : Bad ≡ Zero = is in absurd (cc)

bad-zeros : header (false ∷ false ∷ []) ≡ Bad
unfolding header
bad-zeros = refl

zero-bit : (n i : ℕ) → get_or (zeros n) i false ≡ false
unfolding zeros
zero-bit zero i = refl
zero-bit (suc n) zero = refl
zero-bit (suc n) (suc i) = zero-bit n i

module _ (s : Plan) (h t lane : ℕ) (read : IsPlanRead s) (mode : is_b s.link.params.mode ≡ false)
    (below : lane < s.link.params.l)
    (g : Goes lanes_c s h t) (clean : Clean s h t) (none : phase s Tx t ≡ None) where
  -- the transmitter had no phase since the hunt
  no-phase : (q : ℕ) → h ≤ q → q ≤ t → phase s Tx q ≡ None
  no-phase q low up = elim (cases_some (phase s Tx q)) [
    | inr silent ↦ silent
    | inl k ↦
        let clear = clean.untouched in
        let stays = phase-stays s Tx q t k.0 (has-edges s read) up
        (λ y a b. reset-none s Tx y (clear.no_event y (omega arith) b)) k.1 in
        let is = stays.1 in
        absurd (cc)
  ]

  -- so it sent zeros alone
  sent-zero : (k : ℕ) → 66 * h ≤ k → k < 66 * suc t → sent_bit s (wire_of s lane) k ≡ false
  sent-zero k low up =
      ap (λ (l : List Bool). get_or l (k % 66) false)
      (sent-silent s (wire_of s lane) (k / 66) (has-edges s read) mode
      ((has-edges s read).wired lane below)
      (no-phase (k / 66) (omega arith) (omega arith)))
      ∙ zero-bit 66 (k % 66)

  abbrev bs : List Bool
  bs = bits_at lanes_c s lane t

  -- a header that was sent since the hunt is bad
  header-bad : (x : ℕ) → 66 * h + delay_at s lane h ≤ 66 * first_tick lanes_c s h + x
      → 66 * suc h ≤ 66 * first_tick lanes_c s h + x
      → x + 66 ≤ 66 * (suc t - first_tick lanes_c s h) → header (drop x bs) ≡ Bad
  header-bad x since after inside =
      let e : HasEdges s = has-edges s read in
      let f : ℕ = first_tick lanes_c s h in
      let low = first-low lanes_c s h t g in
      let high = first-high lanes_c s h t g in
      let above = g.above in
      let long = length-session-bits s h t g lane t (omega arith) (omega arith) e mode below in
      let rest = length-drop x bs in
      let bit : (i : ℕ) → i < 2 → get_or (drop x bs) i false ≡ false = λ i under.
      let p : ℕ = f + (x + i) / 66 in
      let j : ℕ = (x + i) % 66 in
      get_or-drop x bs i false ∙ bit-of-session s h t g lane t (omega arith) (omega arith) e mode
      below (x + i) (omega arith)
      ∙ bit-clean s lane h t p j e mode below clean (omega arith) (omega arith) (omega arith)
      (omega arith)
      ∙ sent-zero (66 * p + j - delay_at s lane h) (omega arith) (omega arith) in
      header-by-bits (drop x bs) (false ∷ false ∷ []) (omega arith) (omega arith)
      (bit 0 (omega arith)) (bit 1 (omega arith)) ∙ bad-zeros

  -- and no pattern stands in the session's bits
  no-pattern : (x m : ℕ) → x + span s.link.params.e ≤ length bs
      → pattern s.link.params.e (drop x bs) ≡ Some m → ⊥
  no-pattern x m whole is =
      let f : ℕ = first_tick lanes_c s h in
      let low = first-low lanes_c s h t g in
      let high = first-high lanes_c s h t g in
      let above = g.above in
      let long = length-session-bits s h t g lane t (omega arith) (omega arith) (has-edges s read)
      mode below in
      let n : ℕ = 32 * pattern_size s.link.params.e - 1 in
      let ticks : period s.link.params ≡ 32 * s.link.params.e = cond-false (is_b s.link.params.mode)
      (s.link.params.f * s.link.params.k) (32 * s.link.params.e) mode in
      let soon = arrival-below s lane h read in
      let a : arrival s lane h ≡ (delay_at s lane h + 65) / 66 = rw mode refl in
      let good = header-of-pattern s.link.params.e m n (drop x bs) is (omega arith) in
      let bad = header-bad (x + 66 * n) (omega arith) (omega arith) (omega arith) in
      never-bad good.0 (sym bad ∙ sym (ap header (drop-drop (66 * n) x bs)) ∙ good.1)

-- a clean 64b/66b lane is locked only where the transmitter has a phase
pub lane-sender : (s : Plan) → IsPlanRead s → LaneSender lanes_c s
lane-sender s read h lane t mode below session clean locked = elim (cases_some (phase s Tx t)) [
  | inl k ↦ ap is_some k.1
  | inr none ↦
      let g : Goes lanes_c s h t = goes lanes_c s h t session (inl clean) in
      let k = place-of-lock s lane t below locked in
      let p : Place = k.0 in
      let least : IsLeastPlace s.link.params.e 0 (bits_at lanes_c s lane t) p =
      (finds_least_place s.link.params.e 0 (bits_at lanes_c s lane t) p).0 k.1 in
      absurd (no-pattern s h t lane read mode below g clean none p.first p.remainder least.whole
      least.stands)
]
