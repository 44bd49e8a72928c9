-- An undisturbed link delivers in time: from Latency and the release.
use Rattle.std.proofs.Common.{◌≡◌, ℕ, zero, suc, ◌+◌, ◌*◌, ◌<◌, ◌≤◌, ◌==◌, ◌||◌, if◌then◌else◌, Bool, true, false, None, inl, inr, refl, sym, subst, ap, ◌∙◌, arith}
use Rattle.std.proofs.Math.Nat.{mul-le-mul_left}
use Rattle.std.proofs.lemmas.Bool.{cases_Bool, cases_lt, cond-true, cond-false, ne_eqb}
use Rattle.link_params.specs.declared.alarms.Device.TheVariants.{Tx, Rx}
use Rattle.link_params.specs.declared.fields.Params.{Params}
use Rattle.link_params.specs.Laws.{broken_law, is_b}
use Rattle.link_params.specs.Lanes.{LaneKind}
use Rattle.link_params.specs.Numbers.{bound, lat_ticks, latency, octets_per_tick, period}
use Rattle.link_params.proofs.LawFacts.{legal_sizes, rooms}
use Rattle.scenario.specs.Plans.{Plan}
use Rattle.link_model.specs.Edges.{is_reset}
use Rattle.link_model.specs.Sessions.{InSession, decides_hunt, first_tick, hunts_at}
use Rattle.link_laws.specs.Premises.{Clean, Inside, Lone, Met, Pattern, Undamaged}
use Rattle.link_laws.specs.LaneLaws.{LaneLaws, LaneSender}
use Rattle.link_laws.specs.Laws.{HasDelivered, HasEntered, HasLeft, KeepsLatency, IsOnTime, IsPlanRead, Latency, first_entry}
use Rattle.link_laws.proofs.PlanRead.{has-edges, reset-none}
use Rattle.link_laws.proofs.Released.{is-late}
use Rattle.link_laws.proofs.Phases.{phase-stays}
use Rattle.link_laws.proofs.ArmsInTime.{HasSender}
use Rattle.link_laws.proofs.ReleaseComes.{ReleasesSoon, clean-later, inside-later, releases-soon}
use Rattle.link_laws.proofs.Earlier.{clean-earlier}
use Rattle.link_laws.proofs.FoundIn.{delivered-in, entered-later}

-- ---- numbers

-- five periods after its release a session has given a frame: opt the octets of a tick, x those
-- that come before the data
first-left : (p : Params) (b r late : ℕ) → broken_law p ≡ None → b + late ≡ r
    → first_entry p b + late * octets_per_tick p + (0 + 1) * p.f
    ≤ (r + 5 * period p + 1) * octets_per_tick p
first-left p b r late legal sum =
    let sizes = legal_sizes p legal in
    let small = sizes.f in
    let least = sizes.period_low in
    elim (cases_Bool (is_b p.mode)) [
      | inl m ↦
          let opt : octets_per_tick p ≡ 1 = cond-true (is_b p.mode) 1 8 m in
          let x : (if is_b p.mode then 4 * period p else 0) ≡ 4 * period p =
          cond-true (is_b p.mode) (4 * period p) 0 m in
          let room = rooms p legal m in
          let is : period p ≡ p.f * p.k = cond-true (is_b p.mode) (p.f * p.k) (32 * p.e) m in
          let whole : p.f * 1 ≤ p.f * p.k = mul-le-mul_left p.f room.k_low in
          let one : octets_per_tick p * b ≡ 1 * b = ap (λ (n : ℕ). n * b) opt in
          let two : late * octets_per_tick p ≡ late * 1 = ap (λ (n : ℕ). late * n) opt in
          let three : (r + 5 * period p + 1) * octets_per_tick p ≡ (r + 5 * period p + 1) * 1 =
          ap (λ (n : ℕ). (r + 5 * period p + 1) * n) opt in
          omega arith
      | inr m ↦
          let opt : octets_per_tick p ≡ 8 = cond-false (is_b p.mode) 1 8 m in
          let x : (if is_b p.mode then 4 * period p else 0) ≡ 0 =
          cond-false (is_b p.mode) (4 * period p) 0 m in
          let one : octets_per_tick p * b ≡ 8 * b = ap (λ (n : ℕ). n * b) opt in
          let two : late * octets_per_tick p ≡ late * 8 = ap (λ (n : ℕ). late * n) opt in
          let three : (r + 5 * period p + 1) * octets_per_tick p ≡ (r + 5 * period p + 1) * 8 =
          ap (λ (n : ℕ). (r + 5 * period p + 1) * n) opt in
          omega arith
    ]

-- its first frame has begun before
first-begun : (p : Params) (o late f end : ℕ) → 0 < f → o + late + (0 + 1) * f ≤ end → o < end
first-begun p o late f end some left = omega arith

entry-after : (p : Params) (h b : ℕ) → h < b → (h + 1) * octets_per_tick p ≤ first_entry p b
entry-after p h b late =
    let turn : (h + 1) * octets_per_tick p ≡ octets_per_tick p * (h + 1) = omega arith in
    let m : octets_per_tick p * (h + 1) ≤ octets_per_tick p * b =
    mul-le-mul_left (octets_per_tick p) (let q : h + 1 ≤ b = omega arith in q) in
    omega arith

pub no-hunt-here : (t : ℕ) (r d : Bool) → 0 < t → r ≡ false → d ≡ false
    → ((t == 0) || r || d) ≡ false
no-hunt-here t r d above none calm = rw (ne_eqb t 0 (λ z. omega arith), none, calm) refl

first-tick-low : (kind : LaneKind) (s : Plan) (h : ℕ) → h ≤ first_tick kind s h
first-tick-low kind s h = elim (cases_Bool (decides_hunt kind s h)) [
  | inl y ↦ rw y (omega arith)
  | inr n ↦ rw n (omega arith)
]

first-tick-high : (kind : LaneKind) (s : Plan) (h : ℕ) → first_tick kind s h ≤ h + 1
first-tick-high kind s h = elim (cases_Bool (decides_hunt kind s h)) [
  | inl y ↦ rw y (omega arith)
  | inr n ↦ rw n (omega arith)
]

-- what comes in a later session comes after the first tick of an earlier one
first-since : (kind : LaneKind) (s : Plan) (h i x : ℕ) → h ≤ i → first_tick kind s i ≤ x
    → first_tick kind s h ≤ x
first-since kind s h i x low up = elim (cases_lt h i) [
  | inl later ↦
      let high = first-tick-high kind s h in
      let least = first-tick-low kind s i in
      omega arith
  | inr same ↦ let e : h ≡ i = omega arith in rw e up
]

module _ (kind : LaneKind) (pattern : Pattern) (s : Plan) (latent : Latency kind pattern s)
    (read : IsPlanRead s) (laws : LaneLaws kind pattern s) (h : ℕ)
    (begins : hunts_at kind s h ≡ true) (in_run : h + bound s.link.params s.link.timing < s.ticks)
    (within : Inside s h)
    (clean : Clean s h (h + bound s.link.params s.link.timing))
    (met : (t : ℕ) → h ≤ t → t ≤ h + bound s.link.params s.link.timing → Met s t)
    (lone : (t : ℕ) → InSession kind s h t → t ≤ h + bound s.link.params s.link.timing
    → HasSender s t → Lone kind pattern s h t)
    (sender : LaneSender kind s) where
  abbrev end : ℕ
  end = h + bound s.link.params s.link.timing

  k : ReleasesSoon kind s h end
  k = releases-soon kind pattern s read laws h begins in_run within clean met lone sender

  -- the transmitter has a phase from the release on, with 64b/66b lanes
  has-sender : (t : ℕ) → k.tick ≤ t → t ≤ end → HasSender s t
  has-sender t low up c =
      let session = k.session in
      let above = session.above in
      let after = k.after in
      let clear = clean.untouched in
      let y = k.sent c in
      phase-stays s Tx k.tick t y.0 (has-edges s read) low
      (λ i x z. reset-none s Tx i (clear.no_event i (omega arith) (omega arith))) y.1

  lone-there : (t : ℕ) → InSession kind s k.hunt t → k.tick ≤ t → t ≤ end
      → Lone kind pattern s k.hunt t
  lone-there t session low up = elim (k.of_session) [
    | inl b ↦ λ c. let bad : true ≡ false = sym b ∙ c in absurd (cc)
    | inr same ↦ subst (λ (x : ℕ). Lone kind pattern s x t) (sym same)
        (lone t (subst (λ (x : ℕ). InSession kind s x t) same session) up (has-sender t low up))
  ]

  whole : (t : ℕ) → t ≤ end → Undamaged s k.hunt t
  whole t up = let low = k.after in
      inl (clean-earlier s k.hunt end t up (clean-later s h k.hunt end low clean))

  -- Latency at a tick of the release's session
  latent-at : (t : ℕ) → InSession kind s k.hunt t → k.tick ≤ t → t ≤ end
      → KeepsLatency kind s k.hunt k.tick t
  latent-at t session low up =
      let after = k.after in
      let above = session.above in
      latent k.hunt k.tick t session k.from low k.releases (met t (omega arith) up)
      (inside-later s h t end (omega arith) up clean within) (lone-there t session low up)
      (whole t up)

  -- the session goes on
  goes-on : (j : ℕ) → k.tick + j ≤ end → InSession kind s k.hunt (k.tick + j)
  goes-on zero up = let same : k.tick ≡ k.tick + 0 = omega arith in
      subst (InSession kind s k.hunt) same k.session
  goes-on (suc j) up =
      let t : ℕ = k.tick + j in
      let next : suc t ≡ k.tick + suc j = omega arith in
      let session = goes-on j (omega arith) in
      let above = session.above in
      let after = k.after in
      let clear = clean.untouched in
      let calm = (latent-at t session (omega arith) (omega arith)).no_hunt t (omega arith)
      (omega arith) in
      let none = no-hunt-here t (is_reset s Rx t) (decides_hunt kind s t) (omega arith)
      (reset-none s Rx t (clear.no_event t (omega arith) (omega arith))) calm in
      subst (InSession kind s k.hunt) next (record {
        begins = session.begins;
        above = omega arith;
        in_run = omega arith;
        alone = λ i low below. elim (cases_lt i t) [
          | inl early ↦ session.alone i low early
          | inr here ↦ let same : i ≡ t = omega arith in ap (hunts_at kind s) same ∙ none
        ];
      })

  -- the first frame of that session
  pub has-delivered : HasDelivered kind s h end
  has-delivered =
      let p = s.link.params in
      let timing = s.link.timing in
      let room = k.room in
      let after = k.after in
      let sizes = legal_sizes p read.laws in
      let some = sizes.f_low in
      let r : ℕ = k.tick in
      let t : ℕ = r + 5 * period p in
      let session = goes-on (5 * period p) room in
      let law = latent-at t session (omega arith) room in
      let b : ℕ = law.b in
      let sum = law.late in
      let at_end : r ≤ r = omega arith in
      let in_session = k.session in
      let above = in_session.above in
      let up : r ≤ end = omega arith in
      let late = is-late kind pattern s read laws k.hunt r r in_session (met r (omega arith) up)
      (lone-there r in_session at_end up) (whole r up) k.from at_end k.releases
      0 (let l = sizes.l_low in omega arith) in
      let sent_late = late.late_by in
      let sent_after = late.in_session in
      let o : ℕ = first_entry p b in
      let left : HasLeft s t o 0 = first-left p b r (lat_ticks p timing) read.laws sum in
      let entered : HasEntered kind s k.hunt t o =
      law.enters (first-begun p o (latency p timing) p.f ((t + 1) * octets_per_tick p)
      (omega arith) left) in
      let frame : IsOnTime kind s k.hunt t o entered.n 0 = entered.frames 0 left in
      let found = delivered-in kind s k.hunt t 0 frame.frame frame.delivered in
      let by = found.by in
      let none_more : o + 0 * p.f ≡ o = omega arith in
      record {
        tick = found.tick;
        since = first-since kind s h k.hunt found.tick after found.since;
        by = omega arith;
        k = found.number;
        frame = frame.frame;
        delivered = found.is;
        n = entered.n + 0;
        entry = o + 0 * p.f;
        entered = entered-later kind s t end (entered.n + 0) (o + 0 * p.f) room frame.entered;
        after = (let low = entry-after p h b (omega arith) in omega arith);
        left = frame.left;
        words = frame.words;
      }
