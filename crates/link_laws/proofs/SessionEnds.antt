-- A session releases in time, or a timeout ends it whose arming came before the transmitter had a
-- phase.
use Rattle.std.proofs.Common.{◌≡◌, ℕ, zero, suc, ◌+◌, ◌-◌, ◌*◌, ◌<◌, ◌≤◌, ◌==◌, ◌⊎◌, ◌||◌, Bool, true, false, Option, Some, None, inl, inr, refl, sym, ap, ◌∙◌, arith}
use Rattle.std.proofs.lemmas.Bool.{cases_Bool, cases_lt, ne_eqb}
use Rattle.link_params.specs.declared.alarms.Device.TheVariants.{Tx, Rx}
use Rattle.link_params.specs.Laws.{is_b}
use Rattle.link_params.specs.Lanes.{LaneKind}
use Rattle.link_params.specs.Numbers.{period}
use Rattle.link_params.proofs.LawFacts.{legal_sizes}
use Rattle.bring_up.specs.declared.stage.Stage.{Stage}
use Rattle.bring_up.specs.declared.stage.Stage.TheVariants as stage
use Rattle.bring_up.specs.declared.stage.Decision.{Decision}
use Rattle.bring_up.specs.declared.stage.Decision.TheVariants as decision
use Rattle.scenario.specs.Plans.{Plan}
use Rattle.link_model.specs.Edges.{is_reset, phase}
use Rattle.link_model.specs.Hunts.{is_hunt}
use Rattle.link_model.specs.Sessions.{InSession, at, decides_hunt, first_tick, hunts_at}
use Rattle.link_laws.specs.Premises.{Clean, Inside, Lone, Met, Pattern, Undamaged}
use Rattle.link_laws.specs.LaneLaws.{LaneLaws, LaneSender, lock_ticks}
use Rattle.link_laws.specs.Laws.{IsPlanRead}
use Rattle.link_laws.proofs.PlanRead.{has-edges, numbers, reset-none}
use Rattle.link_laws.proofs.Phases.{phase-stays}
use Rattle.link_laws.proofs.Stages.{before, decision_at, hunt-step, released-waits, undecided}
use Rattle.link_laws.proofs.SessionStages.{ArmedSince, Goes, arm-late, armed-since, begins-hunting, first-high, first-low, runs-since}
use Rattle.link_laws.proofs.ReleaseTick.{goes}
use Rattle.link_laws.proofs.Earlier.{clean-earlier, session-earlier}
use Rattle.link_laws.proofs.Timeouts.{arming, eighth-late, waits-short}
use Rattle.link_laws.proofs.WaitDecisions.{hunts-eighth, one-arming, releases-started, started-by}
use Rattle.link_laws.proofs.FirstSent.{sent-soon}
use Rattle.link_laws.proofs.ArmsInTime.{HasSender, armed-to-sender, not-hunting}

cases-stage : (k : Stage) → (k ≡ stage.Hunt) ⊎ ((k ≡ stage.Wait) ⊎ (k ≡ stage.Run))
cases-stage stage.Hunt = inl refl
cases-stage stage.Wait = inr (inl refl)
cases-stage stage.Run = inr (inr refl)

cases-some : (o : Option ℕ) → ((x : ℕ) × (o ≡ Some x)) ⊎ (o ≡ None)
cases-some (Some x) = inl (x, refl)
cases-some None = inr refl

is-hunt : (d : Decision) → is_hunt d ≡ true → d ≡ decision.Hunt
is-hunt decision.Hunt e = refl
is-hunt decision.Stay e = let bad : false ≡ true = e in absurd (cc)
is-hunt decision.Arm e = let bad : false ≡ true = e in absurd (cc)
is-hunt decision.Release e = let bad : false ≡ true = e in absurd (cc)

-- a hunt above tick 0 without a reset is one by a decision
decided-hunt : (t : ℕ) (r d : Bool) → 0 < t → r ≡ false → ((t == 0) || r || d) ≡ true → d ≡ true
decided-hunt t r d above none all = sym (rw (ne_eqb t 0 (λ z. omega arith), none) refl) ∙ all

module _ (kind : LaneKind) (pattern : Pattern) (s : Plan) (read : IsPlanRead s)
    (laws : LaneLaws kind pattern s) (h end : ℕ)
    (begins : hunts_at kind s h ≡ true) (in_run : end < s.ticks) (within : Inside s h)
    (clean : Clean s h end)
    (met : (t : ℕ) → h ≤ t → t ≤ end → Met s t) (lone : (t : ℕ) → InSession kind s h t → t ≤ end
    → HasSender s t → Lone kind pattern s h t)
    (sender : LaneSender kind s) where
  whole : (t : ℕ) → t ≤ end → Undamaged s h t
  whole t up = inl (clean-earlier s h end t up clean)

  on : (t : ℕ) → InSession kind s h t → t ≤ end → Goes kind s h t
  on t session up = goes kind s h t session (whole t up)

  from-first : (t : ℕ) → InSession kind s h t → t ≤ end → first_tick kind s h ≤ t
  from-first t session up = let high = first-high kind s h t (on t session up) in
      let above = session.above in omega arith

  -- ---- the next hunt

  record HuntsNext (t : ℕ) : Type 0 where
    tick : ℕ
    session : InSession kind s h tick
    below : tick < t
    hunts : hunts_at kind s tick ≡ true

  next-hunt : (n : ℕ) → suc (h + n) ≤ end → InSession kind s h (suc (h + n))
      ⊎ HuntsNext (suc (h + n))
  next-hunt zero up =
      inl
      (record {
        begins = begins;
        above = omega arith;
        in_run = omega arith;
        alone =
            λ i low below. absurd (omega arith);
      })
  next-hunt (suc n) up =
      let t : ℕ = suc (h + n) in
      let next : suc (h + suc n) ≡ suc t = omega arith in
      elim (next-hunt n (omega arith)) [
        | inr k ↦ let below = k.below in
            inr
            (record { tick = k.tick; session = k.session; below = omega arith; hunts = k.hunts })
        | inl session ↦ elim (cases_Bool (hunts_at kind s t)) [
          | inl e ↦ inr (record { tick = t; session = session; below = omega arith; hunts = e })
          | inr e ↦ inl (record {
            begins = begins;
            above = omega arith;
            in_run = omega arith;
            alone = λ i low below. elim (cases_lt i t) [
              | inl early ↦ session.alone i low early
              | inr here ↦ let same : i ≡ t = omega arith in ap (hunts_at kind s) same ∙ e
            ];
          })
        ]
      ]

  -- ---- a release

  pub record ReleasesBy (t : ℕ) : Type 0 where
    pub tick : ℕ
    pub session : InSession kind s h tick
    pub from : first_tick kind s h ≤ tick
    pub by : tick ≤ t
    pub releases : decision_at kind s tick ≡ decision.Release
    pub sent : HasSender s tick

  -- from the arming on the transmitter has a phase, with 64b/66b lanes
  sender-at : (t u v : ℕ) → InSession kind s h t → t ≤ end
      → (a : ArmedSince kind s (first_tick kind s h) u) → a.tick ≤ v → u ≤ t → v ≤ t → HasSender s v
  sender-at t u v session up a from below to c =
      let n = numbers s read in
      let some = n.some in
      let g = on t session up in
      let low = first-low kind s h t g in
      let a_from = a.from in
      let a_below = a.below in
      let clear = clean.untouched in
      let late = arm-late kind s h t g a.tick (has-edges s read) a.from (omega arith) a.hunts
      a.arms in
      let y = armed-to-sender kind pattern s read laws.lock h end clean lone sender
      (first_tick kind s h) u a
      (session-earlier kind s h t a.tick (omega arith) (omega arith) session) (omega arith) c in
      phase-stays s Tx a.tick v y.0 (has-edges s read) from
      (λ i x z. reset-none s Tx i (clear.no_event i (omega arith) (omega arith))) y.1

  released-by : (t : ℕ) → InSession kind s h t → t ≤ end → before kind s t ≡ stage.Run
      → ReleasesBy t
  released-by t session up runs =
      let g = on t session up in
      let k = runs-since kind s h t g t (from-first t session up) (omega arith) runs in
      let below = k.below in
      let from = k.from in
      let low = first-low kind s h t g in
      let above : h < k.tick = elim (cases_lt h k.tick) [
        | inl a ↦ a
        | inr here ↦
            let same : k.tick ≡ first_tick kind s h = omega arith in
            let waits = released-waits kind s k.tick k.releases in
            let hunts = ap (before kind s) same ∙ begins-hunting kind s h t g in
            absurd (cc)
      ] in
      let waits = released-waits kind s k.tick k.releases in
      let a = armed-since kind s h t g k.tick from (omega arith) waits in
      let armed_below = a.below in
      record {
        tick = k.tick;
        session = session-earlier kind s h t k.tick above (omega arith) session;
        from = from;
        by = omega arith;
        releases = k.releases;
        sent = sender-at t k.tick k.tick session up a (omega arith) (omega arith) (omega arith);
      }

  -- a receiver that waits hunts for a timeout only where the transmitter had no phase when the
  -- lanes were armed
  hunts-unsent : (t y : ℕ) → InSession kind s h t → t ≤ end → before kind s t ≡ stage.Wait
      → decision_at kind s t ≡ decision.Hunt → (a : ArmedSince kind s (first_tick kind s h) t)
      → phase s Tx a.tick ≡ Some y → ⊥
  hunts-unsent t y session up waits hunts a is =
      let p = s.link.params in
      let n = numbers s read in
      let late_part = n.late in
      let near_part = n.near in
      let window = n.window in
      let high_part = n.high in
      let small = n.small_wait in
      let g = on t session up in
      let from = from-first t session up in
      let low = first-low kind s h t g in
      let a_from = a.from in
      let a_below = a.below in
      let clear = clean.untouched in
      let sizes = legal_sizes p read.laws in
      let some : 0 < p.l = (let k = sizes.l_low in omega arith) in
      let decides : (at kind s t).decides ≡ true = elim (cases_Bool (at kind s t).decides) [
        | inl e ↦ e
        | inr e ↦ let stays = undecided kind s t e in absurd (cc)
      ] in
      let l : Lone kind pattern s h t =
      lone t session up (λ c. phase-stays s Tx a.tick t y (has-edges s read) (omega arith)
      (λ i x z. reset-none s Tx i (clear.no_event i (omega arith) (omega arith))) is) in
      let m : Met s t = met t (omega arith) up in
      let eight = hunts-eighth kind pattern s read laws h t session m l (whole t up) within waits
      decides hunts in
      let at_end : t ≤ t = omega arith in
      let far = eighth-late kind s h t g t from at_end waits read eight in
      let one = one-arming kind s (first_tick kind s h) t a
      (arming kind s h t g t from at_end waits) in
      let late = arm-late kind s h t g a.tick (has-edges s read) a.from (omega arith) a.hunts
      a.arms in
      let q = sent-soon kind s (first_tick kind s h) t y read a late
      (λ i x z. reset-none s Rx i (clear.no_event i (omega arith) (omega arith)))
      (λ i x z. reset-none s Tx i (clear.no_event i (omega arith) (omega arith))) is
      (omega arith) in
      let soon = q.soon in
      let started = started-by kind pattern s read laws h t session m l (whole t up) within waits
      decides a q.tick q.after q.first_place (omega arith) 0 some in
      let releases = releases-started kind pattern s read laws h t session m l (whole t up) within
      waits decides 0 started.0 some started.1 in
      absurd (cc)

  -- ---- the end of the session

  -- a timeout ends the session; by tick x the transmitter has a phase
  pub record TimesOut (x : ℕ) : Type 0 where
    pub tick : ℕ
    pub above : h < tick
    pub below : tick < x + 8 * period s.link.params
    pub hunts : hunts_at kind s tick ≡ true
    pub mode : is_b s.link.params.mode ≡ true

  times-out : (t x : ℕ) → InSession kind s h t → t ≤ end → before kind s t ≡ stage.Wait
      → decision_at kind s t ≡ decision.Hunt → hunts_at kind s t ≡ true
      → ((u : ℕ) → x ≤ u → u ≤ end → (y : ℕ) × (phase s Tx u ≡ Some y)) → TimesOut x
  times-out t x session up waits hunts here sent =
      let g = on t session up in
      let from = from-first t session up in
      let at_end : t ≤ t = omega arith in
      let a = arming kind s h t g t from at_end waits in
      let short = waits-short kind s h t g t from at_end waits read in
      let below = a.below in
      let a_from = a.from in
      let low = first-low kind s h t g in
      let none : phase s Tx a.tick ≡ None = elim (cases-some (phase s Tx a.tick)) [
        | inr none ↦ none
        | inl k ↦ absurd (hunts-unsent t k.0 session up waits hunts a k.1)
      ] in
      let early : a.tick < x = elim (cases_lt a.tick x) [
        | inl e ↦ e
        | inr late ↦ let k = sent a.tick late (omega arith) in let is = k.1 in absurd (cc)
      ] in
      record {
        tick = t;
        above = session.above;
        below = omega arith;
        hunts = here;
        mode = elim (cases_Bool (is_b s.link.params.mode)) [
          | inl b ↦ b
          | inr c ↦
              let y = sender-at t t a.tick session up a (omega arith) at_end (omega arith) c in
              let is = y.1 in
              absurd (cc)
        ];
      }

  pub session-ends : (a y t0 x : ℕ) → h < a → phase s Rx a ≡ Some y
      → a + 4 * period s.link.params ≤ t0 → h + lock_ticks s.link ≤ t0 → x ≤ t0
      → ((u : ℕ) → x ≤ u → u ≤ end → (y : ℕ) × (phase s Tx u ≡ Some y))
      → t0 + 9 * period s.link.params + 1 ≤ end
      → ReleasesBy (t0 + 9 * period s.link.params + 1) ⊎ TimesOut x
  session-ends a y t0 x above is four late soon sent room =
      let has : (u : ℕ) → t0 ≤ u → u ≤ end → HasSender s u =
      λ u low to c. sent u (omega arith) to in
      let p : ℕ = period s.link.params in
      let last : ℕ = t0 + 9 * p + 1 in
      let same : suc (h + (last - h - 1)) ≡ last = omega arith in
      elim (next-hunt (last - h - 1) (omega arith)) [
        | inl session ↦
            let t : ℕ = suc (h + (last - h - 1)) in
            let up : t ≤ end = omega arith in
            let n = numbers s read in
            let some = n.some in
            let g = on t session up in
            let from = from-first t session up in
            elim (cases-stage (before kind s t)) [
              | inl k ↦
                  absurd
                  (not-hunting kind pattern s read laws.lock h end clean lone a y t0 t session up
                  above is four late has (omega arith) k)
              | inr more ↦ elim more [
                | inr k ↦ let r = released-by t session up k in
                    let by = r.by in
                    inl
                    (record {
                      tick = r.tick;
                      session = r.session;
                      from = r.from;
                      by =
                          omega arith;
                      releases = r.releases;
                      sent = r.sent;
                    })
                | inl k ↦
                    let at_end : t ≤ t = omega arith in
                    let w = arming kind s h t g t from at_end k in
                    let short = waits-short kind s h t g t from at_end k read in
                    let below = w.below in
                    absurd (not-hunting kind pattern s read laws.lock h end clean lone a y t0 w.tick
                    (session-earlier kind s h t w.tick (omega arith) (omega arith) session)
                    (omega arith) above is four late has (omega arith) w.hunts)
              ]
            ]
        | inr next ↦
            let t : ℕ = next.tick in
            let session = next.session in
            let below = next.below in
            let up : t ≤ end = omega arith in
            let over = session.above in
            let clear = clean.untouched in
            let decides = decided-hunt t (is_reset s Rx t) (decides_hunt kind s t) (omega arith)
            (reset-none s Rx t (clear.no_event t over up)) next.hunts in
            let hunts = is-hunt (decision_at kind s t) decides in
            elim (cases-stage (before kind s t)) [
              | inl k ↦ elim (hunt-step kind s t k) [
                | inl c ↦ let no = c.0 in absurd (cc)
                | inr c ↦
                    let no = c.0 in absurd (cc)
              ]
              | inr more ↦ elim more [
                | inr k ↦ let r = released-by t session up k in
                    let by = r.by in
                    inl
                    (record {
                      tick = r.tick;
                      session = r.session;
                      from = r.from;
                      by =
                          omega arith;
                      releases = r.releases;
                      sent = r.sent;
                    })
                | inl k ↦ inr (times-out t x session up k hunts next.hunts sent)
              ]
            ]
      ]
