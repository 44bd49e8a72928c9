-- From a hunt on an undisturbed link releases in time: in that hunt's session or, with 8b/10b
-- lanes, in one that follows a timeout.
use Rattle.std.proofs.Common.{◌≡◌, ℕ, zero, suc, ◌+◌, ◌*◌, ◌<◌, ◌≤◌, ◌⊎◌, true, false, Some, inl, inr, refl, sym, ◌∙◌, arith}
use Rattle.std.proofs.lemmas.Bool.{cases_Bool, cases_lt, cond-true, cond-false}
use Rattle.link_params.specs.declared.alarms.Device.{Device}
use Rattle.link_params.specs.declared.alarms.Device.TheVariants.{Tx, Rx}
use Rattle.link_params.specs.Laws.{is_b}
use Rattle.link_params.specs.Lanes.{LaneKind}
use Rattle.link_params.specs.Numbers.{bound, period}
use Rattle.bring_up.specs.declared.stage.Decision.TheVariants as decision
use Rattle.scenario.specs.Plans.{Plan}
use Rattle.link_model.specs.Edges.{is_reset, phase}
use Rattle.link_model.specs.Sessions.{InSession, first_tick, hunts_at}
use Rattle.link_laws.specs.Premises.{Clean, Inside, Lone, Met, Pattern, Untouched}
use Rattle.link_laws.specs.LaneLaws.{LaneLaws, LaneSender, lock_ticks}
use Rattle.link_laws.specs.Laws.{IsPlanRead}
use Rattle.link_laws.proofs.PlanRead.{arrival-same, numbers, reset-none}
use Rattle.link_laws.proofs.PhaseComes.{phase-comes, phase_ticks}
use Rattle.link_laws.proofs.Stages.{decision_at}
use Rattle.link_laws.proofs.ArmsInTime.{HasSender}
use Rattle.link_laws.proofs.SessionEnds.{session-ends}

-- ---- what holds after h holds after a later tick

untouched-later : (s : Plan) (h k t : ℕ) → h ≤ k → Untouched s h t → Untouched s k t
untouched-later s h k t low c =
    record {
      no_event = λ x up down. c.no_event x (omega arith) down;
      alive =
          λ x up down. c.alive x (omega arith) down;
    }

pub clean-later : (s : Plan) (h k t : ℕ) → h ≤ k → Clean s h t → Clean s k t
clean-later s h k t low c = record {
  set_as_wired = c.set_as_wired;
  untouched = untouched-later s h k t low c.untouched;
  upright = λ lane i comes. c.upright lane i (let q = comes.0 in omega arith, comes.1);
}

pub inside-later : (s : Plan) (h k t : ℕ) → h ≤ k → k ≤ t → Clean s h t → Inside s h → Inside s k
inside-later s h k t low up c within lane below =
    let clear = c.untouched in
    let same = arrival-same s lane h k low (λ x a b. clear.no_event x a (omega arith)) in
    let w = within lane below in
    let least = w.0 in
    let most = w.1 in
    (omega arith, omega arith)

-- a release, in the session of a hunt from h on
pub record ReleasesSoon (kind : LaneKind) (s : Plan) (h end : ℕ) : Type 0 where
  pub hunt : ℕ
  pub after : h ≤ hunt
  pub of_session : (is_b s.link.params.mode ≡ true) ⊎ (hunt ≡ h)
  pub tick : ℕ
  pub session : InSession kind s hunt tick
  pub from : first_tick kind s hunt ≤ tick
  pub releases : decision_at kind s tick ≡ decision.Release
  pub sent : HasSender s tick
  pub room : tick + 5 * period s.link.params ≤ end

module _ (kind : LaneKind) (pattern : Pattern) (s : Plan) (read : IsPlanRead s)
    (laws : LaneLaws kind pattern s) (h : ℕ)
    (begins : hunts_at kind s h ≡ true) (in_run : h + bound s.link.params s.link.timing < s.ticks)
    (within : Inside s h)
    (clean : Clean s h (h + bound s.link.params s.link.timing))
    (met : (t : ℕ) → h ≤ t → t ≤ h + bound s.link.params s.link.timing → Met s t)
    (lone : (t : ℕ) → InSession kind s h t → t ≤ h + bound s.link.params s.link.timing
    → HasSender s t → Lone kind pattern s h t)
    (sender : LaneSender kind s) where
  abbrev end : ℕ
  end = h + bound s.link.params s.link.timing

  quiet : (d : Device) (i : ℕ) → h < i → i ≤ end → is_reset s d i ≡ false
  quiet d i low up = reset-none s d i (clean.untouched.no_event i low up)

  has-phase : (d : Device) (u : ℕ) → h + phase_ticks s ≤ u → u ≤ end
      → (y : ℕ) × (phase s d u ≡ Some y)
  has-phase d u late up = phase-comes s d h u read (λ i low to. quiet d i low (omega arith)) late

  -- with 8b/10b lanes: from each hunt that begins before a timeout can come no more
  from-hunt : (n k : ℕ) → h ≤ k → hunts_at kind s k ≡ true → is_b s.link.params.mode ≡ true
      → k < h + phase_ticks s + 8 * period s.link.params
      → h + phase_ticks s + 8 * period s.link.params ≤ k + n → ReleasesSoon kind s h end
  from-hunt zero k low hunts mode early fuel = absurd (omega arith)
  from-hunt (suc n) k low hunts mode early fuel =
      let p : ℕ = period s.link.params in
      let m = numbers s read in
      let some = m.some in
      let lock : lock_ticks s.link ≡ 4 * p = cond-true (is_b s.link.params.mode) (4 * p)
      (s.link.timing.sysref_period + 8 * p + 256) mode in
      let a : (a : ℕ) × (k < a) × (h + phase_ticks s ≤ a) × (a ≤ h + phase_ticks s + 8 * p) =
      elim (cases_lt k (h + phase_ticks s)) [
        | inl before ↦ (h + phase_ticks s, before, omega arith, omega arith)
        | inr past ↦ (suc k, omega arith, omega arith, omega arith)
      ] in
      let above = a.1 in
      let late = a.2 in
      let soon = a.3 in
      let y = has-phase Rx a.0 late (omega arith) in
      elim
      (session-ends kind pattern s read laws k end hunts in_run
      (inside-later s h k end low (omega arith) clean within) (clean-later s h k end low clean)
      (λ t from to. met t (omega arith) to) (λ t session to sent c. let bad : true ≡ false =
      sym mode ∙ c in absurd (cc)) sender
      a.0 y.0 (a.0 + 4 * p) (h + phase_ticks s) above y.1 (omega arith) (omega arith) (omega arith)
      (has-phase Tx) (omega arith)) [
        | inl r ↦
            let by = r.by in
            record {
              hunt = k;
              after = low;
              of_session = inl mode;
              tick = r.tick;
              session =
                  r.session;
              from = r.from;
              releases = r.releases;
              sent = r.sent;
              room = omega arith;
            }
        | inr next ↦
            let over = next.above in
            from-hunt n next.tick (omega arith) next.hunts mode next.below (omega arith)
      ]

  pub releases-soon : ReleasesSoon kind s h end
  releases-soon =
      let p : ℕ = period s.link.params in
      let m = numbers s read in
      let some = m.some in
      elim (cases_Bool (is_b s.link.params.mode)) [
        | inl b ↦ from-hunt (phase_ticks s + 8 * p) h (omega arith) begins b (omega arith)
            (omega arith)
        | inr c ↦
            let lock : lock_ticks s.link ≡ s.link.timing.sysref_period + 8 * p + 256 =
            cond-false (is_b s.link.params.mode) (4 * p)
            (s.link.timing.sysref_period + 8 * p + 256) c in
            let y = has-phase Rx (h + phase_ticks s) (omega arith) (omega arith) in
            elim
            (session-ends kind pattern s read laws h end begins in_run within clean met lone
            sender
            (h + phase_ticks s) y.0 (h + lock_ticks s.link) (h + phase_ticks s) (omega arith) y.1
            (omega arith) (omega arith) (omega arith) (has-phase Tx) (omega arith)) [
              | inl r ↦
                  let by = r.by in
                  record {
                    hunt = h;
                    after = omega arith;
                    of_session = inr refl;
                    tick =
                        r.tick;
                    session = r.session;
                    from = r.from;
                    releases = r.releases;
                    sent =
                        r.sent;
                    room = omega arith;
                  }
              | inr next ↦ let bad : true ≡ false = sym next.mode ∙ c in absurd (cc)
            ]
      ]
