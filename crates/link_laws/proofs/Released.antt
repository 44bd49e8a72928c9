-- What a release says of each lane: one tick b, LAT ticks before it, sent what started them all,
-- and entry j carries what tick b + j sent.
use Rattle.std.proofs.Common.{◌≡◌, ℕ, suc, ◌+◌, ◌-◌, ◌*◌, ◌<◌, ◌≤◌, ◌%◌, not, nat_lt, if◌then◌else◌, true, false, Some, None, inl, inr, refl, sym, subst, ap, ◌∙◌, arith}
use Rattle.std.proofs.lemmas.Bool.{cases_lt, cond-true}
use Rattle.link_params.specs.declared.alarms.Device.TheVariants.{Tx}
use Rattle.link_params.specs.Lanes.{LaneKind, is_inside}
use Rattle.link_params.specs.Laws.{is_b}
use Rattle.link_params.specs.Numbers.{lat_ticks, period}
use Rattle.link_params.proofs.LawFacts.{legal_sizes}
use Rattle.bring_up.specs.declared.stage.Stage.{Stage}
use Rattle.bring_up.specs.declared.stage.Stage.TheVariants as stage
use Rattle.bring_up.specs.declared.stage.Decision.TheVariants as decision
use Rattle.bring_up.specs.Decisions.{is_hunting}
use Rattle.scenario.specs.Plans.{Plan}
use Rattle.link_model.specs.Sends.{data_place, observed_at}
use Rattle.link_model.specs.Run.{run}
use Rattle.link_model.proofs.DecisionCases.{IsStartedInside}
use Rattle.link_model.specs.Sessions.{InSession, at, first_tick, is_armed, report_at}
use Rattle.link_laws.specs.Premises.{Lone, Met, Pattern, Undamaged}
use Rattle.link_laws.specs.LaneLaws.{HasStarted, IsEntryOf, LaneLaws, due_after, is_first_place}
use Rattle.link_laws.specs.Laws.{IsPlanRead}
use Rattle.link_laws.proofs.RunTicks.{armed-at}
use Rattle.link_laws.proofs.PlanRead.{has-edges, numbers, reset-none}
use Rattle.link_laws.proofs.Stages.{before, before-suc, decision_at, released-in, released-waits}
use Rattle.link_laws.proofs.SessionStages.{ArmedSince, Goes, first-low, hunted, idle-between, runs-on}
use Rattle.link_laws.proofs.ReleaseTick.{arming, goes, inside-parts, late, length-reports, offset-is, offset-shown, releases-late, sent-late, starts-lane, untouched}
use Rattle.link_laws.proofs.OrdersGo.{ilas_ticks, low-late, first-high, places-go}

module _ (kind : LaneKind) (pattern : Pattern) (s : Plan) (read : IsPlanRead s)
    (laws : LaneLaws kind pattern s) (h r t : ℕ)
    (session : InSession kind s h t) (met : Met s t) (lone : Lone kind pattern s h t)
    (whole : Undamaged s h t)
    (low : first_tick kind s h ≤ r) (up : r ≤ t)
    (releases : decision_at kind s r ≡ decision.Release) where
  g : Goes kind s h t
  g = goes kind s h t session whole

  waiting : before kind s r ≡ stage.Wait
  waiting = released-waits kind s r releases

  deciding : (at kind s r).decides ≡ true
  deciding = (released-in kind s r releases).decides

  idle : (u lane : ℕ) → first_tick kind s h ≤ u → u < r → before kind s u ≡ stage.Wait
      → before kind s (suc u) ≡ stage.Wait → (at kind s u).decides ≡ true
      → lane < s.link.params.l → (report_at kind s lane u).started ≡ None
  idle u lane from below waits later decides inside =
      let long = length-reports kind s u in
      idle-between kind s h t g u from (omega arith) waits later decides lane (omega arith)

  own : (lane : ℕ) → lane < s.link.params.l
      → IsStartedInside s.link.timing (report_at kind s lane r).started
  own lane below = (released-in kind s r releases).lanes lane (let long = length-reports kind s r in
      omega arith)

  -- what started a lane, and that it comes so many ticks before the release
  pub record IsLate (lane : ℕ) : Type 0 where
    pub sent : ℕ
    pub first : is_first_place (at kind s sent).order ≡ true
    pub armed : ArmedSince kind s (first_tick kind s h) r
    pub armed_late : first_tick kind s h + 3 * period s.link.params ≤ armed.tick
    pub in_session : h < sent
    pub after : is_b s.link.params.mode ≡ true → armed.tick < sent
    pub started : HasStarted kind s h lane t (sent + due_after s lane h)
    pub by : sent + due_after s lane h ≤ r
    pub inside : is_inside s.link.timing (at kind s (sent + due_after s lane h)).told.offset ≡ true
    pub late_by : sent + lat_ticks s.link.params s.link.timing ≡ r

  pub is-late : (lane : ℕ) → lane < s.link.params.l → IsLate lane
  is-late lane below =
      let o = own lane below in
      let x = starts-lane kind pattern s read laws.start h r t session met lone whole low up waiting
      deciding idle lane o.offset below o.is in
      let shown = offset-shown kind pattern s read laws.start h r t session met lone whole low up
      waiting deciding idle lane o.offset x o.is in
      let is = offset-is kind pattern s read laws.start h r t session met lone whole low up waiting
      deciding idle lane x in
      let parts = inside-parts s.link.timing o.offset o.inside in
      let low_part = parts.0 in
      let high_part = parts.1 in
      record {
        sent = x.sent;
        first = x.is.sent;
        armed = arming kind pattern s read laws.start h r t session met lone whole low up waiting
            deciding idle;
        armed_late = late kind pattern s read laws.start h r t session met lone whole low up waiting
            deciding idle;
        in_session = sent-late kind pattern s read laws.start h r t session met lone whole low up
            waiting deciding idle lane x;
        after = λ mode.
            let comes = x.is.comes in
            let none : (if is_b s.link.params.mode then 0 else due_after s lane h) ≡ 0 =
            cond-true (is_b s.link.params.mode) 0 (due_after s lane h) mode in
            omega arith;
        started = x.started;
        by = x.by;
        inside = ap (is_inside s.link.timing) (is ∙ sym shown) ∙ o.inside;
        late_by = releases-late kind pattern s read laws.start h r t session met lone whole low up
            waiting deciding idle lane below (omega arith) (omega arith) x;
      }

  pub some-lane : 0 < s.link.params.l
  some-lane = let l = (legal_sizes s.link.params read.laws).l_low in omega arith

  -- the tick from which the frames of the session entered
  pub begin_tick : ℕ
  begin_tick = (is-late 0 some-lane).sent

  pub begin-is : begin_tick ≡ (is-late 0 some-lane).sent
  unfolding begin_tick
  begin-is = refl

  pub begin-late : begin_tick + lat_ticks s.link.params s.link.timing ≡ r
  unfolding begin_tick
  begin-late = (is-late 0 some-lane).late_by

  pub begin-first : is_first_place (at kind s begin_tick).order ≡ true
  unfolding begin_tick
  begin-first = (is-late 0 some-lane).first

  one-tick : (lane : ℕ) (below : lane < s.link.params.l) → (is-late lane below).sent ≡ begin_tick
  one-tick lane below = let a = begin-late in let b = (is-late lane below).late_by in omega arith

  armed-now : is_armed kind s t ≡ true
  armed-now = elim (cases_lt r t) [
    | inl later ↦ armed-at kind s t ∙ ap (λ (k : Stage). not (is_hunting k))
        (runs-on kind s h t g r t low releases later (omega arith))
    | inr here ↦
        let same : t ≡ r = omega arith in
        ap (is_armed kind s) same ∙ armed-at kind s r
        ∙ ap (λ (k : Stage). not (is_hunting k)) waiting
  ]

  -- entry j of each lane carries what tick b + j sent
  pub entry-sent : (lane j : ℕ) → lane < s.link.params.l → j ≤ t - r
      → IsEntryOf kind s h lane t j (begin_tick + j)
  entry-sent lane j below inside =
      let x = is-late lane below in
      let law = laws.carried h lane t below session lone whole armed-now in
      let start : ℕ = x.sent + due_after s lane h in
      let by = x.by in
      let back : start + j - start ≡ j = omega arith in
      let one = one-tick lane below in
      let due : x.sent + j + due_after s lane h ≡ start + j = omega arith in
      let is = law.entries start (start + j) (x.sent + j) x.started x.inside (omega arith)
      (omega arith) due in
      subst (λ (k : ℕ). IsEntryOf kind s h lane t k (begin_tick + j)) back
      (subst (λ (q : ℕ). IsEntryOf kind s h lane t (start + j - start) (q + j)) one is)

  -- ---- 8b/10b lanes: the transmitter sees SYNC~ high from b on

  pub sees-high : is_b s.link.params.mode ≡ true → (q : ℕ) → begin_tick ≤ q → q ≤ t
      → (observed_at s (run kind s q) q).low ≡ false
  sees-high mode q from to =
      let x = is-late 0 some-lane in
      let n = numbers s read in
      let sync = n.sync_delay in
      let wide = n.some in
      let d : ℕ = s.link.timing.sync_delay + 1 in
      let armed = x.armed in
      let armed_late = x.armed_late in
      let armed_below = armed.below in
      let armed_from = armed.from in
      let after = x.after mode in
      let b_late = begin-late in
      let same = begin-is in
      let f = first-low kind s h t g in
      let high_b = first-high kind s begin_tick mode begin-first in
      -- b does not see the low levels of the hunt
      let enough : armed.tick + d ≤ begin_tick = elim (cases_lt begin_tick (armed.tick + d)) [
        | inr far ↦ far
        | inl near ↦
            let u : ℕ = begin_tick - d in
            let seen_b = low-late kind s begin_tick (omega arith) in
            let hunts = hunted kind s h t g armed.tick armed_from (omega arith) armed.hunts (suc u)
            (omega arith) (omega arith) in
            let level : (at kind s u).stage ≡ stage.Hunt =
            sym (before-suc kind s u (g.quiet (suc u) (omega arith) (omega arith))) ∙ hunts in
            let bad : true ≡ false = sym (ap is_hunting level) ∙ (sym seen_b ∙ high_b) in
            absurd (cc)
      ] in
      let v : ℕ = q - d in
      let on : before kind s (suc v) ≡ (at kind s v).stage =
      before-suc kind s v (g.quiet (suc v) (omega arith) (omega arith)) in
      let high : is_hunting (before kind s (suc v)) ≡ false = elim (cases_lt r (suc v)) [
        | inr early ↦ ap is_hunting (armed.waits (suc v) (omega arith) early)
        | inl later ↦
            ap is_hunting (runs-on kind s h t g r (suc v) low releases later (omega arith))
      ] in
      low-late kind s q (omega arith) ∙ ap is_hunting (sym on) ∙ high

  -- the places that follow b, up to t
  pub places : (j : ℕ) → begin_tick + j ≤ t
      → data_place (at kind s (begin_tick + j)).order
      ≡ (if nat_lt j (ilas_ticks s.link.params) then None else Some
      ((j - ilas_ticks s.link.params) % period s.link.params))
  places j inside =
      let clear = untouched s h t whole in
      let in_session = (is-late 0 some-lane).in_session in
      let same = begin-is in
      places-go kind s begin_tick t (has-edges s read) begin-first
      (λ x after at_most. reset-none s Tx x (clear.no_event x (omega arith) at_most))
      (λ mode x after at_most. sees-high mode x (omega arith) at_most) j inside
