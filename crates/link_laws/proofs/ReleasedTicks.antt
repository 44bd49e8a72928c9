-- A released session at each tick from its release on: its entries, and the frames that it
-- delivers.
use Rattle.std.proofs.Common.{◌≡◌, ℕ, suc, ◌+◌, ◌-◌, ◌*◌, ◌/◌, ◌<◌, ◌≤◌, true, false, List, [], length, map, drop, slice_get, Some, inl, inr, refl, sym, subst, ap, ap₂, ◌∙◌, arith}
use Rattle.std.specs.List.{flat_map}
use Rattle.std.proofs.Math.Nat.{div-mul-le_self, mul-le-mul_left}
use Rattle.std.proofs.lemmas.Bool.{cases_lt}
use Rattle.std.proofs.lemmas.Nat.{div-mul-add, le-div}
use Rattle.link_params.specs.declared.alarms.Device.TheVariants.{Tx}
use Rattle.link_params.specs.declared.fields.Params.{Params}
use Rattle.link_params.specs.Lanes.{Entry, LaneKind}
use Rattle.link_params.specs.Numbers.{lat_ticks, octets_per_tick}
use Rattle.bring_up.specs.declared.stage.Decision.TheVariants as decision
use Rattle.bring_up.specs.Decisions.{is_running}
use Rattle.scenario.specs.Plans.{Plan, numbers_from}
use Rattle.link_model.specs.Edges.{phase}
use Rattle.link_model.specs.Moments.{Delivered, History, Moment}
use Rattle.link_model.specs.Gives.{frame_given, gives_in, octets_given}
use Rattle.link_model.specs.Hunts.{is_hunt, session}
use Rattle.link_model.specs.Run.{moment, run}
use Rattle.link_model.specs.Wiring.{lane_for}
use Rattle.link_model.proofs.Wirings.{lane-for-below}
use Rattle.link_model.specs.Sessions.{InSession, at, decides_hunt, delivered_by, entries_at, first_tick}
use Rattle.link_laws.specs.Premises.{Lone, Met, Pattern, Undamaged}
use Rattle.link_laws.specs.LaneLaws.{IsEntryOf, LaneLaws}
use Rattle.link_laws.specs.Laws.{IsPlanRead}
use Rattle.link_laws.proofs.Delivered.{IsShaped, delivered-numbers, frames_to, lanes_entries}
use Rattle.link_laws.proofs.Earlier.{lone-earlier, session-earlier, undamaged-earlier}
use Rattle.link_laws.proofs.EntryOctets.{entry-octets, frame_size}
use Rattle.link_laws.proofs.FirstPlace.{first-place}
use Rattle.link_laws.proofs.Gave.{gave-since, still}
use Rattle.link_laws.proofs.InOrder.{count-so-far, frame-so-far, get-number}
use Rattle.link_laws.proofs.NoHunt.{no-hunt}
use Rattle.link_laws.proofs.OrdersGo.{ilas_ticks}
use Rattle.link_laws.proofs.Phases.{gives-later, phase-stays}
use Rattle.link_laws.proofs.PlanRead.{has-edges, reset-none}
use Rattle.link_laws.proofs.Released.{begin-first, begin-is, begin-late, begin_tick, entry-sent, is-late, places, some-lane}
use Rattle.link_laws.proofs.ReleaseTick.{goes, untouched}
use Rattle.link_laws.proofs.SessionStages.{Goes, runs-on}
use Rattle.link_laws.proofs.Stages.{decision_at, released-in, run-step}

delivers-none : (kind : LaneKind) (s : Plan) (u : ℕ) → is_running (at kind s u).stage ≡ false
    → (at kind s u).delivered ≡ []
unfolding moment
delivers-none kind s u off = rw off refl

-- more entries give no fewer frames
frames-grow : (p : Params) (n : ℕ) → 0 < p.f → frames_to p n ≤ frames_to p (suc n)
frames-grow p n some =
    let more : octets_per_tick p * (n - ilas_ticks p) ≤ octets_per_tick p * (suc n - ilas_ticks p) =
    mul-le-mul_left (octets_per_tick p) (omega arith) in
    let whole = div-mul-le_self (octets_per_tick p * (n - ilas_ticks p)) p.f in
    le-div (frames_to p n) (octets_per_tick p * (suc n - ilas_ticks p)) p.f some (omega arith)

frames-begin : (p : Params) → 0 < p.f → frames_to p 0 ≡ 0
frames-begin p some =
    let none : 0 - ilas_ticks p ≡ 0 = omega arith in
    let zero_octets : octets_per_tick p * 0 ≡ 0 * p.f + 0 = omega arith in
    ap (λ (k : ℕ). octets_per_tick p * k / p.f) none ∙ ap (λ (k : ℕ). k / p.f) zero_octets
    ∙ div-mul-add 0 p.f 0 some

-- the ticks of the session before tick u
abbrev session_before : LaneKind → Plan → ℕ → History
session_before kind s u = session s (run kind s u)

-- the frames of the session before tick u
abbrev delivered_to : LaneKind → Plan → ℕ → ℕ → List Delivered
delivered_to kind s h u = flat_map (λ (m : Moment). m.delivered)
    (drop (first_tick kind s h) (run kind s u))

module _ (kind : LaneKind) (pattern : Pattern) (s : Plan) (read : IsPlanRead s)
    (laws : LaneLaws kind pattern s) (h r t : ℕ)
    (session : InSession kind s h t) (met : Met s t) (lone : Lone kind pattern s h t)
    (whole : Undamaged s h t)
    (low : first_tick kind s h ≤ r) (up : r ≤ t)
    (releases : decision_at kind s r ≡ decision.Release) where
  g : Goes kind s h t
  g = goes kind s h t session whole

  abbrev pub begins : ℕ
  begins = begin_tick kind pattern s read laws h r t session met lone whole low up releases

  pub begins-late : begins + lat_ticks s.link.params s.link.timing ≡ r
  begins-late = begin-late kind pattern s read laws h r t session met lone whole low up releases

  pub begins-after : h < begins
  begins-after =
      let same = begin-is kind pattern s read laws h r t session met lone whole low up releases in
      let after = (is-late kind pattern s read laws h r t session met lone whole low up releases 0
      (some-lane kind pattern s read laws h r t session met lone whole low up
      releases)).in_session in
      omega arith

  -- the transmitter has a phase from then on
  phase-on : (u : ℕ) → begins ≤ u → u ≤ t → (y : ℕ) × (phase s Tx u ≡ Some y)
  phase-on u from to =
      let clear = untouched s h t whole in
      let after = begins-after in
      phase-stays s Tx begins u 0 (has-edges s read) from
      (λ x a b. reset-none s Tx x (clear.no_event x (omega arith) (omega arith)))
      (first-place kind s begins (has-edges s read)
      (begin-first kind pattern s read laws h r t session met lone whole low up releases))

  -- ---- the premises at a tick from the release on

  session-at : (u : ℕ) → r ≤ u → u ≤ t → InSession kind s h u
  session-at u from to = let after = begins-after in
      let late = begins-late in session-earlier kind s h t u (omega arith) to session

  met-at : (u : ℕ) → r ≤ u → u ≤ t → Met s u
  met-at u from to d i gives =
      let clear = untouched s h t whole in
      let after = begins-after in
      let late = begins-late in
      met d i
      (gives-later s d u t i to (λ x a b. reset-none s d x (clear.no_event x (omega arith) b))
      gives)

  lone-at : (u : ℕ) → r ≤ u → u ≤ t → Lone kind pattern s h u
  lone-at u from to =
      let late = begins-late in
      lone-earlier kind pattern s h t u (has-edges s read) session whole (omega arith) to
      (λ c. phase-on u (omega arith) to) lone

  whole-at : (u : ℕ) → r ≤ u → u ≤ t → Undamaged s h u
  whole-at u from to = undamaged-earlier s h t u to whole

  one-begin : (u : ℕ) (from : r ≤ u) (to : u ≤ t)
      → begin_tick kind pattern s read laws h r u (session-at u from to) (met-at u from to)
      (lone-at u from to) (whole-at u from to) low from releases ≡ begins
  one-begin u from to =
      let late = begin-late kind pattern s read laws h r u (session-at u from to) (met-at u from to)
      (lone-at u from to) (whole-at u from to) low from releases in
      let own = begins-late in
      omega arith

  -- the entries of a tick, from b on
  pub entry-at : (u lane j : ℕ) → r ≤ u → u ≤ t → lane < s.link.params.l → j ≤ u - r
      → IsEntryOf kind s h lane u j (begins + j)
  entry-at u lane j from to below inside =
      subst (λ (b : ℕ). IsEntryOf kind s h lane u j (b + j)) (one-begin u from to)
      (entry-sent kind pattern s read laws h r u (session-at u from to) (met-at u from to)
      (lone-at u from to) (whole-at u from to) low from releases lane j below inside)

  -- ---- what each tick gives

  pub calm-on : (i : ℕ) → r ≤ i → i ≤ t → decides_hunt kind s i ≡ false
  calm-on i from to =
      let after = begins-after in
      let late = begins-late in
      no-hunt kind pattern s (has-edges s read) laws.carried h r t session lone whole low releases
      (λ c. phase-on r (omega arith) up) (omega arith) i from to

  runs-at : (u : ℕ) → r ≤ u → u ≤ t → is_running (at kind s u).stage ≡ true
  runs-at u from to = elim (cases_lt r u) [
    | inr here ↦ let same : u ≡ r = omega arith in
        ap (λ (n : ℕ). is_running (at kind s n).stage) same
        ∙ ap is_running (released-in kind s r releases).runs
    | inl later ↦ elim (run-step kind s u (runs-on kind s h t g r u low releases later to)) [
      | inr a ↦ ap is_running a.1
      | inl a ↦
          let c = calm-on u from to in
          let bad : true ≡ false = sym (ap is_hunt a.0) ∙ c in absurd (cc)
    ]
  ]

  -- frame k as tick u gives it
  abbrev pub frame_at : ℕ → ℕ → Delivered
  frame_at u k =
      frame_given s.link.params (octets_per_tick s.link.params * r + ilas_ticks s.link.params)
      (map (octets_given s.link.params (u - r + 1)) (lanes_entries kind s u)) k

  delivers : (n : ℕ) → r + n ≤ t
      → (at kind s (r + n)).delivered ≡ map (frame_at (r + n))
      (numbers_from (frames_to s.link.params n)
      (frames_to s.link.params (suc n) - frames_to s.link.params n))
  delivers n to =
      let p = s.link.params in
      let u : ℕ = r + n in
      let back : u - n ≡ r = omega arith in
      let count : n + 1 ≡ u - r + 1 = omega arith in
      let one_more : n + 1 ≡ suc n = omega arith in
      let some = some-lane kind pattern s read laws h r t session met lone whole low up releases in
      let late = begins-late in
      let since : u - r ≡ n = omega arith in
      let gave : gives_in (session_before kind s u) ≡ n =
      gave-since kind s h t r g low up releases u (omega arith) to ∙ since in
      let shaped : (j : ℕ) → j < suc n → (e : Entry)
      × (slice_get (entries_at kind s (lane_for s 0) u) j ≡ Some e) × IsShaped p j e =
      λ j below.
      let of_link = lane-for-below s 0 some in
      let e = entry-at u (lane_for s 0) j (omega arith) to of_link (omega arith) in
      let o =
      entry-octets kind s h u begins read
      (λ i inside. places kind pattern s read laws h r t session met lone whole low up releases
      i (omega arith)) (lane_for s 0) j of_link (omega arith) e in
      (e.entry, e.found, o.shaped) in
      delivered-numbers kind s u n some (runs-at u (omega arith) to) gave shaped
      ∙ ap₂
      (λ (a m : ℕ). map (frame_given p (octets_per_tick p * a + ilas_ticks p)
      (map (octets_given p m) (lanes_entries kind s u)))
      (numbers_from (frames_to p n) (frames_to p (n + 1) - frames_to p n))) back count
      ∙ ap (λ (m : ℕ). map (frame_at u)
      (numbers_from (frames_to p n) (frames_to p m - frames_to p n))) one_more

  nothing-before : (u : ℕ) → first_tick kind s h ≤ u → u < r → (at kind s u).delivered ≡ []
  nothing-before u from below =
      delivers-none kind s u (still kind s h t r g low up releases u from below)

  -- ---- the frames in order

  pub frames-count : length (delivered_by kind s h t) ≡ frames_to s.link.params (t + 1 - r)
  frames-count =
      let p = s.link.params in
      let end : r + (t + 1 - r) ≡ t + 1 = omega arith in
      let count = count-so-far kind s (first_tick kind s h) r t (frames_to p) frame_at low
      (frames-begin p (frame_size s read)) (λ n. frames-grow p n (frame_size s read))
      nothing-before delivers (t + 1 - r) (omega arith) in
      ap (λ (u : ℕ). length (delivered_to kind s h u)) (sym end) ∙ count

  -- the tick that gives frame k, and its place among the tick's frames and among those of the
  -- session
  pub record GivenAt (k : ℕ) : Type 0 where
    pub n : ℕ
    pub by : r + n ≤ t
    pub high : k < frames_to s.link.params (suc n)
    pub there : slice_get (at kind s (r + n)).delivered (k - frames_to s.link.params n)
        ≡ Some (frame_at (r + n) k)
    pub is : slice_get (delivered_by kind s h t) k ≡ Some (frame_at (r + n) k)

  pub frame-order : (k : ℕ) → k < frames_to s.link.params (t + 1 - r) → GivenAt k
  frame-order k below =
      let p = s.link.params in
      let end : r + (t + 1 - r) ≡ t + 1 = omega arith in
      let g = frame-so-far kind s (first_tick kind s h) r t (frames_to p) frame_at low
      (frames-begin p (frame_size s read)) (λ n. frames-grow p n (frame_size s read))
      nothing-before delivers (t + 1 - r) k (omega arith) below in
      let before = g.before in
      let from = g.low in
      let to = g.high in
      let place : frames_to p g.tick + (k - frames_to p g.tick) ≡ k = omega arith in
      let in_run : r + g.tick ≤ t = omega arith in
      record {
        n = g.tick;
        by = in_run;
        high = g.high;
        there = ap (λ l. slice_get l (k - frames_to p g.tick)) (delivers g.tick in_run)
            ∙ get-number (frames_to p (suc g.tick) - frames_to p g.tick) (frames_to p g.tick)
            (k - frames_to p g.tick) (frame_at (r + g.tick)) (omega arith)
            ∙ ap (λ (x : ℕ). Some (frame_at (r + g.tick) x)) place;
        is = ap (λ (u : ℕ). slice_get (delivered_to kind s h u) k) (sym end) ∙ g.is;
      }
