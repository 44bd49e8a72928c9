-- When an 8b/10b lane starts: with the first place that is sent after the arming of the lanes, as
-- many ticks later as its arrival.
use Rattle.std.proofs.Common.{◌≡◌, ◌⊎◌, ℕ, suc, ◌+◌, ◌-◌, ◌*◌, ◌%◌, ◌<◌, ◌≤◌, ◌==◌, if◌then◌else◌, not, nat_lt, ◌&&◌, Bool, true, false, List, [], ◌∷◌, ◌++◌, length, map, Some, None, inl, inr, refl, sym, subst, ap, ◌∙◌, arith}
use Rattle.std.proofs.Math.Nat.{mod-eq_of_lt}
use Rattle.std.proofs.lemmas.List.{length-map}
use Rattle.std.proofs.lemmas.Bool.{cases_Bool, cases_lt, cond-true, cond-false, eq-eqb, lt-ltb}
use Rattle.link_params.specs.declared.alarms.Device.TheVariants.{Tx}
use Rattle.link_params.specs.declared.fields.Mode.TheVariants.{B, CFec}
use Rattle.link_params.specs.declared.fields.Params.{Params}
use Rattle.link_params.specs.declared.lane_report.LaneReport.{LaneReport}
use Rattle.link_params.specs.declared.orders.TxOrder.TheVariants.{Comma, Ilas}
use Rattle.link_params.specs.declared.orders.TxOrder.TheVariants.{Data as DataOrder}
use Rattle.link_params.specs.Laws.{is_b}
use Rattle.link_params.specs.Lanes.{Taken}
use Rattle.link_params.specs.Numbers.{period, wait}
use Rattle.bring_up.specs.declared.stage.Decision.TheVariants as decision
use Rattle.code_8b10b.specs.declared.character.Char.{Char}
use Rattle.code_8b10b.specs.declared.character.Reading.{Reading}
use Rattle.code_8b10b.specs.declared.character.Reading.TheVariants.{Char as Read}
use Rattle.ilas.specs.Sequence.{ilas_char}
use Rattle.lane_b.specs.Locking.{Lock, bits_taken, from_other, is_comma_char, is_dropped, is_empty, lock, lock_at, order_at, since_start, start_of, tick_of_start}
use Rattle.lane_b.specs.Received.{lanes_b, report_b, report_of}
use Rattle.lane_b.specs.kept.Receivers.{AreTens}
use Rattle.lane_b.specs.Sent.{char_of}
use Rattle.lane_b.proofs.ChainLemmas.{is_empty-nil}
use Rattle.lane_b.proofs.SearchLemmas.{bits_to_start-inside, length-bits_taken, place-lock_at}
use Rattle.scenario.specs.Plans.{Plan}
use Rattle.link_model.specs.Edges.{is_reset}
use Rattle.link_model.specs.Sessions.{InSession, at, first_tick, is_armed, report_at, taken_at}
use Rattle.link_model.specs.Wiring.{route_of, wire_of}
use Rattle.link_laws.specs.Premises.{Clean, Pattern}
use Rattle.link_laws.specs.LaneLaws.{ComesAfter, HasStarted, IsStartSent, IsStarting, LaneStart, due_after, is_first_place}
use Rattle.link_laws.specs.Laws.{IsPlanRead}
use Rattle.link_laws.proofs.PlanRead.{numbers, reset-none}
use Rattle.link_laws.proofs.Stages.{before, decision_at}
use Rattle.link_laws.proofs.SessionStages.{Goes, first-high}
use Rattle.link_laws.proofs.Arming.{armed-after, sees-high, sees-low, unarmed-before, unarmed-stage}
use Rattle.link_laws.proofs.OrdersB.{count, count-goes, count-low, count-still, first-count, least-of, order-none, order-some}
use Rattle.link_laws.proofs.SentChars.{char_sent, handed_at, handed_by}
use Rattle.link_laws.proofs.CleanLine.{arrival-is, first, goes-on, late}
use Rattle.link_laws.proofs.HeldLock.{IsHeld, and_neither, held-more, search-all}
use Rattle.link_laws.proofs.LaneTicks.{are-tens, length-took, order-is, report-is, taken-longer}
use Rattle.link_laws.proofs.ArmedReadings.{chars-some, chars_from, fourth, from, grid, held, is-late, length-chars, length-read_to, next, none-until, place, read-is, read_to, sends-comma, some-from}
use Rattle.link_laws.proofs.SetAsWired.{wired}

first-char : (p : Params) (lane : ℕ) → 0 < period p → is_comma_char (ilas_char p lane 0) ≡ false
unfolding ilas_char
first-char p lane some = let z : (0 % period p == 0) ≡ true =
    eq-eqb (0 % period p) 0 (mod-eq_of_lt some) in rw z refl

pub undropped-none : (taken : List Taken) (l : Lock) → since_start l ≡ []
    → is_dropped taken l ≡ false
undropped-none taken l none =
    ap (λ (rs : List Reading). not (is_empty rs) && not (order_at taken (tick_of_start l)).armed)
    none

and-off : (a b : Bool) → b ≡ true → (a && not b) ≡ false
and-off true true e = refl
and-off false true e = refl
and-off true false e = let bad : false ≡ true = e in absurd (cc)
and-off false false e = refl

undropped-armed : (taken : List Taken) (l : Lock) → (order_at taken (tick_of_start l)).armed ≡ true
    → is_dropped taken l ≡ false
undropped-armed taken l armed = and-off (not (is_empty (since_start l)))
    ((order_at taken (tick_of_start l)).armed) armed

started-none : (taken : List Taken) (l : Lock) → since_start l ≡ [] → start_of taken l ≡ None
started-none taken l none =
    ap (λ (rs : List Reading). if is_empty rs then None else Some
    (order_at taken (tick_of_start l)).offset) none

started-some : (taken : List Taken) (l : Lock) → is_empty (since_start l) ≡ false
    → start_of taken l ≡ Some (order_at taken (tick_of_start l)).offset
started-some taken l some = cond-false (is_empty (since_start l)) None
    (Some (order_at taken (tick_of_start l)).offset) some

module _ (s : Plan) (lane : ℕ) (read : IsPlanRead s) (mode : s.link.params.mode ≡ B)
    (below : lane < s.link.params.l)
    (h t : ℕ) (session : InSession lanes_b s h t) (clean : Clean s h t) where
  pub report-of : (u : ℕ)
      → report_at lanes_b s lane u ≡ report_of s.link.params (route_of s lane) (taken_at lanes_b s lane u)
      (lock (taken_at lanes_b s lane u))
  unfolding report_b
  report-of u = report-is s lane u below

  -- before the lanes are armed none has started
  pub unarmed-none : (u : ℕ) → first_tick lanes_b s h ≤ u → u ≤ t → is_armed lanes_b s u ≡ false
      → (report_at lanes_b s lane u).started ≡ None
  unarmed-none u low up unarmed =
      let taken : List Taken = taken_at lanes_b s lane u in
      let g = goes-on s lane read mode below h t session clean in
      let tens = are-tens s lane read mode below h t session clean u low up in
      let k = search-all taken (λ x. Unit {0}) tens tt (λ y stands fits other. tt) in
      let shown : (report_at lanes_b s lane u).started
      ≡ (report_of s.link.params (route_of s lane) taken (lock taken)).started =
      ap (λ (r : LaneReport). r.started) (report-of u) in
      elim (k.2) [
        | inr seeking ↦ shown ∙ ap (λ o. (report_of s.link.params (route_of s lane) taken o).started) seeking.is
        | inl y ↦
            let q : IsHeld taken k.0 y.0 = y.1 in
            let l : Lock = lock_at (bits_taken taken) y.0 in
            shown ∙ ap (λ o. (report_of s.link.params (route_of s lane) taken o).started) q.is
            ∙ elim (cases_Bool (is_empty (since_start l))) [
              | inl none ↦ started-none taken l (is_empty-nil (since_start l) none)
              | inr some ↦
                  let within = bits_to_start-inside (bits_taken taken) y.0 q.inside some in
                  let high = within.1 in
                  let least = within.0 in
                  let long = length-bits_taken taken tens in
                  let size = length-took s lane read mode below h t session clean u low up in
                  let i : ℕ = tick_of_start l in
                  let f : ℕ = first s lane read mode below h t session clean in
                  let order = order-is s lane read mode below h t session clean u i low up
                  (omega arith) in
                  let off = unarmed-before lanes_b s h t g u (f + i) low up
                  (unarmed-stage lanes_b s h t g u unarmed) (omega arith) (omega arith) in
                  let no_arm : (order_at taken i).armed ≡ false = ap (λ o. o.armed) order ∙ off in
                  elim (and_neither (is_empty (since_start l)) ((order_at taken i).armed) q.held)
                  [ inl e ↦ absurd (cc) | inr e ↦ absurd (cc) ]
            ]
      ]

module _ (s : Plan) (lane : ℕ) (read : IsPlanRead s) (mode : s.link.params.mode ≡ B)
    (below : lane < s.link.params.l)
    (h t : ℕ) (session : InSession lanes_b s h t) (clean : Clean s h t)
    (A : ℕ) (low : first_tick lanes_b s h ≤ A) (up : A < t)
    (arms : decision_at lanes_b s A ≡ decision.Arm) where
  abbrev f : ℕ
  f = first s lane read mode below h t session clean

  abbrev a : ℕ
  a = late s lane read mode below h t session clean

  abbrev taken : ℕ → List Taken
  taken u = taken_at lanes_b s lane u

  -- the lock of tick u
  abbrev pub lock_of : ℕ → Lock
  lock_of u =
      lock_at (bits_taken (taken u)) (place s lane read mode below h t session clean A low up arms)

  pub goes-here : Goes lanes_b s h t
  goes-here = goes-on s lane read mode below h t session clean

  pub some-period : 0 < period s.link.params
  some-period = let n = (numbers s read).some in omega arith

  pub is-b : is_b s.link.params.mode ≡ true
  is-b = ap is_b mode

  pub quiet : (x : ℕ) → h < x → x ≤ t → is_reset s Tx x ≡ false
  quiet x above upto = reset-none s Tx x (clean.untouched.no_event x above upto)

  -- no first place, only /K/
  pub commas-before : (m n : ℕ) → m ≤ t
      → ((x : ℕ) → A < x → x ≤ m → is_first_place (at lanes_b s x).order ≡ false) → suc A ≤ n + a
      → n ≤ m → (at lanes_b s n).order ≡ Comma
  commas-before m n upto absent from to =
      let l = is-late s lane read mode below h t session clean A low up arms in
      let far = l.far in
      let near = l.near in
      let seen = l.seen in
      let b : ℕ = A + s.link.timing.sync_delay in
      elim (cases_lt b n) [
        | inr early ↦ sends-comma s lane read mode below h t session clean A low up arms n
            (omega arith) early
        | inl later ↦
            let e : b + (n - b) ≡ n = omega arith in
            let none =
            count-low lanes_b s is-b b
            (sees-low lanes_b s h t goes-here A b low (omega arith) l.hunts (omega arith)
            (omega arith)) in
            let still =
            count-still lanes_b s is-b b m none
            (λ x x_low x_up. quiet x (omega arith) (omega arith)) some-period
            (λ x x_low x_up. absent x (omega arith) x_up) (n - b) (omega arith) in
            order-none lanes_b s is-b n (sym (ap (count lanes_b s is-b) e) ∙ still)
      ]

  -- the lock is held in each later tick
  lock-is : (u : ℕ) → A ≤ u → u ≤ t → is_dropped (taken u) (lock_of u) ≡ false
      → lock (taken u) ≡ Some (lock_of u)
  lock-is u from_A upto kept =
      let more = taken-longer s lane read mode below h t session clean A u low from_A upto in
      let y : ℕ = place s lane read mode below h t session clean A low up arms in
      let P : List Taken → Type 0 = λ l. AreTens l → is_dropped l (lock_at (bits_taken l) y) ≡ false
      → lock l ≡ Some (lock_at (bits_taken l) y) in
      let all : P (taken A ++ more.0) = λ tens undropped.
      held-more (taken A) more.0 (from s lane read mode below h t session clean A low up arms) y
      tens (held s lane read mode below h t session clean A low up arms) undropped in
      subst P (sym more.1) all
      (are-tens s lane read mode below h t session clean u (omega arith) upto) kept

  -- what the lane reports then
  pub record IsLocked (u : ℕ) : Type 0 where
    pub lock_is : lock (taken u) ≡ Some (lock_of u)
    pub report : report_at lanes_b s lane u ≡ report_of s.link.params (route_of s lane) (taken u)
        (Some (lock_of u))

  pub locked-report : (u : ℕ) → A ≤ u → u ≤ t → is_dropped (taken u) (lock_of u) ≡ false
      → IsLocked u
  locked-report u from_A upto kept = record {
    lock_is = lock-is u from_A upto kept;
    report = report-of s lane read mode below h t session clean u
        ∙ ap (report_of s.link.params (route_of s lane) (taken u)) (lock-is u from_A upto kept);
  }

  since-is : (u : ℕ) → A ≤ u → u ≤ t
      → since_start (lock_of u)
      ≡ from_other (read_to s lane read mode below h t session clean A low up arms (suc u - a))
  since-is u from_A upto =
      ap from_other (read-is s lane read mode below h t session clean A low up arms u from_A upto)

  -- ---- not yet started

  pub since-none : (u : ℕ) → A ≤ u → u ≤ t
      → ((x : ℕ) → A < x → x + a ≤ u → is_first_place (at lanes_b s x).order ≡ false)
      → since_start (lock_of u) ≡ []
  since-none u from_A upto absent =
      let l = is-late s lane read mode below h t session clean A low up arms in
      let far = l.far in
      let near = l.near in
      let n : ℕ = next s lane read mode below h t session clean A low up arms in
      let k : ℕ = suc u - a - n in
      let e : n + k ≡ suc u - a = omega arith in
      since-is u from_A upto
      ∙ sym
      (ap (λ j. from_other (read_to s lane read mode below h t session clean A low up arms j))
      e)
      ∙ none-until s lane read mode below h t session clean A low up arms k (omega arith)
      (λ j j_low j_up. commas-before (u - a) j (omega arith)
      (λ x x_low x_up. absent x x_low (omega arith)) (omega arith) (omega arith))

  pub not-started : (u : ℕ) → A ≤ u → u ≤ t
      → ((x : ℕ) → A < x → x + a ≤ u → is_first_place (at lanes_b s x).order ≡ false)
      → (report_at lanes_b s lane u).started ≡ None
  not-started u from_A upto absent =
      let none = since-none u from_A upto absent in
      let r = locked-report u from_A upto (undropped-none (taken u) (lock_of u) none) in
      ap (λ (x : LaneReport). x.started) r.report ∙ started-none (taken u) (lock_of u) none

  -- ---- started

  module _ (g : ℕ) (after : A < g) (starts : is_first_place (at lanes_b s g).order ≡ true)
      (least : (x : ℕ) → A < x → x < g → is_first_place (at lanes_b s x).order ≡ false) where
    abbrev pub chars : ℕ → List Char
    chars k = chars_from s lane read mode below h t session clean A low up arms g k

    pub order-first : (at lanes_b s g).order ≡ Ilas 0
    order-first =
        order-some lanes_b s is-b g 0 (first-count lanes_b s is-b g starts)
        ∙ cond-true (nat_lt 0 (4 * period s.link.params)) (Ilas 0)
        (DataOrder (0 % period s.link.params) (0 == 4 * period s.link.params))
        (lt-ltb 0 (4 * period s.link.params) (let p = some-period in omega arith))

    other-char : is_comma_char (char_sent s (wire_of s lane) read mode (wired s lane read below) g) ≡ false
    other-char =
        ap (λ o. is_comma_char
        (char_of s.link.params (wire_of s lane) (handed_by s (wire_of s lane) read mode (wired s lane read below) g
        ++ handed_at s (wire_of s lane) read mode (wired s lane read below) g ∷ []) o)) order-first
        ∙ first-char s.link.params (wire_of s lane) some-period

    -- all that it read since the start
    pub since-some : (u : ℕ) → g + a ≤ u → u ≤ t
        → since_start (lock_of u) ≡ map Read (chars (suc u - a - g))
    since-some u from_g upto =
        let l = is-late s lane read mode below h t session clean A low up arms in
        let far = l.far in
        let near = l.near in
        let n : ℕ = next s lane read mode below h t session clean A low up arms in
        let k : ℕ = u - a - g in
        let e : g + suc k ≡ suc u - a = omega arith in
        let m : n + (g - n) ≡ g = omega arith in
        let j : suc k ≡ suc u - a - g = omega arith in
        let none : from_other (read_to s lane read mode below h t session clean A low up arms g)
        ≡ [] =
        sym (ap (λ j. from_other (read_to s lane read mode below h t session clean A low up arms j))
        m)
        ∙ none-until s lane read mode below h t session clean A low up arms (g - n) (omega arith)
        (λ q q_low q_up. commas-before (g - 1) q (omega arith)
        (λ x x_low x_up. least x x_low (omega arith)) (omega arith) (omega arith)) in
        since-is u (omega arith) upto
        ∙ sym
        (ap (λ j. from_other (read_to s lane read mode below h t session clean A low up arms j))
        e)
        ∙ some-from s lane read mode below h t session clean A low up arms g k (omega arith)
        (omega arith) none other-char
        ∙ ap (λ i. map Read (chars i)) j

    -- it started in tick g + a
    start-tick : (u : ℕ) → g + a ≤ u → u ≤ t → tick_of_start (lock_of u) ≡ g + a - f
    start-tick u from_g upto =
        let at_place = place-lock_at (bits_taken (taken u))
        (place s lane read mode below h t session clean A low up arms) in
        let k = grid s lane read mode below h t session clean A low up arms in
        let on = k.place in
        let inside = k.inside in
        let size : length (lock_of u).read ≡ suc u - a - fourth s lane read mode below h t session
        clean A low up arms - 1 =
        ap length (read-is s lane read mode below h t session clean A low up arms u
        (omega arith) upto)
        ∙ length-read_to s lane read mode below h t session clean A low up arms (suc u - a)
        (omega arith) in
        let since : length (since_start (lock_of u)) ≡ suc u - a - g =
        ap length (since-some u from_g upto) ∙ length-map (chars (suc u - a - g)) Read
        ∙ length-chars s lane read mode below h t session clean A low up arms g (suc u - a - g) in
        omega arith

    order-start : (u : ℕ) → g + a ≤ u → u ≤ t
        → order_at (taken u) (tick_of_start (lock_of u)) ≡ (at lanes_b s (g + a)).told
    order-start u from_g upto =
        let e : f + (g + a - f) ≡ g + a = omega arith in
        ap (order_at (taken u)) (start-tick u from_g upto)
        ∙ order-is s lane read mode below h t session clean u (g + a - f) (omega arith) upto
        (omega arith)
        ∙ ap (λ n. (at lanes_b s n).told) e

    pub started-report : (u : ℕ) → g + a ≤ u → u ≤ t → IsLocked u
    started-report u from_g upto =
        let armed = ap (λ o. o.armed) (order-start u from_g upto)
        ∙ armed-after lanes_b s h t goes-here A (g + a) low arms (omega arith) (omega arith) in
        locked-report u (omega arith) upto (undropped-armed (taken u) (lock_of u) armed)

    pub since-more : (u : ℕ) → g + a ≤ u → u ≤ t → is_empty (since_start (lock_of u)) ≡ false
    since-more u from_g upto =
        let e : suc u - a - g ≡ suc (u - a - g) = omega arith in
        ap is_empty (since-some u from_g upto ∙ ap (λ k. map Read (chars k)) e)
        ∙ chars-some s lane read mode below h t session clean A low up arms g (u - a - g)

    pub has-started : (u : ℕ) → g + a ≤ u → u ≤ t
        → (report_at lanes_b s lane u).started ≡ Some (at lanes_b s (g + a)).told.offset
    has-started u from_g upto =
        let r = started-report u from_g upto in
        ap (λ (x : LaneReport). x.started) r.report ∙ started-some (taken u) (lock_of u)
        (since-more u from_g upto)
        ∙ ap (λ o. Some o.offset) (order-start u from_g upto)

  pub first-some : (i : ℕ)
      → ((x : ℕ) → A < x → x + a ≤ i → is_first_place (at lanes_b s x).order ≡ false)
      ⊎ ((g : ℕ) × (A < g) × (g + a ≤ i) × (is_first_place (at lanes_b s g).order ≡ true)
      × ((x : ℕ) → A < x → x < g → is_first_place (at lanes_b s x).order ≡ false))
  first-some i = elim (least-of (i - a - A) (suc A) (λ x. is_first_place (at lanes_b s x).order)) [
    | inl none ↦ inl (λ x x_low x_up. none x (omega arith) (omega arith))
    | inr k ↦ let above = k.1 in
        let upto = k.2 in
        inr (k.0, omega arith, omega arith, k.3, λ x x_low x_up. k.4 x (omega arith) x_up)
  ]

  pub due : due_after s lane h ≡ a
  due =
      let w : wait s.link.params ≡ 0 = cond-true (is_b s.link.params.mode) 0 64 is-b in
      let e = arrival-is s lane read mode below h t session clean in
      omega arith

  comes-b : (q : ℕ) → ComesAfter s lane h A q → A < q
  comes-b q c = let z : (if is_b s.link.params.mode then 0 else due_after s lane h) ≡ 0 =
      cond-true (is_b s.link.params.mode) 0 (due_after s lane h) is-b in omega arith

  comes-after : (q : ℕ) → A < q → ComesAfter s lane h A q
  comes-after q c = let z : (if is_b s.link.params.mode then 0 else due_after s lane h) ≡ 0 =
      cond-true (is_b s.link.params.mode) 0 (due_after s lane h) is-b in omega arith

  pub none-of-report : (i : ℕ) → first_tick lanes_b s h ≤ i → i ≤ t
      → ((x : ℕ) → A < x → x + a ≤ i → is_first_place (at lanes_b s x).order ≡ false)
      → (report_at lanes_b s lane i).started ≡ None
  none-of-report i i_low i_up absent = elim (cases_lt A i) [
    | inl later ↦ not-started i (omega arith) i_up absent
    | inr before ↦
        let l = is-late s lane read mode below h t session clean A low up arms in
        unarmed-none s lane read mode below h t session clean i i_low i_up
        (unarmed-before lanes_b s h t goes-here A i low (omega arith) l.hunts i_low before)
  ]

  not_first : (q x : ℕ)
      → ((i : ℕ) → ComesAfter s lane h A i → is_first_place (at lanes_b s i).order ≡ true → q ≤ i)
      → A < x → x < q → is_first_place (at lanes_b s x).order ≡ false
  not_first q x smallest above under = elim (cases_Bool (is_first_place (at lanes_b s x).order)) [
    | inr e ↦ e
    | inl e ↦ let bad = smallest x (comes-after x above) e in absurd (omega arith)
  ]

  pub starts-in : (q : ℕ) → IsStartSent lanes_b s lane h A q → q + due_after s lane h ≤ t
      → HasStarted lanes_b s h lane t (q + due_after s lane h)
  starts-in q sent upto =
      let e = due in
      let after = comes-b q sent.comes in
      let x : q + due_after s lane h ≡ q + a = omega arith in
      record {
        from = omega arith;
        by = upto;
        none_before = λ i i_low i_up. none-of-report i i_low (omega arith)
            (λ y y_low y_up. not_first q y sent.least y_low (omega arith));
        shows = λ i i_low i_up.
            has-started q after sent.sent (λ y y_low y_up. not_first q y sent.least y_low y_up) i
            (omega arith) i_up
            ∙ ap (λ (n : ℕ). Some (at lanes_b s n).told.offset) (sym x);
      }

  pub starts-not : ((q : ℕ) → IsStartSent lanes_b s lane h A q → t < q + due_after s lane h)
      → (i : ℕ) → first_tick lanes_b s h ≤ i → i ≤ t → (report_at lanes_b s lane i).started ≡ None
  starts-not never i i_low i_up = elim (first-some i) [
    | inl none ↦ none-of-report i i_low i_up none
    | inr k ↦
        let e = due in
        let above = k.1 in
        let upto = k.2 in
        let far = never k.0 (record {
          sent = k.3;
          comes = comes-after k.0 above;
          least = λ j comes first. elim (cases_lt j k.0) [
            | inr fits ↦ fits
            | inl early ↦ let no_first = k.4 j (comes-b j comes) early in absurd (cc)
          ];
        }) in
        absurd (omega arith)
  ]

  -- one first place is sent
  later-none : (q r : ℕ) → A < q → q < r → r ≤ t → is_first_place (at lanes_b s q).order ≡ true
      → is_first_place (at lanes_b s r).order ≡ true → ⊥
  later-none q r after on upto first_q first_r =
      let l = is-late s lane read mode below h t session clean A low up arms in
      let far = l.far in
      let seen = l.seen in
      let one_q = first-count lanes_b s is-b q first_q in
      let one_r = first-count lanes_b s is-b r first_r in
      let e : q + (r - q) ≡ r = omega arith in
      elim (cases_lt (A + s.link.timing.sync_delay) q) [
        | inr early ↦
            let zero_q =
            count-low lanes_b s is-b q
            (sees-low lanes_b s h t goes-here A q low (omega arith) l.hunts
            (omega arith) early) in
            absurd (omega arith)
        | inl high ↦
            let goes = count-goes lanes_b s is-b q t first_q
            (λ x x_low x_up. quiet x (omega arith) x_up)
            (λ x x_low x_up. sees-high lanes_b s h t goes-here A x low arms (omega arith)
            (omega arith)) (r - q) (omega arith) in
            let same = ap (count lanes_b s is-b) e in
            absurd (omega arith)
      ]

  pub one-start : (q r : ℕ) → A < q → A < r → q ≤ t → r ≤ t
      → is_first_place (at lanes_b s q).order ≡ true → is_first_place (at lanes_b s r).order ≡ true
      → q ≡ r
  one-start q r after_q after_r upto_q upto_r first_q first_r = elim (cases_lt q r) [
    | inl below_r ↦ absurd (later-none q r after_q below_r upto_r first_q first_r)
    | inr not_below ↦ elim (cases_lt r q) [
      | inl above ↦ absurd (later-none r q after_r above upto_q first_r first_q)
      | inr same ↦ omega arith
    ]
  ]

lane-starting : (s : Plan) (lane : ℕ) → IsPlanRead s → s.link.params.mode ≡ B
    → lane < s.link.params.l → (h t : ℕ) → InSession lanes_b s h t → Clean s h t
    → IsStarting lanes_b s h lane t
lane-starting s lane read mode below h t session clean = record {
  starts = λ A q by sent upto. starts-in s lane read mode below h t session clean A by.in_session
      by.below by.arms q sent upto;
  no_other = λ A by never. starts-not s lane read mode below h t session clean A by.in_session
      by.below by.arms never;
  one = λ b A q r by. one-start s lane read mode below h t session clean A by.in_session by.below
      by.arms q r;
  unarmed = λ off. let high =
      first-high lanes_b s h t (goes-on s lane read mode below h t session clean) in
      let above = session.above in
      unarmed-none s lane read mode below h t session clean t (omega arith) (omega arith) off;
}

-- the law of an 8b/10b lane's start
pub lane-start-b : (s : Plan) → IsPlanRead s → s.link.params.mode ≡ B → (pattern : Pattern)
    → LaneStart lanes_b pattern s
lane-start-b s read mode pattern h lane t below session lone (inl clean) =
    lane-starting s lane read mode below h t session clean
lane-start-b s read mode pattern h lane t below session lone (inr burst) = let fec = burst.fec in
    let bad : B ≡ CFec = sym mode ∙ fec in absurd (cc)
