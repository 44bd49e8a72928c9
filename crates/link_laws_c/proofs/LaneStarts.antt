-- The law of the start for 64b/66b lanes.
use Rattle.std.proofs.Common.{◌≡◌, ℕ, suc, ◌+◌, ◌-◌, ◌*◌, ◌<◌, ◌≤◌, nat_lt, ◌&&◌, Bool, true, false, Some, None, inl, inr, if◌then◌else◌, refl, sym, subst, ap, ap₂, ◌∙◌, arith}
use Rattle.std.proofs.lemmas.Bool.{and_parts, cond-false, cases_lt, leb-true, lt-ltb, ltb-true}
use Rattle.jesd_base.specs.Search.{IsLeast, first_from}
use Rattle.jesd_base.proofs.BitLemmas.{finds_least, finds_none}
use Rattle.link_params.specs.declared.lane_report.LaneReport.{LaneReport}
use Rattle.link_params.specs.Laws.{is_b}
use Rattle.link_params.specs.Numbers.{wait}
use Rattle.scenario.specs.Plans.{Plan}
use Rattle.multiblock.specs.Places.{Place, least_place, pattern_size}
use Rattle.lane_c.specs.Received.{lanes_c}
use Rattle.link_model.specs.Sessions.{at, first_tick, is_armed, report_at, taken_at}
use Rattle.link_model.specs.Wiring.{route_of}
use Rattle.link_laws.specs.Premises.{arrival, lock_pattern}
use Rattle.link_laws.specs.LaneLaws.{ArmedBy, ComesAfter, HasStarted, IsStartSent, IsStarting, LaneStart, due_after, is_first_place}
use Rattle.link_laws.specs.Laws.{IsPlanRead}
use Rattle.link_laws.proofs.SessionStages.{first-high}
use Rattle.link_laws_c.proofs.Arming.{armed-after, armed-later, locked-by-arming, unarmed-before}
use Rattle.link_laws_c.proofs.Held.{InSessionC, edges, found-later, held, on, some-e}
use Rattle.link_laws_c.proofs.HeldPlace.{place-none, report-none}
use Rattle.link_laws_c.proofs.HeldReport.{locked-of-place, place-of-lock}
use Rattle.link_laws_c.proofs.Holding.{Holds, arrives-at, report-at}
use Rattle.link_laws_c.proofs.SentTicks.{cases_some}
use Rattle.link_laws_c.proofs.StartOfPlace.{StartsWith, started-none, started-with}
use Rattle.link_laws_c.proofs.SessionWords.{bits_at}

module _ (s : Plan) (h t lane : ℕ) (c : InSessionC s h t lane) where
  wait-is : wait s.link.params ≡ 64
  wait-is = rw c.mode refl

  -- how long after it was sent a block leaves the wait for its check
  pub due-is : due_after s lane h ≡ arrival s lane h + 64
  due-is = ap (λ (w : ℕ). arrival s lane h + w) wait-is

  comes-is : (if is_b s.link.params.mode then 0 else due_after s lane h) ≡ arrival s lane h + 64
  comes-is = cond-false (is_b s.link.params.mode) 0 (due_after s lane h) c.mode ∙ due-is

  comes-after : (A q : ℕ) → A < q + arrival s lane h + 64 → ComesAfter s lane h A q
  comes-after A q after = let d = comes-is in omega (arith, after, d)

  after-comes : (A q : ℕ) → ComesAfter s lane h A q → A < q + arrival s lane h + 64
  after-comes A q comes = let d = comes-is in omega (arith, comes, d)

  -- a lane without a place has not started
  pub none-without : (u : ℕ) → least_place s.link.params.e 0 (bits_at lanes_c s lane u) ≡ None
      → (report_at lanes_c s lane u).started ≡ None
  none-without u none =
      ap (λ (r : LaneReport). r.started) (report-at s lane u c.below
      ∙ report-none s.link.params s.link.timing (route_of s lane) (taken_at lanes_c s lane u)
      (place-none s.link.params.e (taken_at lanes_c s lane u) none))

  -- a lane has not started by tick u where no block that starts it was sent in time
  none-by : (u : ℕ) → first_tick lanes_c s h ≤ u → u ≤ t
      → ((q : ℕ) → is_first_place (at lanes_c s q).order ≡ true → q + arrival s lane h + 64 ≤ u
      → first_tick lanes_c s h ≤ q + arrival s lane h + 64
      → is_armed lanes_c s (q + arrival s lane h + 64) ≡ true → ⊥)
      → (report_at lanes_c s lane u).started ≡ None
  none-by u low up never =
      elim (cases_some (least_place s.link.params.e 0 (bits_at lanes_c s lane u))) [
        | inr none ↦ none-without u none
        | inl f ↦
            let g = on s h t lane c in
            let k : Holds s h t lane u f.0 = held s h t lane c u f.0 low up f.1 in
            started-none s h t lane u f.0 g low up (edges s h t lane c) c.mode (some-e s h t lane c)
            c.below k (λ n w.
            let by = w.by in
            let number : k.sent.q + arrival s lane h + n + 64 ≡ k.sent.q + n + arrival s lane h
            + 64 =
            omega arith in
            let arrive = arrives-at s h lane k.sent.q f.0 n c.mode k.sent.stands in
            never (k.sent.q + n) w.first (omega arith) (omega arith)
            (sym (ap (is_armed lanes_c s) number) ∙ w.armed))
      ]

  -- armed in a tick of the session: after the arming
  after-arming : (A y : ℕ) → ArmedBy lanes_c s h t A → first_tick lanes_c s h ≤ y
      → is_armed lanes_c s y ≡ true → A < y
  after-arming A y a low armed = elim (cases_lt A y) [
    | inl after ↦ after
    | inr before ↦ let none = unarmed-before lanes_c s h t (on s h t lane c) A y a low before in
        absurd (cc)
  ]

  -- the lane starts with what was sent in tick q
  starts-then : (A q : ℕ) → ArmedBy lanes_c s h t A → IsStartSent lanes_c s lane h A q
      → q + arrival s lane h + 64 ≤ t
      → HasStarted lanes_c s h lane t (q + arrival s lane h + 64)
  starts-then A q a sent by =
      let g = on s h t lane c in
      let from = a.in_session in
      let below_t = a.below in
      let after = after-comes A q sent.comes in
      let x : ℕ = q + arrival s lane h + 64 in
      record {
        from = omega arith;
        by = by;
        none_before = λ i low before. none-by i low (omega arith) (λ r first in_time later armed.
            let past = after-arming A (r + arrival s lane h + 64) a later armed in
            let least = sent.least r (comes-after A r past) first in
            absurd (omega arith));
        shows = λ i since up.
            let lock = locked-by-arming lanes_c s A lane a.arms c.below in
            let found = place-of-lock s lane A c.below lock in
            let p : Place = found.0 in
            let at_A : Holds s h t lane A p = held s h t lane c A p from (omega arith) found.1 in
            let k : Holds s h t lane i p = held s h t lane c i p (omega arith) up
            (found-later s h t lane c A i p from (omega arith) up found.1) in
            let is_locked =
            sym (locked-of-place s h t lane A p g from (omega arith) c.mode c.below at_A)
            ∙ lock in
            let locked =
            leb-true (at_A.sent.q + arrival s lane h + (32 * pattern_size s.link.params.e + 95))
            A is_locked in
            let one = at_A.sent.stands in
            let two = k.sent.stands in
            let same : at_A.sent.q ≡ k.sent.q = omega (arith, one, two) in
            let n : ℕ = q - k.sent.q in
            let there : k.sent.q + n ≡ q = omega arith in
            let leaves : k.sent.q + arrival s lane h + n + 64 ≡ x = omega arith in
            let w : StartsWith s h t lane i p g (omega arith) up (edges s h t lane c) c.mode
            (some-e s h t lane c) c.below k n = record {
              first = ap (λ (m : ℕ). is_first_place (at lanes_c s m).order) there ∙ sent.sent;
              locked = omega arith;
              by = omega arith;
              armed = ap (is_armed lanes_c s) leaves ∙ armed-after lanes_c s h t g A x a after by;
            } in
            started-with s h t lane i p g (omega arith) up (edges s h t lane c) c.mode
            (some-e s h t lane c) c.below k n w (λ m before other.
            let in_time = other.by in
            let arrive = arrives-at s h lane k.sent.q p m c.mode k.sent.stands in
            let past = after-arming A (k.sent.q + arrival s lane h + m + 64) a
            (omega arith) other.armed in
            let least = sent.least (k.sent.q + m) (comes-after A (k.sent.q + m) (omega arith))
            other.first in
            absurd (omega arith))
            ∙ ap (λ (m : ℕ). Some (at lanes_c s m).told.offset) leaves;
      }

  -- the least tick that sends what starts the lane
  least-sent : (A r : ℕ) → is_first_place (at lanes_c s r).order ≡ true → ComesAfter s lane h A r
      → (q : ℕ) × IsStartSent lanes_c s lane h A q × (q ≤ r)
  least-sent A r first comes =
      let test : ℕ → Bool = λ q. is_first_place (at lanes_c s q).order
      && nat_lt A (q + arrival s lane h + 64) in
      let here : test r ≡ true =
      ap₂ (λ (x y : Bool). x && y) first
      (lt-ltb A (r + arrival s lane h + 64) (after-comes A r comes)) in
      elim (cases_some (first_from test (suc r) 0)) [
        | inr none ↦ let no = (finds_none test (suc r) 0).0 none r (omega arith) (omega arith) in
            absurd (cc)
        | inl k ↦
            let found = (finds_least test (suc r) 0 k.0).0 k.1 in
            let least : IsLeast test 0 k.0 = found.0 in
            let parts = and_parts (is_first_place (at lanes_c s k.0).order)
            (nat_lt A (k.0 + arrival s lane h + 64)) least.passes in
            let inside = found.1 in (
              k.0,
              record {
                sent = parts.0;
                comes = comes-after A k.0 (ltb-true A (k.0 + arrival s lane h + 64) parts.1);
                least = λ i comes_i first_i. elim (cases_lt i k.0) [
                  | inr up ↦ up
                  | inl before ↦
                      let no = least.least i (omega arith) before in
                      let it : test i ≡ true = ap₂ (λ (x y : Bool). x && y) first_i
                      (lt-ltb A (i + arrival s lane h + 64) (after-comes A i comes_i)) in
                      absurd (cc)
                ];
              },
              omega arith,
            )
      ]

  pub starting : IsStarting lanes_c s h lane t
  starting =
      let g = on s h t lane c in
      let due = due-is in
      record {
        starts = λ A q a sent by.
            let number : q + arrival s lane h + 64 ≡ q + due_after s lane h = omega arith in
            subst (HasStarted lanes_c s h lane t) number (starts-then A q a sent (omega arith));
        no_other = λ A a never i low up. none-by i low up (λ r first in_time later armed.
            let past = after-arming A (r + arrival s lane h + 64) a later armed in
            let least = least-sent A r first (comes-after A r past) in
            let out = never least.0 least.1 in
            let le = least.2 in
            absurd (omega arith));
        one = λ b A q r a x y z w v o. let bad : true ≡ false = sym b ∙ c.mode in absurd (cc);
        unarmed = λ none. let above = g.above in
            let high = first-high lanes_c s h t g in none-by t (omega arith) (omega arith)
            (λ r first in_time later armed.
            let now = armed-later lanes_c s h t g (r + arrival s lane h + 64) t later in_time
            (omega arith) armed in absurd (cc));
      }

pub lane-start : (s : Plan) → IsPlanRead s → is_b s.link.params.mode ≡ false
    → LaneStart lanes_c lock_pattern s
lane-start s read mode h lane t below session lone damage =
    starting s h t lane
    (record {
      read = read;
      mode = mode;
      below = below;
      session = session;
      lone = lone;
      damage =
          damage;
    })
