-- What a lane reports by the place that it holds: when it is locked, that it is not lost, and which
-- of its blocks begin an extended multiblock: those whose order is the first place.
use Rattle.std.proofs.Common.{◌≡◌, ℕ, ◌+◌, ◌-◌, ◌*◌, ◌<◌, ◌≤◌, nat_le, Bool, true, false, List, length, Some, is_some, inl, inr, refl, sym, ap, ◌∙◌, arith}
use Rattle.std.proofs.lemmas.Bool.{le-leb, leb-true}
use Rattle.link_params.specs.declared.alarms.Device.TheVariants.{Tx}
use Rattle.link_params.specs.declared.lane_report.LaneReport.{LaneReport}
use Rattle.link_params.specs.Laws.{is_b}
use Rattle.link_params.specs.Lanes.{Taken}
use Rattle.scenario.specs.Plans.{Plan}
use Rattle.link_model.specs.Edges.{phase}
use Rattle.multiblock.specs.Places.{Place, least_place, pattern_size}
use Rattle.multiblock.specs.laws.PlaceLaws.{IsLeastPlace}
use Rattle.multiblock.proofs.PlaceLemmas.{finds_least_place}
use Rattle.lane_c.specs.Locking.{arrives}
use Rattle.lane_c.specs.Received.{lanes_c, report_of}
use Rattle.link_model.specs.Sessions.{first_tick, report_at, taken_at}
use Rattle.link_model.specs.Wiring.{route_of}
use Rattle.link_laws.specs.Premises.{Lone, arrival, lock_pattern}
use Rattle.link_laws.proofs.Phases.{HasEdges, phase-of}
use Rattle.link_laws.proofs.SessionStages.{Goes}
use Rattle.link_laws_c.proofs.HeldPlace.{place-none, report-held, report-none}
use Rattle.link_laws_c.proofs.Holding.{Holds, arrives-at, lone-grid, report-at}
use Rattle.link_laws_c.proofs.SentTicks.{cases_some}
use Rattle.link_laws_c.proofs.SessionBits.{length-taken-at}
use Rattle.link_laws_c.proofs.SessionWords.{bits_at}

-- ---- a lane is locked only where the transmitter has a phase

true-false : {A : Type 0} → false ≡ true → A
true-false e = absurd (cc)

-- a lane that is locked has a place, so the least one stands
pub place-of-lock : (s : Plan) (lane u : ℕ) → lane < s.link.params.l
    → (report_at lanes_c s lane u).locked ≡ true
    → (p : Place) × (least_place s.link.params.e 0 (bits_at lanes_c s lane u) ≡ Some p)
place-of-lock s lane u below locked =
    elim (cases_some (least_place s.link.params.e 0 (bits_at lanes_c s lane u))) [
      | inl k ↦ k
      | inr none ↦
          let taken : List Taken = taken_at lanes_c s lane u in
          let is = report-at s lane u below ∙ report-none s.link.params s.link.timing (route_of s lane) taken
          (place-none s.link.params.e taken none) in
          true-false (sym (ap (λ (r : LaneReport). r.locked) is) ∙ locked)
    ]

pub locked-to-sender : (s : Plan) (h t lane : ℕ) → Goes lanes_c s h t → first_tick lanes_c s h ≤ t
    → HasEdges s → is_b s.link.params.mode ≡ false → lane < s.link.params.l
    → Lone lanes_c lock_pattern s h t → (report_at lanes_c s lane t).locked ≡ true
    → is_some (phase s Tx t) ≡ true
locked-to-sender s h t lane g low e mode below lone locked =
    let k = place-of-lock s lane t below locked in
    let p : Place = k.0 in
    let least : IsLeastPlace s.link.params.e 0 (bits_at lanes_c s lane t) p =
    (finds_least_place s.link.params.e 0 (bits_at lanes_c s lane t) p).0 k.1 in
    let on = lone-grid s h t t lane p.first p.remainder g low (omega arith) mode below lone
    least.whole least.stands in
    ap is_some (phase-of s Tx t on.edge e.regular on.gives)

-- ---- the report of a lane that holds a place

pub report-of-place : (s : Plan) (h t lane u : ℕ) (p : Place) → lane < s.link.params.l
    → Holds s h t lane u p
    → report_at lanes_c s lane u ≡ report_of s.link.params (taken_at lanes_c s lane u) (Some p)
report-of-place s h t lane u p below k = report-at s lane u below
    ∙ report-held s.link.params s.link.timing (route_of s lane) (taken_at lanes_c s lane u) p k.held

pub kept-of-place : (s : Plan) (h t lane u : ℕ) (p : Place) → lane < s.link.params.l
    → Holds s h t lane u p → (report_at lanes_c s lane u).lost ≡ false
kept-of-place s h t lane u p below k =
    ap (λ (r : LaneReport). r.lost) (report-of-place s h t lane u p below k) ∙ ap is_some k.never

-- it is locked once 32·V + 95 blocks more have come
pub locked-of-place : (s : Plan) (h t lane u : ℕ) (p : Place) → Goes lanes_c s h t
    → first_tick lanes_c s h ≤ u → u ≤ t → is_b s.link.params.mode ≡ false
    → lane < s.link.params.l → (k : Holds s h t lane u p)
    → (report_at lanes_c s lane u).locked
    ≡ nat_le (k.sent.q + arrival s lane h + (32 * pattern_size s.link.params.e + 95)) u
locked-of-place s h t lane u p g low up mode below k =
    let n : ℕ = 32 * pattern_size s.link.params.e + 95 in
    let f : ℕ = first_tick lanes_c s h in
    let count = length-taken-at s h t g lane u low up in
    let arrive = arrives-at s h lane k.sent.q p n mode k.sent.stands in
    let last : length (taken_at lanes_c s lane u) - 1 ≡ u - f = omega arith in
    ap (λ (r : LaneReport). r.locked) (report-of-place s h t lane u p below k)
    ∙ ap (nat_le (arrives p n)) last
    ∙ same (nat_le (arrives p n) (u - f)) (nat_le (k.sent.q + arrival s lane h + n) u)
    (λ is. let a = leb-true (arrives p n) (u - f) is in le-leb _ u (omega arith))
    (λ is. let a = leb-true (k.sent.q + arrival s lane h + n) u is in
    le-leb (arrives p n) (u - f) (omega arith))
  where
    same : (a b : Bool) → (a ≡ true → b ≡ true) → (b ≡ true → a ≡ true) → a ≡ b
    same true true x y = refl
    same false false x y = refl
    same true false x y = sym (x refl)
    same false true x y = y refl
