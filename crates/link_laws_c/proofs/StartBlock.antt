-- The block with which a lane started in a tick.
use Rattle.std.proofs.Common.{◌≡◌, ℕ, ◌+◌, ◌*◌, ◌<◌, ◌≤◌, Bool, true, false, List, length, drop, Some, None, option_map, inl, inr, sym, ap, ◌∙◌, arith}
use Rattle.std.proofs.lemmas.Bool.{cases_lt}
use Rattle.jesd_base.specs.Search.{IsLeast}
use Rattle.jesd_base.proofs.BitLemmas.{finds_least}
use Rattle.link_params.specs.Lanes.{Taken}
use Rattle.scenario.specs.Plans.{Plan}
use Rattle.multiblock.specs.Places.{Place, least_place, pattern, pattern_size, span}
use Rattle.multiblock.specs.laws.PlaceLaws.{IsLeastPlace}
use Rattle.multiblock.proofs.PlaceLemmas.{finds_least_place, pattern_stays}
use Rattle.lane_c.specs.Locking.{offset_of, start, starts}
use Rattle.lane_c.specs.Received.{lanes_c}
use Rattle.link_model.specs.Sessions.{at, first_tick, is_armed, report_at, taken_at}
use Rattle.link_laws.specs.Premises.{arrival}
use Rattle.link_laws.specs.LaneLaws.{HasStarted, is_first_place}
use Rattle.link_laws.proofs.SessionStages.{Goes, first-high, first-low}
use Rattle.link_laws_c.proofs.Held.{InSessionC, edges, found-later, held, on, some-e}
use Rattle.link_laws_c.proofs.HeldPlace.{some-place}
use Rattle.link_laws_c.proofs.Holding.{Holds, arrives-at}
use Rattle.link_laws_c.proofs.LaneStarts.{none-without}
use Rattle.link_laws_c.proofs.SentTicks.{cases_some}
use Rattle.link_laws_c.proofs.SessionBits.{length-session-bits}
use Rattle.link_laws_c.proofs.StartOfPlace.{StartsWith, report-started, started-with, starts-with, with-starts}
use Rattle.link_laws_c.proofs.SessionWords.{bits_at, bits-longer}

some-same : {A : Type 0} (x y : A) → Some x ≡ Some y → x ≡ y
some-same x y e = cc

-- the block with which a lane started, once it has
pub record HasStartBlock (s : Plan) (h t lane u : ℕ) (p : Place) (k : Holds s h t lane u p) : Type 0
  where
    pub n : ℕ
    pub is : start s.link.params.e (taken_at lanes_c s lane u) p ≡ Some n
    pub first : is_first_place (at lanes_c s (k.sent.q + n)).order ≡ true
    pub locked : 32 * pattern_size s.link.params.e + 31 ≤ n
    pub by : k.sent.q + arrival s lane h + n + 64 ≤ u
    pub armed : is_armed lanes_c s (k.sent.q + arrival s lane h + n + 64) ≡ true
    pub least : (m : ℕ) → m < n → starts s.link.params.e (taken_at lanes_c s lane u) p m ≡ false

module _ (s : Plan) (h t lane : ℕ) (c : InSessionC s h t lane) where
  pub start-found : (u : ℕ) (p : Place) (k : Holds s h t lane u p) (o : ℕ)
      → first_tick lanes_c s h ≤ u → u ≤ t → (report_at lanes_c s lane u).started ≡ Some o
      → HasStartBlock s h t lane u p k
  unfolding start
  start-found u p k o low up shows =
      let g = on s h t lane c in
      let e = edges s h t lane c in
      let some = some-e s h t lane c in
      let taken : List Taken = taken_at lanes_c s lane u in
      let is = report-started s h t lane u p g low up e c.mode some c.below k in
      elim (cases_some (start s.link.params.e taken p)) [
        | inr none ↦ let nothing : (report_at lanes_c s lane u).started ≡ None = is
            ∙ ap (option_map (offset_of taken p)) none in absurd (cc)
        | inl f ↦
            let found = (finds_least (starts s.link.params.e taken p) (length taken) 0 f.0).0 f.1 in
            let l : IsLeast (starts s.link.params.e taken p) 0 f.0 = found.0 in
            let w = starts-with s h t lane u p g low up e c.mode some c.below k f.0 l.passes in
            record {
              n = f.0;
              is = f.1;
              first = w.first;
              locked = w.locked;
              by = w.by;
              armed =
                  w.armed;
              least = λ m before. l.least m (omega arith) before;
            }
      ]

  -- a place that was found by a tick whole is the least one of that tick too
  pub found-earlier : (u w : ℕ) (p : Place) → first_tick lanes_c s h ≤ w → w ≤ u → u ≤ t → h < u
      → least_place s.link.params.e 0 (bits_at lanes_c s lane u) ≡ Some p
      → p.first + span s.link.params.e ≤ length (bits_at lanes_c s lane w)
      → least_place s.link.params.e 0 (bits_at lanes_c s lane w) ≡ Some p
  found-earlier u w p low by up above found whole =
      let g = on s h t lane c in
      let ee : ℕ = s.link.params.e in
      let shorter : Goes lanes_c s h u = record {
        begins = g.begins;
        above = above;
        quiet = λ i a b. g.quiet i a (omega arith);
        goes = λ i a b. g.goes i a (omega arith);
      } in
      let old : List Bool = bits_at lanes_c s lane w in
      let more = bits-longer lanes_c s h u lane w shorter low by in
      let least : IsLeastPlace ee 0 (bits_at lanes_c s lane u) p =
      (finds_least_place ee 0 (bits_at lanes_c s lane u) p).0 found in
      let stands : pattern ee (drop p.first old) ≡ Some p.remainder =
      sym (pattern_stays ee p.first old more.0 whole)
      ∙ ap (λ (l : List Bool). pattern ee (drop p.first l)) (sym more.1) ∙ least.stands in
      let there = some-place ee p.first p.remainder old whole stands in
      let late = found-later s h t lane c w u there.0 low by up there.1 in
      there.1 ∙ sym late ∙ found

  -- a lane that started in tick x started with the block that left in it
  pub start-block : (x : ℕ) (p : Place) (k : Holds s h t lane t p)
      → least_place s.link.params.e 0 (bits_at lanes_c s lane t) ≡ Some p
      → HasStarted lanes_c s h lane t x
      → (b : HasStartBlock s h t lane t p k) × (k.sent.q + arrival s lane h + b.n + 64 ≡ x)
  start-block x p k found began =
      let g = on s h t lane c in
      let e = edges s h t lane c in
      let some = some-e s h t lane c in
      let above = g.above in
      let fl = first-low lanes_c s h t g in
      let fh = first-high lanes_c s h t g in
      let from = began.from in
      let by = began.by in
      let b = start-found t p k (at lanes_c s x).told.offset (omega arith) (omega arith)
      (began.shows t by (omega arith)) in
      let y : ℕ = k.sent.q + arrival s lane h + b.n + 64 in
      let out = b.by in
      let far = b.locked in
      let stands = k.sent.stands in
      let arrive = arrives-at s h lane k.sent.q p b.n c.mode stands in
      let low_y : first_tick lanes_c s h ≤ y = omega arith in (
        b,
        elim (cases_lt y x) [
          | inl early ↦
              let long = length-session-bits s h t g lane y low_y (omega arith) e c.mode c.below in
              let whole : p.first + span s.link.params.e ≤ length (bits_at lanes_c s lane y) =
              omega arith in
              let then = held s h t lane c y p low_y (omega arith)
              (found-earlier t y p low_y (omega arith) (omega arith) (omega arith) found
              whole) in
              let there = then.sent.stands in
              let same : then.sent.q ≡ k.sent.q = omega (arith, there, stands) in
              let leaves : then.sent.q + arrival s lane h + b.n + 64 ≡ y = omega arith in
              let w : StartsWith s h t lane y p g low_y (omega arith) e c.mode some c.below then
              b.n = record {
                first = ap (λ (m : ℕ). is_first_place (at lanes_c s (m + b.n)).order) same
                    ∙ b.first;
                locked = far;
                by = omega arith;
                armed = ap (is_armed lanes_c s) leaves ∙ b.armed;
              } in
              let shows = started-with s h t lane y p g low_y (omega arith) e c.mode some
              c.below then b.n w (λ m before other.
              let soon = other.by in
              let leaves_m : k.sent.q + arrival s lane h + m + 64 ≡ then.sent.q + arrival s lane h
              + m + 64 = omega arith in
              let w_t : StartsWith s h t lane t p g (omega arith) (omega arith) e c.mode some
              c.below k m = record {
                first = ap (λ (j : ℕ). is_first_place (at lanes_c s (j + m)).order) (sym same)
                    ∙ other.first;
                locked = other.locked;
                by = omega arith;
                armed = ap (is_armed lanes_c s) leaves_m ∙ other.armed;
              } in
              let yes_starts = with-starts s h t lane t p g (omega arith) (omega arith) e c.mode
              some c.below k m w_t in
              let none = b.least m before in
              absurd (cc)) in
              let nothing = began.none_before y low_y early in
              absurd (cc)
          | inr late ↦ elim (cases_lt x y) [
            | inr same ↦ omega arith
            | inl before ↦
                elim (cases_some (least_place s.link.params.e 0 (bits_at lanes_c s lane x))) [
                  | inr none ↦ let nothing = none-without s h t lane c x none in
                      let shows = began.shows x (omega arith) by in absurd (cc)
                  | inl f ↦
                      let same_place : f.0 ≡ p =
                      some-same f.0 p
                      (sym (found-later s h t lane c x t f.0 from by (omega arith) f.1)
                      ∙ found) in
                      let found_x : least_place s.link.params.e 0 (bits_at lanes_c s lane x)
                      ≡ Some p = f.1 ∙ ap Some same_place in
                      let then = held s h t lane c x p from by found_x in
                      let b_x = start-found x p then (at lanes_c s x).told.offset from by
                      (began.shows x (omega arith) by) in
                      let there = then.sent.stands in
                      let same : then.sent.q ≡ k.sent.q = omega (arith, there, stands) in
                      let soon = b_x.by in
                      let leaves : k.sent.q + arrival s lane h + b_x.n + 64 ≡ then.sent.q
                      + arrival s lane h + b_x.n + 64 = omega arith in
                      let w : StartsWith s h t lane t p g (omega arith) (omega arith) e c.mode some
                      c.below k b_x.n = record {
                        first = ap (λ (m : ℕ). is_first_place (at lanes_c s (m + b_x.n)).order)
                            (sym same) ∙ b_x.first;
                        locked = b_x.locked;
                        by = omega arith;
                        armed = ap (is_armed lanes_c s) leaves ∙ b_x.armed;
                      } in
                      let yes_starts = with-starts s h t lane t p g (omega arith)
                      (omega arith) e c.mode some c.below k b_x.n w in
                      let none = b.least b_x.n (omega arith) in
                      absurd (cc)
                ]
          ]
        ],
      )
