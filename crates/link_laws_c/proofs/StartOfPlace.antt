-- The start of a lane that holds a place: with the first block that begins an extended multiblock
-- and leaves the wait for its check in a tick in which the lane is locked and armed.
use Rattle.std.proofs.Common.{◌≡◌, ℕ, zero, suc, ◌+◌, ◌*◌, ◌<◌, ◌≤◌, nat_le, ◌&&◌, Bool, true, false, List, [], ◌∷◌, length, get_or, Some, None, option_map, inl, inr, refl, sym, ap, ap₂, ◌∙◌, arith}
use Rattle.std.proofs.lemmas.Bool.{cases_lt, cases_Bool, le-leb, leb-true}
use Rattle.jesd_base.specs.Search.{IsLeast, first_from}
use Rattle.jesd_base.proofs.BitLemmas.{finds_least, finds_none}
use Rattle.link_params.specs.declared.lane_report.LaneReport.{LaneReport}
use Rattle.link_params.specs.declared.orders.RxOrder.{RxOrder}
use Rattle.link_params.specs.Laws.{is_b}
use Rattle.link_params.specs.Lanes.{Taken}
use Rattle.scenario.specs.Plans.{Plan}
use Rattle.multiblock.specs.Places.{Place, pattern_size}
use Rattle.lane_c.specs.Locking.{arrives, is_first, is_locked, leaves, no_order, offset_of, order_at, start, starts}
use Rattle.lane_c.specs.Received.{lanes_c}
use Rattle.link_model.specs.Sessions.{at, first_tick, is_armed, report_at, taken_at}
use Rattle.link_laws.specs.Premises.{arrival}
use Rattle.link_laws.specs.LaneLaws.{is_first_place}
use Rattle.link_laws.proofs.Phases.{HasEdges}
use Rattle.link_laws.proofs.SessionStages.{Goes}
use Rattle.link_laws_c.proofs.FirstBlocks.{first-of-place}
use Rattle.link_laws_c.proofs.HeldReport.{report-of-place}
use Rattle.link_laws_c.proofs.Holding.{Holds, arrives-at}
use Rattle.link_laws_c.proofs.SessionBits.{length-taken-at, taken-get}

past : {A : Type 0} (l : List A) (i : ℕ) (d : A) → length l ≤ i → get_or l i d ≡ d
past [] i d up = refl
past (x ∷ l) zero d up = absurd (omega arith)
past (x ∷ l) (suc i) d up = past l i d (omega arith)

and3 : (a b c : Bool) → (a && (b && c)) ≡ true → (a ≡ true) × ((b ≡ true) × (c ≡ true))
and3 true true true e = (refl, (refl, refl))
and3 true true false e = let bad : false ≡ true = e in absurd (cc)
and3 true false c e = let bad : false ≡ true = e in absurd (cc)
and3 false b c e = let bad : false ≡ true = e in absurd (cc)

module _ (s : Plan) (h t lane u : ℕ) (p : Place) (g : Goes lanes_c s h t)
    (low : first_tick lanes_c s h ≤ u) (up : u ≤ t) (e : HasEdges s)
    (mode : is_b s.link.params.mode ≡ false) (some : 1 ≤ s.link.params.e)
    (below : lane < s.link.params.l) (k : Holds s h t lane u p) where
  -- the tick in which block n leaves
  abbrev pub left_at : ℕ → ℕ
  left_at n = k.sent.q + arrival s lane h + n + 64

  -- block n starts the lane, by the ticks of the run
  pub record StartsWith (n : ℕ) : Type 0 where
    pub first : is_first_place (at lanes_c s (k.sent.q + n)).order ≡ true
    pub locked : 32 * pattern_size s.link.params.e + 31 ≤ n
    pub by : left_at n ≤ u
    pub armed : is_armed lanes_c s (left_at n) ≡ true

  abbrev taken : List Taken
  taken = taken_at lanes_c s lane u

  pub leaves-at : (n : ℕ) → first_tick lanes_c s h + leaves p n ≡ left_at n
  leaves-at n = let a = arrives-at s h lane k.sent.q p n mode k.sent.stands in omega arith

  pub order-of : (n : ℕ) → left_at n ≤ u
      → order_at taken (leaves p n) ≡ (at lanes_c s (left_at n)).told
  order-of n inside =
      let l = leaves-at n in
      ap (λ (x : Taken). x.order)
      (taken-get s h t g lane u low up (leaves p n) (record { order = no_order; word = [] })
      (omega arith))
      ∙ ap (λ (q : ℕ). (at lanes_c s q).told) l

  order-past : (n : ℕ) → u < left_at n → (order_at taken (leaves p n)).armed ≡ false
  order-past n out =
      let l = leaves-at n in
      let count = length-taken-at s h t g lane u low up in
      ap (λ (x : Taken). x.order.armed)
      (past taken (leaves p n) (record { order = no_order; word = [] }) (omega arith))

  locked-at : (n : ℕ)
      → is_locked s.link.params.e p (leaves p n)
      ≡ nat_le (arrives p (32 * pattern_size s.link.params.e + 95)) (leaves p n)
  locked-at n = refl

  -- what starts says
  pub starts-with : (n : ℕ) → starts s.link.params.e taken p n ≡ true → StartsWith n
  starts-with n is =
      let v : ℕ = 32 * pattern_size s.link.params.e in
      let parts = and3 (is_first s.link.params.e p n) (is_locked s.link.params.e p (leaves p n))
      (order_at taken (leaves p n)).armed is in
      let l = leaves-at n in
      let a = arrives-at s h lane k.sent.q p n mode k.sent.stands in
      let b = arrives-at s h lane k.sent.q p (v + 95) mode k.sent.stands in
      let lock : arrives p (v + 95) ≤ leaves p n =
      leb-true (arrives p (v + 95)) (leaves p n) parts.1.0 in
      let far : v + 31 ≤ n = omega arith in
      let soon = k.soon in
      elim (cases_lt u (left_at n)) [
        | inl out ↦ let none = order-past n out in let armed = parts.1.1 in absurd (cc)
        | inr inside ↦
            let armed : is_armed lanes_c s (left_at n) ≡ true =
            sym (ap (λ (o : RxOrder). o.armed) (order-of n inside)) ∙ parts.1.1 in
            let first = first-of-place s h t lane u n p e mode some k (omega arith) (omega arith) in
            record { first = sym first ∙ parts.0; locked = far; by = inside; armed = armed }
      ]

  pub with-starts : (n : ℕ) → StartsWith n → starts s.link.params.e taken p n ≡ true
  with-starts n w =
      let v : ℕ = 32 * pattern_size s.link.params.e in
      let far = w.locked in
      let by = w.by in
      let l = leaves-at n in
      let a = arrives-at s h lane k.sent.q p n mode k.sent.stands in
      let b = arrives-at s h lane k.sent.q p (v + 95) mode k.sent.stands in
      let soon = k.soon in
      let first : is_first s.link.params.e p n ≡ true =
      first-of-place s h t lane u n p e mode some k (omega arith) (omega arith) ∙ w.first in
      let lock : is_locked s.link.params.e p (leaves p n) ≡ true =
      le-leb (arrives p (v + 95)) (leaves p n) (omega arith) in
      let armed : (order_at taken (leaves p n)).armed ≡ true =
      ap (λ (o : RxOrder). o.armed) (order-of n by) ∙ w.armed in
      ap₂ (λ (x y : Bool). x && y) first (ap₂ (λ (x y : Bool). x && y) lock armed)

  pub report-started : (report_at lanes_c s lane u).started ≡ option_map (offset_of taken p)
      (start s.link.params.e taken p)
  report-started = ap (λ (r : LaneReport). r.started) (report-of-place s h t lane u p below k)

  -- the lane has started with the least such block
  pub started-with : (n : ℕ) → StartsWith n → ((m : ℕ) → m < n → StartsWith m → ⊥)
      → (report_at lanes_c s lane u).started ≡ Some (at lanes_c s (left_at n)).told.offset
  unfolding start
  started-with n w least =
      let by = w.by in
      let l = leaves-at n in
      let count = length-taken-at s h t g lane u low up in
      let is : IsLeast (starts s.link.params.e taken p) 0 n = record {
        from = omega arith;
        passes = with-starts n w;
        least = λ m from before. elim (cases_Bool (starts s.link.params.e taken p m)) [
          | inr fails ↦ fails
          | inl passes ↦ absurd (least m before (starts-with m passes))
        ];
      } in
      let found : first_from (starts s.link.params.e taken p) (length taken) 0 ≡ Some n =
      (finds_least (starts s.link.params.e taken p) (length taken) 0 n).1 is (omega arith) in
      report-started ∙ ap (option_map (offset_of taken p)) found
      ∙ ap (λ (o : RxOrder). Some o.offset) (order-of n by)

  -- without such a block it has not
  pub started-none : ((n : ℕ) → StartsWith n → ⊥) → (report_at lanes_c s lane u).started ≡ None
  unfolding start
  started-none none =
      let found : first_from (starts s.link.params.e taken p) (length taken) 0 ≡ None =
      (finds_none (starts s.link.params.e taken p) (length taken) 0).1 (λ m from before.
      elim (cases_Bool (starts s.link.params.e taken p m)) [
        | inr fails ↦ fails
        | inl passes ↦ absurd (none m (starts-with m passes))
      ]) in
      report-started ∙ ap (option_map (offset_of taken p)) found
