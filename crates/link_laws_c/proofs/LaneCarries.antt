-- The law of the data for 64b/66b lanes, where the checks find each multiblock as it was sent; so
-- on a clean line.
use Rattle.std.proofs.Common.{◌≡◌, ℕ, zero, suc, ◌+◌, ◌-◌, ◌*◌, ◌<◌, ◌≤◌, true, false, List, [], ◌∷◌, map, length, drop, get_or, slice_get, slice_index, Some, inl, inr, refl, sym, subst, ap, ap₂, ◌∙◌, arith}
use Rattle.std.proofs.lemmas.Bool.{cond-true}
use Rattle.std.proofs.lemmas.List.{get_or-drop, get_or-map, get_or-take, length-drop, length-map, length-take}
use Rattle.link_params.specs.declared.alarms.Device.TheVariants.{Tx}
use Rattle.link_params.specs.declared.cells.LaneCell.{LaneCell}
use Rattle.link_params.specs.declared.cells.Mark.TheVariants.{Ok as Good}
use Rattle.link_params.specs.declared.lane_report.LaneReport.{LaneReport}
use Rattle.link_params.specs.declared.orders.RxOrder.{RxOrder}
use Rattle.link_params.specs.declared.orders.TxOrder.{TxOrder}
use Rattle.link_params.specs.Lanes.{Entry, Placed, Held as HeldCell, Taken, is_inside}
use Rattle.scenario.specs.Plans.{Plan}
use Rattle.multiblock.specs.Places.{Place, least_place}
use Rattle.lane_c.specs.Locking.{leaves, offset_of, place, start}
use Rattle.lane_c.specs.Statuses.{Judged, known_blocks}
use Rattle.lane_c.specs.Received.{cell, cells, cells_left, entries_c, entries_from, entries_of, lanes_c}
use Rattle.link_model.specs.Sessions.{at, entries_at, first_tick, report_at, taken_at}
use Rattle.link_model.specs.Wiring.{route_of, wire_of}
use Rattle.link_laws.specs.Premises.{Clean, arrival}
use Rattle.link_laws.specs.LaneLaws.{Carries, HasNoFault, HasStarted, IsCarrying, IsEntryOf, due_after}
use Rattle.link_laws.proofs.SessionStages.{first-high, first-low}
use Rattle.link_laws_c.proofs.Held.{InSessionC, edges, held, on, some-e}
use Rattle.link_laws_c.proofs.HeldPlace.{place-none, report-none}
use Rattle.link_laws_c.proofs.HeldReport.{kept-of-place, report-of-place}
use Rattle.link_laws_c.proofs.Holding.{Holds, arrives-at, report-at}
use Rattle.link_laws_c.proofs.JudgedBlocks.{cells-get, cells-length, known-length}
use Rattle.link_laws_c.proofs.LaneStarts.{due-is, none-without}
use Rattle.link_laws_c.proofs.OnGrid.{gives-since}
use Rattle.link_laws_c.proofs.ReadBlocks.{AreRead, IsCell, are-read-clean, cell-of}
use Rattle.link_laws_c.proofs.SentTicks.{cases_some, order-block}
use Rattle.link_laws_c.proofs.SessionBits.{length-session-bits, length-taken-at}
use Rattle.link_laws_c.proofs.StartBlock.{HasStartBlock, start-block}
use Rattle.link_laws_c.proofs.StartOfPlace.{leaves-at, order-of}
use Rattle.link_laws_c.proofs.SessionWords.{bits_at}

slice-at : {A : Type 0} (l : List A) (i : ℕ) (d : A) → i < length l
    → slice_get l i ≡ Some (get_or l i d)
slice-at [] i d inside = absurd (omega arith)
slice-at (x ∷ l) zero d inside = refl
slice-at (x ∷ l) (suc i) d inside = slice-at l i d (omega arith)

module _ (s : Plan) (h t lane : ℕ) (c : InSessionC s h t lane) where
  kept : (report_at lanes_c s lane t).lost ≡ false
  kept =
      let g = on s h t lane c in
      let high = first-high lanes_c s h t g in
      let above = g.above in
      elim (cases_some (least_place s.link.params.e 0 (bits_at lanes_c s lane t))) [
        | inr none ↦
            let taken : List Taken = taken_at lanes_c s lane t in
            ap (λ (r : LaneReport). r.lost) (report-at s lane t c.below
            ∙ report-none s.link.params s.link.timing (route_of s lane) taken
            (place-none s.link.params.e taken none))
        | inl f ↦ kept-of-place s h t lane t f.0 c.below
            (held s h t lane c t f.0 (omega arith) (omega arith) f.1)
      ]

  idle : HasNoFault (report_at lanes_c s lane t).ilas
  idle =
      let g = on s h t lane c in
      let high = first-high lanes_c s h t g in
      let above = g.above in
      elim (cases_some (least_place s.link.params.e 0 (bits_at lanes_c s lane t))) [
        | inr none ↦
            let taken : List Taken = taken_at lanes_c s lane t in
            let is = report-at s lane t c.below ∙ report-none s.link.params s.link.timing (route_of s lane) taken
            (place-none s.link.params.e taken none) in
            subst HasNoFault (sym (ap (λ (r : LaneReport). r.ilas) is)) tt
        | inl f ↦
            let is = report-of-place s h t lane t f.0 c.below
            (held s h t lane c t f.0 (omega arith) (omega arith) f.1) in
            subst HasNoFault (sym (ap (λ (r : LaneReport). r.ilas) is)) tt
      ]

  -- the entries are the cells of the blocks from the one with which the lane started on
  entries-are : (p : Place) (n : ℕ) → place s.link.params.e (taken_at lanes_c s lane t) ≡ Some p
      → start s.link.params.e (taken_at lanes_c s lane t) p ≡ Some n
      → is_inside s.link.timing (offset_of (taken_at lanes_c s lane t) p n) ≡ true
      → entries_at lanes_c s lane t ≡ map HeldCell
      (cells_left s.link.params (taken_at lanes_c s lane t) p n)
  unfolding entries_c
  entries-are p n has begins inside =
      let taken : List Taken = taken_at lanes_c s lane t in
      ap (entries_of s.link.params s.link.timing taken) has
      ∙ ap (entries_from s.link.params s.link.timing taken p) begins
      ∙ cond-true (is_inside s.link.timing (offset_of taken p n))
      (map HeldCell (cells_left s.link.params taken p n)) [] inside

  -- the entry of each tick since
  entry-of : ((p : Place) (k : Holds s h t lane t p) → AreRead s h t lane c p k) → (x y q : ℕ)
      → HasStarted lanes_c s h lane t x
      → is_inside s.link.timing (at lanes_c s x).told.offset ≡ true → x ≤ y → y ≤ t
      → q + due_after s lane h ≡ y → IsEntryOf lanes_c s h lane t (y - x) q
  entry-of reads x y q began inside since by is =
      let g = on s h t lane c in
      let e = edges s h t lane c in
      let some = some-e s h t lane c in
      let high = first-high lanes_c s h t g in
      let fl = first-low lanes_c s h t g in
      let above = g.above in
      let from = began.from in
      let low_t : first_tick lanes_c s h ≤ t = omega arith in
      let taken : List Taken = taken_at lanes_c s lane t in
      let shows = began.shows t (omega arith) (omega arith) in
      elim (cases_some (least_place s.link.params.e 0 (bits_at lanes_c s lane t))) [
        | inr none ↦ let nothing = none-without s h t lane c t none in absurd (cc)
        | inl f ↦
            let p : Place = f.0 in
            let k : Holds s h t lane t p = held s h t lane c t p low_t (omega arith) f.1 in
            let found = start-block s h t lane c x p k f.1 began in
            let b : HasStartBlock s h t lane t p k = found.0 in
            let n : ℕ = b.n in
            let at_x : k.sent.q + arrival s lane h + n + 64 ≡ x = found.1 in
            let due = due-is s h t lane c in
            let locked = b.locked in
            let soon = k.soon in
            let stands = k.sent.stands in
            let arrive = arrives-at s h lane k.sent.q p n c.mode stands in
            let i : ℕ = y - x in
            let m : ℕ = n - 1 + i in
            let block : k.sent.q + suc m ≡ q = omega arith in
            let l_x = leaves-at s h t lane t p g low_t (omega arith) e c.mode some c.below k n in
            let offset : offset_of taken p n ≡ (at lanes_c s x).told.offset =
            ap (λ (o : RxOrder). o.offset)
            (order-of s h t lane t p g low_t (omega arith) e c.mode some c.below k n b.by)
            ∙ ap (λ (z : ℕ). (at lanes_c s z).told.offset) at_x in
            let entries = entries-are p n k.held b.is (ap (is_inside s.link.timing) offset
            ∙ inside) in
            let bits_long = length-session-bits s h t g lane t low_t (omega arith) e c.mode
            c.below in
            let all : List Judged = known_blocks s.link.params.mode p (bits_at lanes_c s lane t) in
            let all_long = known-length s.link.params.mode p (bits_at lanes_c s lane t) in
            let arrived = arrives-at s h lane k.sent.q p (m + 65) c.mode stands in
            let room : p.first + 66 * (m + 66) ≤ length (bits_at lanes_c s lane t) = omega arith in
            let rest : List Judged = drop (n - 1) all in
            let rest_long = length-drop (n - 1) all in
            let taken_long = length-taken-at s h t g lane t low_t (omega arith) in
            let cs : List LaneCell = cells rest in
            let cs_long = cells-length rest in
            let count : ℕ = length taken - leaves p n in
            let few : i < count = omega arith in
            let left : List LaneCell = cells_left s.link.params taken p n in
            let left_long : length left ≡ _ = length-take count cs in
            let dj : Judged = record { status = Good; payload = [] } in
            let dc : LaneCell = record { value = 0; mark = Good } in
            let x_cell : LaneCell = cell (get_or all m dj) (get_or all (suc m) dj) in
            let one_more : n - 1 + suc i ≡ suc m = omega arith in
            let cell_is : get_or left i dc ≡ x_cell =
            get_or-take count cs i dc few ∙ cells-get rest i dj dc (omega arith)
            ∙ ap₂ cell (get_or-drop (n - 1) all i dj) (get_or-drop (n - 1) all (suc i) dj
            ∙ ap (λ (z : ℕ). get_or all z dj) one_more) in
            let inside_left : i < length left = omega arith in
            let held_long = length-map left HeldCell in
            let good_cell : IsCell s h t lane c p k m x_cell =
            cell-of s h t lane c p k (reads p k) m dj (omega arith) (omega arith) (omega arith)
            (omega arith) in
            let order = order-block s q k.sent.edge e c.mode
            (gives-since s Tx t q k.sent.edge k.sent.gives (omega arith) (omega arith)) in
            let value : x_cell.value ≡ slice_index (at lanes_c s q).handed (wire_of s lane) =
            good_cell.octets_are ∙ ap (λ (z : ℕ). slice_index (at lanes_c s z).handed (wire_of s lane))
            block in
            record {
              entry = HeldCell x_cell;
              found = ap (λ (l : List Entry). slice_get l i) entries
                  ∙ slice-at (map HeldCell left) i Placed (omega arith)
                  ∙ ap Some (get_or-map HeldCell left i dc Placed inside_left
                  ∙ ap HeldCell cell_is);
              carries =
                  subst (λ (o : TxOrder). Carries o (slice_index (at lanes_c s q).handed (wire_of s lane))
                  (HeldCell x_cell)) (sym order) value;
              well = (good_cell.clean, good_cell.not_bad);
            }
      ]

  pub carrying : ((p : Place) (k : Holds s h t lane t p) → AreRead s h t lane c p k)
      → IsCarrying lanes_c s h lane t
  carrying reads = record { kept = kept; no_fault = idle; entries = entry-of reads }

  pub carrying-clean : Clean s h t → IsCarrying lanes_c s h lane t
  carrying-clean clean = carrying (λ p k. are-read-clean s h t lane c p k clean)
