-- The mark of a delivered frame is no worse than those of the entries that it comes of.
use Rattle.std.proofs.Common.{◌≡◌, ◌≢◌, ℕ, zero, suc, ◌+◌, ◌*◌, ◌<◌, ◌≤◌, List, [], ◌∷◌, All, map, take, drop, fold, slice_get, Some, refl, sym, subst, ap₂, arith}
use Rattle.std.specs.List.{flat_map}
use Rattle.std.proofs.lemmas.List.Elements.{All-append, All-cons, All-drop, All-head, All-map, All-nil, All-tail, All-take}
use Rattle.jesd_base.specs.Bits.{bits, value}
use Rattle.link_params.specs.declared.cells.LaneCell.{LaneCell}
use Rattle.link_params.specs.declared.cells.Mark.{Mark}
use Rattle.link_params.specs.declared.cells.Mark.TheVariants.{Ok as Good, Fixed, Bad}
use Rattle.link_params.specs.declared.fields.Params.{Params}
use Rattle.link_params.specs.Lanes.{Entry, LaneKind, Placed, Held, worse}
use Rattle.link_params.specs.Numbers.{octets_per_tick}
use Rattle.scenario.specs.Plans.{Plan, numbers_from}
use Rattle.link_model.specs.Gives.{frame_cells, octets_given, part_of_frame}
use Rattle.link_model.specs.Sessions.{entries_at}
use Rattle.link_model.specs.Wiring.{lane_for}
use Rattle.link_model.proofs.Wirings.{lane-for-below}
use Rattle.link_laws.specs.LaneLaws.{IsEntryOf, IsEntryWell, IsMarkedWell}
use Rattle.link_laws.proofs.Earlier.{clean-earlier}
use Rattle.link_laws.proofs.Delivered.{lanes_entries, none-given, octets-more, octets_of_entry}
use Rattle.link_laws.proofs.FrameWords.{cells-by-lane}

worse-not-bad : (a b : Mark) → a ≢ Bad → b ≢ Bad → worse a b ≢ Bad
worse-not-bad Good b one other = other
worse-not-bad Fixed Good one other = one
worse-not-bad Fixed Fixed one other = one
worse-not-bad Fixed Bad one other = other
worse-not-bad Bad b one other = absurd (one refl)

all-of : {A : Type 0} (P : A → Type 0) (xs : List A) → ((x : A) → P x) → All P xs
all-of P [] each = All-nil P
all-of P (x ∷ xs) each = All-cons P x xs (each x) (all-of P xs each)

all-flat : {A : Type 0} (P : A → Type 0) (f : ℕ → List A) (n a : ℕ)
    → ((x : ℕ) → x < a + n → All P (f x)) → All P (flat_map f (numbers_from a n))
unfolding numbers_from
all-flat P f zero a each = All-nil P
all-flat P f (suc n) a each = All-append P (f a) (flat_map f (numbers_from (suc a) n))
    (each a (omega arith)) (all-flat P f n (suc a) (λ x below. each x (omega arith)))

-- marks of a tick's premises are marks of a later one's
pub marked-later : (s : Plan) (h t u : ℕ) (m : Mark) → u ≤ t → IsMarkedWell s h u m
    → IsMarkedWell s h t m
marked-later s h t u m low well = (λ clean. well.0 (clean-earlier s h t u low clean), well.1)

module _ (s : Plan) (h t : ℕ) where
  abbrev IsCellWell : LaneCell → Type 0
  IsCellWell c = IsMarkedWell s h t c.mark

  good-well : IsMarkedWell s h t Good
  good-well = (λ clean. refl, λ e. cc)

  worse-well : (a b : Mark) → IsMarkedWell s h t a → IsMarkedWell s h t b
      → IsMarkedWell s h t (worse a b)
  worse-well a b one other =
      (λ clean. ap₂ worse (one.0 clean) (other.0 clean), worse-not-bad a b one.1 other.1)

  -- the worst of marks that are well
  worst-well : (cells : List LaneCell) (m : Mark) → All IsCellWell cells → IsMarkedWell s h t m
      → IsMarkedWell s h t (fold worse m (map (λ (c : LaneCell). c.mark) cells))
  worst-well [] m all well = well
  worst-well (c ∷ cells) m all well =
      worst-well cells (worse m c.mark) (All-tail IsCellWell c cells all)
      (worse-well m c.mark well (All-head IsCellWell c cells all))

  entry-well : (p : Params) (e : Entry) → IsEntryWell s h t e → All IsCellWell (octets_of_entry p e)
  entry-well p Placed well = All-nil IsCellWell
  entry-well p (Held c) well =
      let octet : ℕ → LaneCell = λ j. let y : LaneCell =
      record {
        value = value (take 8 (drop (8 * j) (bits (8 * octets_per_tick p) c.value)));
        mark = c.mark;
      } in y in
      All-map IsCellWell octet (numbers_from 0 (octets_per_tick p))
      (all-of (λ j. IsCellWell (octet j)) (numbers_from 0 (octets_per_tick p)) (λ j. well))

  -- the octets of entries that are well
  octets-well : (n : ℕ) (p : Params) (es : List Entry)
      → ((j : ℕ) → j < n → (e : Entry) × (slice_get es j ≡ Some e) × IsEntryWell s h t e)
      → All IsCellWell (octets_given p n es)
  octets-well zero p es well = subst (All IsCellWell) (sym (none-given p es)) (All-nil IsCellWell)
  octets-well (suc n) p es well =
      let e = well n (omega arith) in
      subst (All IsCellWell) (sym (octets-more p n es e.0 e.1))
      (All-append IsCellWell (octets_given p n es) (octets_of_entry p e.0)
      (octets-well n p es (λ j below. well j (omega arith))) (entry-well p e.0 e.2))

-- the mark of frame k, of entries that are well
pub frame-mark : (kind : LaneKind) (s : Plan) (h t k n : ℕ) (sent : ℕ → ℕ)
    → ((lane j : ℕ) → lane < s.link.params.l → j < n → IsEntryOf kind s h lane t j (sent j))
    → IsMarkedWell s h t
    (fold worse Good
    (map (λ (c : LaneCell). c.mark)
    (frame_cells s.link.params k (map (octets_given s.link.params n) (lanes_entries kind s t)))))
frame-mark kind s h t k n sent entries =
    let p = s.link.params in
    let part : ℕ → List LaneCell =
    λ place. part_of_frame p k (octets_given p n (entries_at kind s (lane_for s place) t)) in
    let well : All (λ (c : LaneCell). IsMarkedWell s h t c.mark)
    (flat_map part (numbers_from 0 p.l)) =
    all-flat (λ (c : LaneCell). IsMarkedWell s h t c.mark) part p.l 0 (λ place below.
    let lane : ℕ = lane_for s place in
    let of_link = lane-for-below s place (omega arith) in
    let all = octets-well s h t n p (entries_at kind s lane t)
    (λ j inside. let e = entries lane j of_link inside in (e.entry, e.found, e.well)) in
    All-take (λ (c : LaneCell). IsMarkedWell s h t c.mark) p.f
    (drop (k * p.f) (octets_given p n (entries_at kind s lane t)))
    (All-drop (λ (c : LaneCell). IsMarkedWell s h t c.mark) (k * p.f)
    (octets_given p n (entries_at kind s lane t)) all)) in
    worst-well s h t (frame_cells p k (map (octets_given p n) (lanes_entries kind s t))) Good
    (subst (All (λ (c : LaneCell). IsMarkedWell s h t c.mark)) (sym (cells-by-lane kind s t k n))
    well) (good-well s h t)
