-- The words of a delivered frame are those of the source frame that entered.
use Rattle.std.proofs.Common.{◌≡◌, ℕ, ◌+◌, ◌-◌, ◌*◌, ◌<◌, ◌≤◌, ◌%◌, nat_lt, if◌then◌else◌, List, map, take, drop, slice_index, Some, None, refl, sym, ap, ◌∙◌, arith}
use Rattle.std.specs.List.{flat_map}
use Rattle.std.proofs.lemmas.List.{drop-map, take-map}
use Rattle.std.proofs.lemmas.List.Folds.{flat_map-map}
use Rattle.std.proofs.lemmas.Nat.{div-mul-add, mod-mul-add}
use Rattle.link_params.specs.declared.cells.LaneCell.{LaneCell}
use Rattle.link_params.specs.Lanes.{Entry, LaneKind}
use Rattle.link_params.specs.Numbers.{octets_per_tick, period}
use Rattle.sample_map.specs.Frames.{frame_of, words_of}
use Rattle.sample_map.proofs.GivesFrame.{length-frame, words_back}
use Rattle.scenario.specs.Plans.{Plan, numbers_from, source_frame}
use Rattle.link_model.specs.Sends.{data_place}
use Rattle.link_model.specs.Gives.{frame_cells, octets_given, part_of_frame}
use Rattle.link_model.proofs.NumberLists.{map-numbers}
use Rattle.link_model.specs.Sessions.{at, entries_at}
use Rattle.link_model.specs.Wiring.{lane_for}
use Rattle.link_laws.specs.Premises.{IsSetAsWired}
use Rattle.link_laws.proofs.SetAsWired.{lane-below, wire-back}
use Rattle.link_laws.specs.LaneLaws.{IsEntryOf}
use Rattle.link_laws.specs.Laws.{IsPlanRead}
use Rattle.link_laws.proofs.OrdersGo.{ilas_ticks}
use Rattle.link_laws.proofs.Delivered.{lanes_entries}
use Rattle.link_laws.proofs.EntryOctets.{data_octet, first_of, given-octets}
use Rattle.link_laws.proofs.EntryShapes.{shifted}
use Rattle.link_laws.proofs.NumberParts.{flat-numbers, list-of-places, map-flat-map, part-numbers, rows-join}

-- the cells of a frame, lane by lane
pub cells-by-lane : (kind : LaneKind) (s : Plan) (t k n : ℕ)
    → frame_cells s.link.params k (map (octets_given s.link.params n) (lanes_entries kind s t))
    ≡ flat_map (λ lane. part_of_frame s.link.params k
    (octets_given s.link.params n (entries_at kind s (lane_for s lane) t)))
    (numbers_from 0 s.link.params.l)
cells-by-lane kind s t k n =
    let p = s.link.params in
    flat_map-map (part_of_frame p k) (octets_given p n) (lanes_entries kind s t)
    ∙ flat_map-map (λ (es : List Entry). part_of_frame p k (octets_given p n es))
    (λ place. entries_at kind s (lane_for s place) t) (numbers_from 0 p.l)

-- octet i of frame k of the data of a lane
octet-in-frame : (s : Plan) (first lane k i : ℕ) → i < s.link.params.f
    → data_octet s first lane (k * s.link.params.f + i) ≡ slice_index
    (frame_of s.link.params (source_frame s (first + k))) (lane * s.link.params.f + i)
octet-in-frame s first lane k i inside =
    let p = s.link.params in
    let d = div-mul-add k p.f i inside in
    let m = mod-mul-add k p.f i inside in
    rw (d, m) refl

module _ (kind : LaneKind) (s : Plan) (h t b : ℕ) (read : IsPlanRead s) (set_as_wired : IsSetAsWired s)
    (places : (j : ℕ) → b + j ≤ t → data_place (at kind s (b + j)).order
    ≡ (if nat_lt j (ilas_ticks s.link.params) then None else Some
    ((j - ilas_ticks s.link.params) % period s.link.params)))
    (k n : ℕ)
    (whole : (k + 1) * s.link.params.f
    ≤ octets_per_tick s.link.params * (n - ilas_ticks s.link.params))
    (entries : (lane j : ℕ) → lane < s.link.params.l → j < n
    → (b + j ≤ t) × IsEntryOf kind s h lane t j (b + j)) where
  -- the octets of frame k on a lane of the frame
  lane-part : (lane : ℕ) → lane < s.link.params.l
      → map (λ (c : LaneCell). c.value)
      (part_of_frame s.link.params k
      (octets_given s.link.params n (entries_at kind s (lane_for s lane) t)))
      ≡ map (λ i. slice_index (frame_of s.link.params (source_frame s (first_of kind s b + k)))
      (lane * s.link.params.f + i)) (numbers_from 0 s.link.params.f)
  lane-part lane below =
      let p = s.link.params in
      let value_of : LaneCell → ℕ = λ c. c.value in
      let own : ℕ = lane_for s lane in
      let of_link = lane-below s lane read in
      let octets : List LaneCell = octets_given p n (entries_at kind s own t) in
      let all : ℕ = octets_per_tick p * (n - ilas_ticks p) in
      let octet : ℕ → ℕ = data_octet s (first_of kind s b) lane in
      let fits : k * p.f + p.f ≤ all = omega arith in
      sym (take-map value_of p.f (drop (k * p.f) octets))
      ∙ ap (take p.f) (sym (drop-map value_of (k * p.f) octets))
      ∙ ap (λ (l : List ℕ). take p.f (drop (k * p.f) l))
      (given-octets kind s h t b read places own n of_link (λ j inside. entries own j of_link inside)
      ∙ ap (λ (l : ℕ). map (data_octet s (first_of kind s b) l) (numbers_from 0 all))
      (wire-back s lane read set_as_wired below))
      ∙ part-numbers (k * p.f) all p.f octet fits
      ∙ shifted p.f (k * p.f) octet
      ∙ map-numbers (λ i. octet (k * p.f + i))
      (λ i. slice_index (frame_of p (source_frame s (first_of kind s b + k))) (lane * p.f + i)) p.f
      0
      (λ i inside. octet-in-frame s (first_of kind s b) lane k i (omega arith))

  -- the octets of frame k are those of the frame of its words
  frame-octets : map (λ (c : LaneCell). c.value)
      (frame_cells s.link.params k (map (octets_given s.link.params n) (lanes_entries kind s t)))
      ≡ frame_of s.link.params (source_frame s (first_of kind s b + k))
  frame-octets =
      let p = s.link.params in
      let value_of : LaneCell → ℕ = λ c. c.value in
      let words : List ℕ = source_frame s (first_of kind s b + k) in
      let part : ℕ → List LaneCell =
      λ place. part_of_frame p k (octets_given p n (entries_at kind s (lane_for s place) t)) in
      let row : ℕ → List ℕ = λ lane. map (λ i. slice_index (frame_of p words) (lane * p.f + i))
      (numbers_from 0 p.f) in
      let long = length-frame p words in
      let none : 0 * p.f ≡ 0 = omega arith in
      ap (map value_of) (cells-by-lane kind s t k n)
      ∙ map-flat-map value_of part (numbers_from 0 p.l)
      ∙ flat-numbers (λ lane. map value_of (part lane)) row p.l 0
      (λ lane below. lane-part lane (omega arith))
      ∙ rows-join p.l 0 p.f (slice_index (frame_of p words))
      ∙ ap (λ (x : ℕ). map (slice_index (frame_of p words)) (numbers_from x (p.l * p.f))) none
      ∙ ap (λ (m : ℕ). map (slice_index (frame_of p words)) (numbers_from 0 m)) (sym long)
      ∙ list-of-places (frame_of p words)

  -- and its words
  pub frame-words : words_of s.link.params
      (map (λ (c : LaneCell). c.value)
      (frame_cells s.link.params k (map (octets_given s.link.params n) (lanes_entries kind s t))))
      ≡ source_frame s (first_of kind s b + k)
  frame-words =
      let p = s.link.params in
      ap (words_of p) frame-octets ∙ words_back p (source_frame s (first_of kind s b + k)) read.laws
      (read.frames (first_of kind s b + k))
