use Rattle.std.proofs.Common.{◌≡◌, ℕ, min, false, List, [], ◌∷◌, ◌++◌, map, replicate, length, refl, inl, inr, sym, ◌∙◌, ap, arith, length-append}
use Rattle.std.proofs.lemmas.Bool.{cond-true}
use Rattle.std.proofs.lemmas.List.{length-map, length-replicate}
use Rattle.link_params.specs.declared.cells.LaneCell.{LaneCell}
use Rattle.link_params.specs.Lanes.{Entry, Placed, Held, Taken, is_inside}
use Rattle.lane_b.specs.laws.LaneLaws.{FirstEntry, NoneOutside, PlacesThenData}
use Rattle.lane_b.specs.Locking.{no_order}
use Rattle.lane_b.specs.Loss.{ilas_length}
use Rattle.lane_b.proofs.LaneEntries.{are-entries, next-started, next-unstarted, no-entries}
use Rattle.lane_b.proofs.laws.entries_by_ticks.Goals as goal

first-entry : FirstEntry
first-entry p t lane taken w f tens ten none some =
    elim (next-unstarted taken w tens ten p t lane none) [
      | inl u ↦ let still = u.started in absurd (cc)
      | inr s ↦
          let start = s.started in
          let same : f ≡ w.order.offset = cc in (
            s.armed,
            same,
            λ i. (
              s.entry,
              s.entries ∙ cond-true (is_inside t w.order.offset) (s.entry ∷ []) []
                  (ap (is_inside t) (sym same) ∙ i),
            ),
          )
    ]

none-outside : NoneOutside
none-outside p t lane taken f tens some outside =
    let w : Taken = record { order = no_order; word = replicate 10 false } in
    (next-started taken w tens refl p t lane f some).outside_before outside

places-then-data : PlacesThenData
places-then-data p t lane taken =
    let a = are-entries p t lane taken in
    let all = length-append (replicate a.placed Placed) (map Held a.cells) in
    let front = length-replicate a.placed Placed in
    let back = length-map a.cells Held in
    let few = a.few in
    let n : min (length (replicate a.placed Placed ++ map Held a.cells)) (ilas_length p)
    ≡ a.placed = elim a.whole [
      | inl none ↦ let zero = ap (λ (cs : List LaneCell). length cs) none in omega arith
      | inr whole ↦ omega arith
    ] in (
      a.cells,
      a.are ∙ ap (λ (m : ℕ). replicate m Placed ++ map Held a.cells) (sym n)
          ∙ ap (λ (es : List Entry). replicate (min (length es) (ilas_length p)) Placed
          ++ map Held a.cells) (sym a.are),
    )

pub returns : goal.returns
returns c = record {
  one = λ p t lane taken w f tens ten some i. let more =
      next-started taken w tens ten p t lane f some in (more.entry, more.inside i);
  first = first-entry;
  unstarted = no-entries;
  outside = none-outside;
  order = places-then-data;
}
