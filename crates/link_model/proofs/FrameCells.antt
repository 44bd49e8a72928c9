-- The octets of a frame, lane by lane and by columns.
use Rattle.std.proofs.Common.{◌≡◌, ℕ, zero, suc, ◌+◌, ◌*◌, ◌/◌, ◌%◌, ◌<◌, ◌≤◌, List, [], ◌∷◌, ◌++◌, map, length, take, drop, get_or, inl, inr, refl, sym, ap, ap₂, ◌∙◌, length-take, length-drop, arith}
use Rattle.std.specs.List.{flat_map}
use Rattle.std.proofs.Math.Nat.{mod-lt, mul-le-mul_left, mul_comm}
use Rattle.std.proofs.lemmas.Bool.{cases_lt}
use Rattle.std.proofs.lemmas.Grind.{flat_map-append}
use Rattle.std.proofs.lemmas.List.{append-nil, ext_get_or, get_or-drop, get_or-map, get_or-take, length-map, map-append}
use Rattle.std.proofs.lemmas.Nat.{div-mul-add, mod-mul-add}
use Rattle.std.proofs.lemmas.List.Folds.{flat_map-map}
use Rattle.link_params.specs.declared.fields.Params.{Params}
use Rattle.link_params.specs.declared.cells.LaneCell.{LaneCell}
use Rattle.scenario.specs.Plans.{numbers_from}
use Rattle.link_model.proofs.NumberLists.{get_or-numbers, length-numbers, map-numbers, map-shift, numbers-append, numbers-more}
use Rattle.link_model.proofs.OctetColumns.{grid}
use Rattle.link_model.specs.kept.Before.{cell_at, cells_of, no_cell}
use Rattle.link_model.specs.Gives.{frame_cells, part_of_frame}

-- ---- numbers in rows

flat-numbers : {A : Type 0} (f g : ℕ → List A) → (n a : ℕ) → ((x : ℕ) → x < a + n → f x ≡ g x)
    → flat_map f (numbers_from a n) ≡ flat_map g (numbers_from a n)
unfolding numbers_from
flat-numbers f g zero a same = refl
flat-numbers f g (suc n) a same = ap₂ (λ x y. x ++ y) (same a (omega arith))
    (flat-numbers f g n (suc a) (λ x below. same x (omega arith)))

-- one row after the other
flat-rows : {A : Type 0} (f : ℕ) (g : ℕ → ℕ → A) → 0 < f → (l : ℕ)
    → flat_map (λ lane. map (g lane) (numbers_from 0 f)) (numbers_from 0 l)
    ≡ map (λ i. g (i / f) (i % f)) (numbers_from 0 (l * f))
unfolding numbers_from
flat-rows f g some zero = let z : 0 * f ≡ 0 = omega arith in
    sym (ap (λ n. map (λ i. g (i / f) (i % f)) (numbers_from 0 n)) z)
flat-rows {A} f g some (suc l) =
    let row : ℕ → List A = λ lane. map (g lane) (numbers_from 0 f) in
    let at : ℕ → A = λ i. g (i / f) (i % f) in
    let last : 0 + l ≡ l = omega arith in
    let size : suc l * f ≡ l * f + f = omega arith in
    let from : 0 + l * f ≡ l * f + 0 = omega arith in
    let here : map at (numbers_from (0 + l * f) f) ≡ row l =
    ap (λ k. map at (numbers_from k f)) from ∙ map-shift at f 0 (l * f)
    ∙ map-numbers (λ j. at (l * f + j)) (g l) f 0
    (λ j below. ap₂ g (div-mul-add l f j (omega arith)) (mod-mul-add l f j (omega arith))) in
    ap (flat_map row) (numbers-more l 0) ∙ flat_map-append row (numbers_from 0 l) ((0 + l) ∷ [])
    ∙ ap₂ (λ a b. a ++ b) (flat-rows f g some l) (append-nil (row (0 + l)) ∙ ap row last)
    ∙ sym (ap (λ k. map at (numbers_from 0 k)) size ∙ ap (map at) (numbers-append (l * f) f 0)
    ∙ map-append at (numbers_from 0 (l * f)) (numbers_from (0 + l * f) f)
    ∙ ap (λ xs. map at (numbers_from 0 (l * f)) ++ xs) here)

part-is : (xs : List LaneCell) (a n : ℕ) (d : LaneCell) → a + n ≤ length xs
    → take n (drop a xs) ≡ map (λ j. get_or xs (a + j) d) (numbers_from 0 n)
part-is xs a n d within =
    let f : ℕ → LaneCell = λ j. get_or xs (a + j) d in
    let numbers = length-numbers n 0 in
    let rest = length-drop a xs in
    let long = length-take n (drop a xs) in
    let other = length-map (numbers_from 0 n) f in
    ext_get_or d (take n (drop a xs)) (map f (numbers_from 0 n)) (omega arith) (λ i below.
    let same : 0 + i ≡ i = omega arith in
    get_or-take n (drop a xs) i d (omega arith) ∙ get_or-drop a xs i d
    ∙ sym (get_or-map f (numbers_from 0 n) i 0 d (omega arith)
    ∙ ap f (get_or-numbers n i 0 0 (omega arith) ∙ same)))

-- ---- a frame

-- octet j of a lane in the frame, in columns of this data
cell-in-grid : (p : Params) (all : ℕ → List LaneCell) (n q lane j : ℕ) → lane < p.l
    → q * p.f + j < n
    → cell_at p (grid p.l all n) q lane j ≡ get_or (all lane) (q * p.f + j) no_cell
cell-in-grid p all n q lane j below within =
    let row : ℕ → List LaneCell = λ i. map (λ k. get_or (all k) i no_cell) (numbers_from 0 p.l) in
    let long = length-numbers n 0 in
    let lanes = length-numbers p.l 0 in
    let k : ℕ = q * p.f + j in
    let at : 0 + k ≡ k = omega arith in
    let same : 0 + lane ≡ lane = omega arith in
    ap (λ (c : List LaneCell). get_or c lane no_cell)
    (get_or-map row (numbers_from 0 n) k 0 [] (omega arith)
    ∙ ap row (get_or-numbers n k 0 0 within ∙ at))
    ∙ get_or-map (λ l. get_or (all l) k no_cell) (numbers_from 0 p.l) lane 0 no_cell (omega arith)
    ∙ ap (λ l. get_or (all l) k no_cell) (get_or-numbers p.l lane 0 0 below ∙ same)

lane-of : (l f i : ℕ) → 0 < f → i < l * f → i / f < l
lane-of l f i some below = elim (cases_lt (i / f) l) [
  | inl h ↦ h
  | inr past ↦
      let m : f * l ≤ f * (i / f) = mul-le-mul_left f past in
      let c : f * l ≡ l * f = mul_comm f l in
      let parts : f * (i / f) + i % f ≡ i = omega arith in
      absurd (omega arith)
]

-- the octets of frame q, of n octets of each lane
pub frame-cells-grid : (p : Params) (all : ℕ → List LaneCell) (n q : ℕ) → 0 < p.f
    → q * p.f + p.f ≤ n → ((lane : ℕ) → lane < p.l → n ≤ length (all lane))
    → frame_cells p q (map (λ lane. take n (all lane)) (numbers_from 0 p.l))
    ≡ cells_of p (grid p.l all n) q p.f
frame-cells-grid p all n q some whole enough =
    let f = p.f in
    let g : ℕ → ℕ → LaneCell = λ lane j. get_or (all lane) (q * f + j) no_cell in
    let of : ℕ → List LaneCell = λ lane. take n (all lane) in
    let part : (lane : ℕ) → lane < 0 + p.l → part_of_frame p q (of lane) ≡ map (g lane)
    (numbers_from 0 f) = λ lane below.
    let size = enough lane (omega arith) in
    let taken = length-take n (all lane) in
    part-is (of lane) (q * f) f no_cell (omega arith)
    ∙ map-numbers (λ j. get_or (of lane) (q * f + j) no_cell) (g lane) f 0 (λ j inside.
    get_or-take n (all lane) (q * f + j) no_cell (omega arith)) in
    flat_map-map (part_of_frame p q) of (numbers_from 0 p.l)
    ∙ flat-numbers (λ lane. part_of_frame p q (of lane)) (λ lane. map (g lane) (numbers_from 0 f))
    p.l 0 part
    ∙ flat-rows f g some p.l
    ∙ map-numbers (λ i. g (i / f) (i % f))
    (λ i. cell_at p (grid p.l all n) q (i / f) (i % f)) (p.l * f) 0 (λ i below.
    let small = mod-lt i some in
    sym (cell-in-grid p all n q (i / f) (i % f) (lane-of p.l f i some (omega arith))
    (omega arith)))
