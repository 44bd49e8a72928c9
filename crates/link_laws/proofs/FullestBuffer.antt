-- The fullest buffer of a run is within the depth.
use Rattle.std.proofs.Common.{◌≡◌, ℕ, zero, suc, ◌<◌, ◌≤◌, max, List, [], ◌∷◌, ◌++◌, length, map, fold, get_or, sym, subst, ap, ◌∙◌, append-nil, arith}
use Rattle.std.specs.List.{flat_map}
use Rattle.std.proofs.Math.Nat.{max-le}
use Rattle.std.proofs.lemmas.List.{length-map}
use Rattle.std.proofs.lemmas.List.Concat.{flat_map-append}
use Rattle.std.proofs.lemmas.List.Sums.{fold-append}
use Rattle.link_params.specs.Lanes.{LaneKind}
use Rattle.link_params.specs.Numbers.{depth}
use Rattle.scenario.specs.Plans.{Plan}
use Rattle.link_model.specs.Moments.{Moment}
use Rattle.link_model.specs.Report.{totals}
use Rattle.link_model.specs.Run.{moment, run}
use Rattle.link_model.specs.Sessions.{at}
use Rattle.link_model.proofs.NumberLists.{length-numbers}
use Rattle.link_laws.specs.Laws.{Depth, Fullest}

fold-below : (xs : List ℕ) (a d : ℕ) → a ≤ d → ((i : ℕ) → i < length xs → get_or xs i 0 ≤ d)
    → fold max a xs ≤ d
fold-below [] a d low all = low
fold-below (x ∷ xs) a d low all = fold-below xs (max a x) d
    (max-le low (all 0 (omega arith)))
    (λ i below. all (suc i) (omega arith))

length-held : (kind : LaneKind) (s : Plan) (t : ℕ) → length (at kind s t).held ≡ s.link.params.l
unfolding moment
length-held kind s t =
    length-map (map _ _) _ ∙ length-map _ _ ∙ length-numbers s.link.params.l 0

fullest-by : (t : ℕ) (kind : LaneKind) (s : Plan) → Depth kind s → t ≤ s.ticks
    → fold max 0 (flat_map (λ (m : Moment). m.held) (run kind s t))
    ≤ depth s.link.params s.link.timing
unfolding run
fullest-by zero kind s deep up = omega arith
fullest-by (suc t) kind s deep up =
    let of : Moment → List ℕ = λ m. m.held in
    let now : Moment = at kind s t in
    let long = length-held kind s t in
    let one : flat_map of (now ∷ []) ≡ now.held = append-nil now.held in
    let all : flat_map of (run kind s t ++ now ∷ []) ≡ flat_map of (run kind s t) ++ now.held =
    flat_map-append of (run kind s t) (now ∷ [])
    ∙ ap (λ (l : List ℕ). flat_map of (run kind s t) ++ l) one in
    let before = fullest-by t kind s deep (omega arith) in
    let first : ℕ = fold max 0 (flat_map of (run kind s t)) in
    let is = ap (fold max 0) all ∙ fold-append max 0 (flat_map of (run kind s t)) now.held in
    let below = fold-below now.held first (depth s.link.params s.link.timing) before
    (λ i inside. (deep i t (omega arith) (omega arith)).fits) in
    subst (λ (n : ℕ). n ≤ depth s.link.params s.link.timing) (sym is) below

pub fullest-from-depth : (kind : LaneKind) (s : Plan) → Depth kind s → Fullest kind s
unfolding totals
fullest-from-depth kind s deep = fullest-by s.ticks kind s deep (omega arith)
