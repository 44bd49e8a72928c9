-- Entries since the start: places of the alignment sequence, and then data.
use Rattle.std.proofs.Common.{◌≡◌, true, false, if◌then◌else◌, List, [], ◌∷◌, ◌++◌, map, length, take, drop, refl}
use Rattle.std.proofs.Math.Seq.{take-nil, drop-nil}
use Rattle.link_params.specs.declared.fields.Params.{Params}
use Rattle.link_params.specs.declared.cells.LaneCell.{LaneCell}
use Rattle.link_params.specs.Lanes.{Entry, Placed, Held}
use Rattle.code_8b10b.specs.declared.character.Reading.{Reading}
use Rattle.lane_b.specs.Loss.{ilas_length}
use Rattle.lane_b.specs.Sent.{octets_of}
use Rattle.lane_b.specs.Received.{restored, descrambled_octets, spread, cells, data_cells, entries_since}
use Rattle.lane_b.specs.kept.Gives.{AreInOrder, ComesInOrder}

no_place_last : (es : List Entry) (ds : List LaneCell) → map Held ds ≡ es ++ Placed ∷ [] → ⊥
no_place_last [] [] e = cc
no_place_last [] (d ∷ ds) e = cc
no_place_last (x ∷ es) [] e = cc
no_place_last (x ∷ es) (d ∷ ds) e = let tail : map Held ds ≡ es ++ Placed ∷ [] = cc in no_place_last es ds tail

all_next : (x : Entry) (es : List Entry) → Placed ≡ x → AreInOrder (length es) es → AreInOrder (length (x ∷ es)) (x ∷ es)
all_next Placed es e rest = rest
all_next (Held c) es e rest = cc

-- where a place comes last, all are places
all_places : (es : List Entry) (rs : List Reading) (ds : List LaneCell) → map (λ r. Placed) rs ++ map Held ds ≡ es ++ Placed ∷ [] → AreInOrder (length es) es
all_places [] rs ds e = tt
all_places (x ∷ es) [] ds e = absurd (no_place_last (x ∷ es) ds e)
all_places (x ∷ es) (r ∷ rs) ds e =
    let tail : map (λ r. Placed) rs ++ map Held ds ≡ es ++ Placed ∷ [] = cc in
    let head : Placed ≡ x = cc in
    all_next x es head (all_places es rs ds tail)

pub in_order : (p : Params) (since more : List Reading) (entry : Entry) → entries_since p more ≡ entries_since p since ++ entry ∷ []
    → ComesInOrder (entries_since p since) entry
in_order p since more (Held c) e = tt
in_order p since more Placed e = all_places (entries_since p since) (take (ilas_length p) more) (data_cells p (drop (ilas_length p) more)) e

data_cells-nothing : (p : Params) → data_cells p [] ≡ []
unfolding data_cells cells restored octets_of
data_cells-nothing p = elim (p.scr) as (λ b. (if b then cells (descrambled_octets []) (spread false false []) else cells [] []) ≡ []) [ true ↦ refl | false ↦ refl ]

pub entries_since-nothing : (p : Params) → entries_since p [] ≡ []
entries_since-nothing p =
    rw (take-nil {A = Reading} (ilas_length p), drop-nil {A = Reading} (ilas_length p), data_cells-nothing p) refl
