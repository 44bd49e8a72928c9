-- What waits in a receiver lane's elastic buffer, and what it gives. Counts are of entries, one a
-- tick (JESD204B.01 clause 6, deterministic latency).
-- Code: cells, and how many of them stand for places.
use Rattle.std.specs.Prelude.{◌≡◌, ◌≤◌, ◌-◌, ℕ, zero, suc, List, [], ◌∷◌, length, drop, Option, Some, None}
use Rattle.link_params.specs.declared.cells.LaneCell.{LaneCell}
use Rattle.link_params.specs.Lanes.{Entry, Placed, Held}

-- what an entry gives: nothing for a place of the alignment sequence
abbrev pub given : Entry → Option LaneCell
given Placed = None
given (Held c) = Some c

-- this cell waits in the buffer for the entry; that of a place is any cell
abbrev pub WaitsFor : Entry → LaneCell → Type 0
WaitsFor Placed c = Unit {0}
WaitsFor (Held d) c = c ≡ d

-- these cells wait for these entries
abbrev pub Wait : List Entry → List LaneCell → Type 0
Wait [] [] = Unit {0}
Wait [] (c ∷ cs) = ⊥
Wait (e ∷ es) [] = ⊥
Wait (e ∷ es) (c ∷ cs) = WaitsFor e c × Wait es cs

-- the first n entries are places, and the others are data
abbrev pub AreInOrder : ℕ → List Entry → Type 0
AreInOrder zero [] = Unit {0}
AreInOrder (suc n) [] = ⊥
AreInOrder zero (Placed ∷ es) = ⊥
AreInOrder (suc n) (Placed ∷ es) = AreInOrder n es
AreInOrder zero (Held c ∷ es) = AreInOrder zero es
AreInOrder (suc n) (Held c ∷ es) = ⊥

-- the entries from number `gave` on wait in the buffer
pub record Holds (entries : List Entry) (placed : ℕ) (cells : List LaneCell) (gave : ℕ) : Type 0 where
  pub within : gave ≤ length entries
  pub count : length cells ≡ length entries - gave
  pub wait : Wait (drop gave entries) cells
  pub in_order : AreInOrder placed (drop gave entries)

-- an entry comes behind these: data behind all, a place of the alignment sequence only behind places
abbrev pub ComesInOrder : List Entry → Entry → Type 0
ComesInOrder entries Placed = AreInOrder (length entries) entries
ComesInOrder entries (Held c) = Unit {0}
