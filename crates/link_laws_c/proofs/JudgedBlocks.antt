-- The blocks whose checks are known, and the cells of blocks, by their numbers.
use Rattle.std.proofs.Common.{◌≡◌, ℕ, zero, suc, ◌+◌, ◌-◌, ◌*◌, ◌/◌, ◌%◌, ◌<◌, ◌≤◌, Bool, List, [], ◌∷◌, map, length, drop, take, get_or, inl, inr, refl, ap, ap₂, ◌∙◌, length-append, arith}
use Rattle.std.proofs.lemmas.Bool.{cases_lt}
use Rattle.std.proofs.lemmas.List.{get_or-map, get_or_append_left, length-map}
use Rattle.std.proofs.Math.Seq.{get_or-append_right}
use Rattle.std.specs.List.{flat_map}
use Rattle.link_params.specs.declared.fields.Mode.{Mode}
use Rattle.link_params.specs.declared.cells.LaneCell.{LaneCell}
use Rattle.link_params.specs.declared.cells.Mark.{Mark}
use Rattle.block_66b.specs.declared.sync_bit.SyncBit.{SyncBit}
use Rattle.block_66b.specs.declared.sync_bit.SyncBit.TheVariants.{Bad}
use Rattle.block_66b.specs.Blocks.{header}
use Rattle.multiblock.specs.Places.{Place, pieces}
use Rattle.lane_c.specs.Statuses.{Checked, Judged, all_judged, checked_by, judged, judged_as, known_blocks, multiblocks, received_check, status_of}
use Rattle.lane_c.specs.Received.{cell, cells, cells_after}
use Rattle.link_laws_c.proofs.HeaderLists.{pieces-get, pieces-length}

-- ---- cells

after-length : (js : List Judged) (b : Judged) → length (cells_after b js) ≡ length js
unfolding cells_after
after-length [] b = refl
after-length (j ∷ js) b = ap suc (after-length js j)

after-get : (js : List Judged) (b dj : Judged) (i : ℕ) (d : LaneCell) → i < length js
    → get_or (cells_after b js) i d ≡ cell (get_or (b ∷ js) i dj) (get_or js i dj)
unfolding cells_after
after-get [] b dj i d inside = absurd (omega arith)
after-get (j ∷ js) b dj zero d inside = refl
after-get (j ∷ js) b dj (suc i) d inside = after-get js j dj i d (omega arith)

pub cells-length : (js : List Judged) → length (cells js) ≡ length js - 1
cells-length [] = refl
cells-length (j ∷ js) = after-length js j ∙ omega arith

-- the cell of a block after the one before
pub cells-get : (js : List Judged) (i : ℕ) (dj : Judged) (d : LaneCell) → suc i < length js
    → get_or (cells js) i d ≡ cell (get_or js i dj) (get_or js (suc i) dj)
cells-get [] i dj d inside = absurd (omega arith)
cells-get (j ∷ js) i dj d inside = after-get js j dj i d (omega arith)

-- ---- judged blocks

judged-length : (ms : List SyncBit) (m : Mark) (ps : List (List Bool)) → length ms ≡ length ps
    → length (judged_as m ms ps) ≡ length ps
unfolding judged_as
judged-length [] m [] same = refl
judged-length [] m (p ∷ ps) same = absurd (omega arith)
judged-length (h ∷ hs) m [] same = absurd (omega arith)
judged-length (h ∷ hs) m (p ∷ ps) same = ap suc (judged-length hs m ps (omega arith))

judged-get : (hs : List SyncBit) (m : Mark) (ps : List (List Bool)) (i : ℕ) (d : Judged)
    → length hs ≡ length ps → i < length ps
    → get_or (judged_as m hs ps) i d ≡ record {
      status = status_of (get_or hs i Bad) m;
      payload =
          get_or ps i [];
    }
unfolding judged_as
judged-get [] m [] i d same inside = absurd (omega arith)
judged-get [] m (p ∷ ps) i d same inside = absurd (omega arith)
judged-get (h ∷ hs) m [] i d same inside = absurd (omega arith)
judged-get (h ∷ hs) m (p ∷ ps) zero d same inside = refl
judged-get (h ∷ hs) m (p ∷ ps) (suc i) d same inside = judged-get hs m ps i d (omega arith)
    (omega arith)

-- what the check says of a multiblock by the next one
abbrev pub checked_of : Mode → List (List Bool) → List (List Bool) → Checked
checked_of mode blocks next = checked_by mode (flat_map (drop 2) blocks)
    (received_check mode (map header next))

pub length-judged : (mode : Mode) (blocks next : List (List Bool)) → length blocks ≡ 32
    → length (judged mode blocks next) ≡ 32
unfolding judged
length-judged mode blocks next long =
    let c = checked_of mode blocks next in
    let parts = pieces-length 32 64 c.payload in
    let heads = length-map blocks header in
    judged-length (map header blocks) c.mark (pieces 32 64 c.payload) (omega arith) ∙ omega arith

-- block i of a judged multiblock
pub block-judged : (mode : Mode) (blocks next : List (List Bool)) (i : ℕ) (d : Judged)
    → length blocks ≡ 32 → i < 32
    → get_or (judged mode blocks next) i d
    ≡ record {
      status = status_of (header (get_or blocks i [])) (checked_of mode blocks next).mark;
      payload = take 64 (drop (i * 64) (checked_of mode blocks next).payload);
    }
unfolding judged
block-judged mode blocks next i d long inside =
    let c = checked_of mode blocks next in
    let parts = pieces-length 32 64 c.payload in
    let heads = length-map blocks header in
    judged-get (map header blocks) c.mark (pieces 32 64 c.payload) i d (omega arith) (omega arith)
    ∙ ap₂ (λ (x : SyncBit) (y : List Bool). let j : Judged =
    record { status = status_of x c.mark; payload = y } in j)
    (get_or-map header blocks i [] Bad (omega arith)) (pieces-get 32 64 i c.payload [] inside)

-- ---- all multiblocks that another one follows

abbrev AreWhole : List (List (List Bool)) → Type 0
AreWhole ms = (j : ℕ) → j < length ms → length (get_or ms j []) ≡ 32

all-length : (ms : List (List (List Bool))) (mode : Mode) → AreWhole ms
    → length (all_judged mode ms) ≡ 32 * (length ms - 1)
unfolding all_judged
all-length [] mode are = refl
all-length (m ∷ []) mode are = refl
all-length (m ∷ n ∷ ms) mode are =
    let first = length-judged mode m n (are 0 (omega arith)) in
    let rest = all-length (n ∷ ms) mode (λ j inside. are (suc j) (omega arith)) in
    length-append (judged mode m n) (all_judged mode (n ∷ ms)) ∙ omega arith

all-get : (ms : List (List (List Bool))) (mode : Mode) (k : ℕ) (d : Judged) → AreWhole ms
    → k / 32 + 2 ≤ length ms
    → get_or (all_judged mode ms) k d
    ≡ get_or (judged mode (get_or ms (k / 32) []) (get_or ms (k / 32 + 1) [])) (k % 32) d
unfolding all_judged
all-get [] mode k d are inside = absurd (omega arith)
all-get (m ∷ []) mode k d are inside = absurd (omega arith)
all-get (m ∷ n ∷ ms) mode k d are inside =
    let first = length-judged mode m n (are 0 (omega arith)) in
    let all : List (List (List Bool)) = m ∷ n ∷ ms in
    elim (cases_lt k 32) [
      | inl here ↦
          let z : 0 ≡ k / 32 = omega arith in
          let o : 1 ≡ k / 32 + 1 = omega arith in
          let i : k ≡ k % 32 = omega arith in
          get_or_append_left (judged mode m n) (all_judged mode (n ∷ ms)) d k (omega arith)
          ∙ ap₂ (λ (x y : List (List Bool)). get_or (judged mode x y) k d)
          (ap (λ (j : ℕ). get_or all j []) z) (ap (λ (j : ℕ). get_or all j []) o)
          ∙ ap (λ (j : ℕ). get_or
          (judged mode (get_or all (k / 32) []) (get_or all (k / 32 + 1) [])) j d) i
      | inr later_one ↦
          let less : k - length (judged mode m n) ≡ k - 32 = omega arith in
          let z : suc ((k - 32) / 32) ≡ k / 32 = omega arith in
          let o : suc ((k - 32) / 32 + 1) ≡ k / 32 + 1 = omega arith in
          let i : (k - 32) % 32 ≡ k % 32 = omega arith in
          get_or-append_right (judged mode m n) (all_judged mode (n ∷ ms)) k d (omega arith)
          ∙ ap (λ (j : ℕ). get_or (all_judged mode (n ∷ ms)) j d) less
          ∙ all-get (n ∷ ms) mode (k - 32) d (λ j under. are (suc j) (omega arith)) (omega arith)
          ∙ ap₂ (λ (x y : List (List Bool)). get_or (judged mode x y) ((k - 32) % 32) d)
          (ap (λ (j : ℕ). get_or all j []) z) (ap (λ (j : ℕ). get_or all j []) o)
          ∙ ap (λ (j : ℕ). get_or
          (judged mode (get_or all (k / 32) []) (get_or all (k / 32 + 1) [])) j d) i
    ]

-- ---- from a place on

-- the blocks of multiblock j
abbrev pub multiblock_at : Place → List Bool → ℕ → List (List Bool)
multiblock_at p bs j = pieces 32 66 (take 2112 (drop (j * 2112) (drop p.first bs)))

pub length-multiblock : (p : Place) (bs : List Bool) (j : ℕ) → length (multiblock_at p bs j) ≡ 32
length-multiblock p bs j = pieces-length 32 66 (take 2112 (drop (j * 2112) (drop p.first bs)))

multiblocks-length : (p : Place) (bs : List Bool)
    → length (multiblocks p bs) ≡ (length bs - p.first) / 2112
multiblocks-length p bs =
    let n : ℕ = (length bs - p.first) / 2112 in
    length-map (pieces n 2112 (drop p.first bs)) (pieces 32 66)
    ∙ pieces-length n 2112 (drop p.first bs)

multiblocks-get : (p : Place) (bs : List Bool) (j : ℕ) → j < (length bs - p.first) / 2112
    → get_or (multiblocks p bs) j [] ≡ multiblock_at p bs j
multiblocks-get p bs j inside =
    let n : ℕ = (length bs - p.first) / 2112 in
    let count = pieces-length n 2112 (drop p.first bs) in
    get_or-map (pieces 32 66) (pieces n 2112 (drop p.first bs)) j [] [] (omega arith)
    ∙ ap (pieces 32 66) (pieces-get n 2112 j (drop p.first bs) [] inside)

are-whole : (p : Place) (bs : List Bool) → AreWhole (multiblocks p bs)
are-whole p bs j inside = let n = multiblocks-length p bs in
    ap length (multiblocks-get p bs j (omega arith)) ∙ length-multiblock p bs j

pub known-length : (mode : Mode) (p : Place) (bs : List Bool)
    → length (known_blocks mode p bs) ≡ 32 * ((length bs - p.first) / 2112 - 1)
known-length mode p bs = all-length (multiblocks p bs) mode (are-whole p bs)
    ∙ ap (λ (n : ℕ). 32 * (n - 1)) (multiblocks-length p bs)

-- block k from the place on is judged by the multiblock after its own
pub known-get : (mode : Mode) (p : Place) (bs : List Bool) (k : ℕ) (d : Judged)
    → p.first + 2112 * (k / 32 + 2) ≤ length bs
    → get_or (known_blocks mode p bs) k d
    ≡ get_or (judged mode (multiblock_at p bs (k / 32)) (multiblock_at p bs (k / 32 + 1)))
    (k % 32) d
known-get mode p bs k d inside =
    let n = multiblocks-length p bs in
    all-get (multiblocks p bs) mode k d (are-whole p bs) (omega arith)
    ∙ ap₂ (λ (x y : List (List Bool)). get_or (judged mode x y) (k % 32) d)
    (multiblocks-get p bs (k / 32) (omega arith)) (multiblocks-get p bs (k / 32 + 1) (omega arith))
