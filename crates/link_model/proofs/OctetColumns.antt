-- The octets of cells, and the columns that they make.
use Rattle.std.proofs.Common.{◌≡◌, ℕ, zero, suc, ◌+◌, ◌-◌, ◌*◌, ◌<◌, ◌≤◌, List, [], ◌∷◌, ◌++◌, map, length, take, get_or, sym, ap, ◌∙◌, length-append, length-take, arith}
use Rattle.std.specs.List.{flat_map}
use Rattle.std.proofs.Math.Seq.{take-append-add, take-nil}
use Rattle.std.proofs.lemmas.List.{get_or-append-add, get_or_append_left, get_or-take, length-map, map-append}
use Rattle.std.proofs.lemmas.Simd.{map-map}
use Rattle.link_params.specs.declared.fields.Params.{Params}
use Rattle.link_params.specs.declared.cells.LaneCell.{LaneCell}
use Rattle.link_params.specs.Lanes.{Entry}
use Rattle.link_params.specs.Numbers.{octets_per_tick}
use Rattle.scenario.specs.Plans.{numbers_from}
use Rattle.link_model.proofs.EntryCells.{HasCells}
use Rattle.link_model.proofs.NumberLists.{length-numbers, map-numbers, map-shift, numbers-append}
use Rattle.link_model.specs.kept.Before.{Columns, no_cell, octet_columns}
use Rattle.link_model.specs.Gives.{cells_in, octets_given, octets_in}

-- all octets of these cells
abbrev pub all_octets : Params → List LaneCell → List LaneCell
all_octets p cs = flat_map (octets_in p) cs

pub length-octets-in : (p : Params) (c : LaneCell) → length (octets_in p c) ≡ octets_per_tick p
length-octets-in p c = length-map (numbers_from 0 (octets_per_tick p)) _
    ∙ length-numbers (octets_per_tick p) 0

-- the same for any function that gives m at each
length-flat : {A B : Type 0} (f : A → List B) → (m : ℕ) (xs : List A)
    → ((x : A) → length (f x) ≡ m) → length (flat_map f xs) ≡ m * length xs
length-flat f m [] each = omega arith
length-flat f m (x ∷ xs) each =
    let here = each x in
    let later = length-flat f m xs each in
    let long = length-append (f x) (flat_map f xs) in
    omega arith

take-flat : {A B : Type 0} (f : A → List B) → (m : ℕ) (xs : List A) (n : ℕ)
    → ((x : A) → length (f x) ≡ m) → flat_map f (take n xs) ≡ take (m * n) (flat_map f xs)
take-flat f m [] zero each = sym (take-nil (m * 0))
take-flat f m [] (suc n) each = sym (take-nil (m * suc n))
take-flat f m (x ∷ xs) zero each =
    let e : 0 ≡ m * 0 = omega arith in
    ap (λ (k : ℕ). take k (f x ++ flat_map f xs)) e
take-flat f m (x ∷ xs) (suc n) each =
    let here = each x in
    let e : length (f x) + m * n ≡ m * suc n = omega arith in
    ap (λ ys. f x ++ ys) (take-flat f m xs n each)
    ∙ sym (take-append-add (f x) (flat_map f xs) (m * n))
    ∙ ap (λ (k : ℕ). take k (f x ++ flat_map f xs)) e

get_or-flat : {A B : Type 0} (f : A → List B) → (m : ℕ) (xs : List A) (k j : ℕ) (a : A) (b : B)
    → ((x : A) → length (f x) ≡ m) → k < length xs → j < m
    → get_or (flat_map f xs) (m * k + j) b ≡ get_or (f (get_or xs k a)) j b
get_or-flat f m [] k j a b each below inside = absurd (omega arith)
get_or-flat f m (x ∷ xs) zero j a b each below inside =
    let here = each x in
    let e : m * 0 + j ≡ j = omega arith in
    ap (λ (i : ℕ). get_or (f x ++ flat_map f xs) i b) e
    ∙ get_or_append_left (f x) (flat_map f xs) b j (omega arith)
get_or-flat f m (x ∷ xs) (suc k) j a b each below inside =
    let here = each x in
    let e : m * suc k + j ≡ length (f x) + (m * k + j) = omega arith in
    ap (λ (i : ℕ). get_or (f x ++ flat_map f xs) i b) e
    ∙ get_or-append-add (f x) (flat_map f xs) (m * k + j) b
    ∙ get_or-flat f m xs k j a b each (omega arith) inside

pub length-octets : (p : Params) (cs : List LaneCell)
    → length (all_octets p cs) ≡ octets_per_tick p * length cs
length-octets p cs = length-flat (octets_in p) (octets_per_tick p) cs (length-octets-in p)

-- octet j of cell k
pub octet-of-cell : (p : Params) (cs : List LaneCell) (k j : ℕ) → k < length cs
    → j < octets_per_tick p
    → get_or (all_octets p cs) (octets_per_tick p * k + j) no_cell
    ≡ get_or (octets_in p (get_or cs k no_cell)) j no_cell
octet-of-cell p cs k j below inside =
    get_or-flat (octets_in p) (octets_per_tick p) cs k j no_cell no_cell (length-octets-in p) below
    inside

-- the octets of the first entries of a session
pub octets-given-are : (p : Params) (m n : ℕ) (entries : List Entry) → HasCells m entries
    → octets_given p n entries
    ≡ take (octets_per_tick p * (n - m)) (all_octets p (cells_in entries))
unfolding octets_given
octets-given-are p m n entries h =
    ap (all_octets p) (h.cells n)
    ∙ take-flat (octets_in p) (octets_per_tick p) (cells_in entries) (n - m) (length-octets-in p)

-- ---- columns

-- the first n columns of the octets of l lanes
abbrev pub grid : ℕ → (ℕ → List LaneCell) → ℕ → Columns
grid l octets n = map (λ i. map (λ lane. get_or (octets lane) i no_cell) (numbers_from 0 l))
    (numbers_from 0 n)

pub length-grid : (l : ℕ) (octets : ℕ → List LaneCell) (n : ℕ) → length (grid l octets n) ≡ n
length-grid l octets n = length-map (numbers_from 0 n) _ ∙ length-numbers n 0

-- m columns more
grid-append : (l : ℕ) (octets : ℕ → List LaneCell) (n m : ℕ)
    → grid l octets (n + m) ≡ grid l octets n
    ++ map (λ j. map (λ lane. get_or (octets lane) (n + j) no_cell) (numbers_from 0 l))
    (numbers_from 0 m)
grid-append l octets n m =
    let row : ℕ → List LaneCell = λ i. map (λ lane. get_or (octets lane) i no_cell)
    (numbers_from 0 l) in
    let from : 0 + n ≡ n + 0 = omega arith in
    ap (map row) (numbers-append n m 0)
    ∙ map-append row (numbers_from 0 n) (numbers_from (0 + n) m)
    ∙ ap (λ (c : Columns). grid l octets n ++ c)
    (ap (λ (k : ℕ). map row (numbers_from k m)) from ∙ map-shift row m 0 n)

-- the octets of one cell more of each lane
pub grid-next : (p : Params) (l : ℕ) (cells : ℕ → List LaneCell) (k : ℕ)
    → ((lane : ℕ) → lane < l → k < length (cells lane))
    → grid l (λ lane. all_octets p (cells lane)) (octets_per_tick p * (k + 1))
    ≡ grid l (λ lane. all_octets p (cells lane)) (octets_per_tick p * k)
    ++ octet_columns p (map (λ lane. get_or (cells lane) k no_cell) (numbers_from 0 l))
grid-next p l cells k have =
    let m : ℕ = octets_per_tick p in
    let octets : ℕ → List LaneCell = λ lane. all_octets p (cells lane) in
    let column : List LaneCell = map (λ lane. get_or (cells lane) k no_cell) (numbers_from 0 l) in
    let size : m * (k + 1) ≡ m * k + m = omega arith in
    ap (grid l octets) size ∙ grid-append l octets (m * k) m
    ∙ ap (λ (c : Columns). grid l octets (m * k) ++ c)
    (map-numbers (λ j. map (λ lane. get_or (octets lane) (m * k + j) no_cell) (numbers_from 0 l))
    (λ j. map (λ c. get_or (octets_in p c) j no_cell) column) m 0
    (λ j inside.
    map-numbers (λ lane. get_or (octets lane) (m * k + j) no_cell)
    (λ lane. get_or (octets_in p (get_or (cells lane) k no_cell)) j no_cell) l 0
    (λ lane below. octet-of-cell p (cells lane) k j (have lane (omega arith)) (omega arith))
    ∙ sym (map-map (λ c. get_or (octets_in p c) j no_cell) (λ lane. get_or (cells lane) k no_cell)
    (numbers_from 0 l))))

-- columns of lanes that have the first n of these octets
pub grid-is : (l : ℕ) (some_octets all : ℕ → List LaneCell) (n : ℕ) → 0 < l
    → ((lane : ℕ) → lane < l → some_octets lane ≡ take n (all lane))
    → ((lane : ℕ) → lane < l → n ≤ length (all lane))
    → grid l some_octets (length (some_octets 0)) ≡ grid l all n
grid-is l some_octets all n some are enough =
    let first = enough 0 some in
    let taken = length-take n (all 0) in
    let long : length (some_octets 0) ≡ n = ap length (are 0 some) ∙ omega arith in
    ap (grid l some_octets) long
    ∙ map-numbers (λ i. map (λ lane. get_or (some_octets lane) i no_cell) (numbers_from 0 l))
    (λ i. map (λ lane. get_or (all lane) i no_cell) (numbers_from 0 l)) n 0
    (λ i below. map-numbers (λ lane. get_or (some_octets lane) i no_cell)
    (λ lane. get_or (all lane) i no_cell) l 0
    (λ lane inside. ap (λ (cs : List LaneCell). get_or cs i no_cell) (are lane (omega arith))
    ∙ get_or-take n (all lane) i no_cell (omega arith)))
