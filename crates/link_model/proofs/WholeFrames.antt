-- The frames that become whole as columns of octets come, and the octets of a cell by division.
use Rattle.std.proofs.Common.{◌≡◌, ℕ, zero, suc, ◌+◌, ◌-◌, ◌*◌, ◌/◌, ◌%◌, ◌^◌, ◌==◌, ◌<◌, ◌≤◌, ◌⊎◌, if◌then◌else◌, List, [], ◌∷◌, ◌++◌, map, length, take, drop, get_or, inl, inr, refl, sym, ap, ap₂, ◌∙◌, length-append, ne_eqb, arith}
use Rattle.std.proofs.Math.Nat.{div-mul-le_self, mod-lt, mul-le-mul_left, pow-suc}
use Rattle.std.proofs.Math.Seq.{drop-append_seam, take-append_seam}
use Rattle.std.proofs.lemmas.Bool.{cases_lt, cond-true, cond-false, eq-eqb}
use Rattle.std.proofs.lemmas.List.{append-nil, get_or-map, get_or_append_left, length-map, map-append, map_push}
use Rattle.std.proofs.lemmas.Nat.{div-mul-add, le-div, mod-mul-add, pow-add}
use Rattle.jesd_base.specs.Bits.{bits, value}
use Rattle.jesd_base.proofs.BitLemmas.{bits_length, bits_of_parts, value_of_bits}
use Rattle.link_params.specs.declared.fields.Params.{Params}
use Rattle.link_params.specs.declared.fields.Mode.TheVariants.{B}
use Rattle.link_params.specs.declared.cells.LaneCell.{LaneCell}
use Rattle.link_params.specs.Numbers.{octets_per_tick}
use Rattle.sample_map.specs.Frames.{words_of}
use Rattle.scenario.specs.Plans.{numbers_from}
use Rattle.link_model.proofs.NumberLists.{get_or-numbers, length-numbers, map-numbers, map-shift, numbers-append, numbers-more}
use Rattle.link_model.specs.kept.Before.{Columns, cell_at, cells_of, delivered_at, mark_of, no_cell, octet_columns, values_of}
use Rattle.link_model.specs.Gives.{octets_in}
use Rattle.link_model.specs.Moments.{Delivered}

-- ---- numbers

-- one number more is a multiple, or its quotient stays
pub next-number : (n f : ℕ) → 0 < f → (((n + 1) % f ≡ 0) × ((n + 1) / f ≡ n / f + 1))
    ⊎ (((n + 1) % f ≡ n % f + 1) × ((n + 1) / f ≡ n / f))
next-number n f some =
    let small = mod-lt n some in
    let parts : f * (n / f) + n % f ≡ n = omega arith in
    elim (cases_lt (n % f + 1) f) [
      | inl within ↦
          let e : n + 1 ≡ n / f * f + (n % f + 1) = omega arith in
          inr (
            ap (λ x. x % f) e ∙ mod-mul-add (n / f) f (n % f + 1) within,
            ap (λ x. x / f) e
                ∙ div-mul-add (n / f) f (n % f + 1) within,
          )
      | inr whole ↦
          let e : n + 1 ≡ (n / f + 1) * f + 0 = omega arith in
          inl (
            ap (λ x. x % f) e ∙ mod-mul-add (n / f + 1) f 0 some,
            ap (λ x. x / f) e
                ∙ div-mul-add (n / f + 1) f 0 some,
          )
    ]

pub div-le : (m n f : ℕ) → 0 < f → m ≤ n → m / f ≤ n / f
div-le m n f some below =
    let parts : m / f * f ≤ m = div-mul-le_self m f in
    le-div (m / f) n f some (omega arith)

-- a number below a quotient is that of a whole part
pub whole-part : (n f q : ℕ) → 0 < f → q < n / f → q * f + f ≤ n
whole-part n f q some below =
    let m : f * (q + 1) ≤ f * (n / f) =
    mul-le-mul_left f (let e : q + 1 ≤ n / f = omega arith in e) in
    let size : f * (q + 1) ≡ q * f + f = omega arith in
    let parts : f * (n / f) + n % f ≡ n = omega arith in
    omega arith

-- the parts that are whole with n + 1 and were not with `before`: those with n, and maybe one more
pub whole-parts-more : {A : Type 0} (g : ℕ → A) → (f before n : ℕ) → 0 < f → before ≤ n
    → map g (numbers_from (before / f) ((n + 1) / f - before / f))
    ≡ map g (numbers_from (before / f) (n / f - before / f))
    ++ (if (n + 1) % f == 0 then g (n / f) ∷ [] else [])
unfolding numbers_from
whole-parts-more {A} g f before n some below =
    let up : before / f ≤ n / f = div-le before n f some below in
    let numbers : List ℕ = numbers_from (before / f) (n / f - before / f) in
    let old : List A = map g numbers in
    elim (next-number n f some) [
      | inl whole ↦
          let number = whole.1 in
          let count : (n + 1) / f - before / f ≡ n / f - before / f + 1 = omega arith in
          let from : before / f + (n / f - before / f) ≡ n / f = omega arith in
          ap (λ (k : ℕ). map g (numbers_from (before / f) k)) count
          ∙ ap (map g) (numbers-append (n / f - before / f) 1 (before / f)
          ∙ ap (λ (x : ℕ). numbers ++ x ∷ []) from)
          ∙ map_push g numbers (n / f)
          ∙ sym (ap (λ (l : List A). old ++ l) (cond-true ((n + 1) % f == 0) (g (n / f) ∷ []) []
          (eq-eqb ((n + 1) % f) 0 whole.0)))
      | inr apart ↦
          let rest = apart.0 in
          let number = apart.1 in
          let count : (n + 1) / f - before / f ≡ n / f - before / f = omega arith in
          ap (λ (k : ℕ). map g (numbers_from (before / f) k)) count ∙ sym (append-nil old)
          ∙ sym (ap (λ (l : List A). old ++ l) (cond-false ((n + 1) % f == 0) (g (n / f) ∷ []) []
          (ne_eqb ((n + 1) % f) 0 (λ e. absurd (omega arith)))))
    ]

-- ---- frames

-- frame n of these columns, where its last octet is among them; end: the octet time after the last
-- column
abbrev pub frame_at : Params → ℕ → Columns → ℕ → Delivered
frame_at p end columns n = record {
  left = end + n * p.f - length columns;
  mark = mark_of (cells_of p columns n p.f);
  words = words_of p (values_of (cells_of p columns n p.f));
}

-- a frame that is whole stays as it is
pub cells-stay : (p : Params) (cs ds : Columns) (n : ℕ) → 0 < p.f → n * p.f + p.f ≤ length cs
    → cells_of p (cs ++ ds) n p.f ≡ cells_of p cs n p.f
cells-stay p cs ds n some whole =
    map-numbers (λ i. cell_at p (cs ++ ds) n (i / p.f) (i % p.f))
    (λ i. cell_at p cs n (i / p.f) (i % p.f)) (p.l * p.f) 0 (λ i below.
    let small = mod-lt i some in
    ap (λ (c : List LaneCell). get_or c (i / p.f) no_cell)
    (get_or_append_left cs ds [] (n * p.f + i % p.f) (omega arith)))

frame-stays : (p : Params) (end : ℕ) (cs ds : Columns) (n : ℕ) → 0 < p.f
    → n * p.f + p.f ≤ length cs
    → frame_at p (end + length ds) (cs ++ ds) n ≡ frame_at p end cs n
frame-stays p end cs ds n some whole =
    let long = length-append cs ds in
    let left : end + length ds + n * p.f - length (cs ++ ds) ≡ end + n * p.f - length cs =
    omega arith in
    ap₂ (λ (at : ℕ) (xs : List LaneCell). let d : Delivered =
    record { left = at; mark = mark_of xs; words = words_of p (values_of xs) } in d) left
    (cells-stay p cs ds n some whole)

-- the frames of more columns: those that are whole with the first of them, and then the others
pub delivered-splits : (p : Params) (end before : ℕ) (cs ds : Columns) → 0 < p.f
    → before ≤ length cs
    → delivered_at p (end + length ds) before (cs ++ ds)
    ≡ delivered_at p end before cs ++ delivered_at p (end + length ds) (length cs) (cs ++ ds)
delivered-splits p end before cs ds some below =
    let f = p.f in
    let frame : ℕ → Delivered = frame_at p (end + length ds) (cs ++ ds) in
    let long = length-append cs ds in
    let first : before / f ≤ length cs / f = div-le before (length cs) f some below in
    let then_more : length cs / f ≤ length (cs ++ ds) / f =
    div-le (length cs) (length (cs ++ ds)) f some (omega arith) in
    let count : length (cs ++ ds) / f - before / f
    ≡ length cs / f - before / f + (length (cs ++ ds) / f - length cs / f) = omega arith in
    let from : before / f + (length cs / f - before / f) ≡ length cs / f = omega arith in
    ap (λ (k : ℕ). map frame (numbers_from (before / f) k)) count
    ∙ ap (map frame) (numbers-append (length cs / f - before / f)
    (length (cs ++ ds) / f - length cs / f) (before / f))
    ∙ map-append frame (numbers_from (before / f) (length cs / f - before / f)) _
    ∙ ap₂ (λ (a b : List Delivered). a ++ b)
    (map-numbers frame (frame_at p end cs) (length cs / f - before / f) (before / f)
    (λ n inside. frame-stays p end cs ds n some
    (whole-part (length cs) f n some (omega arith))))
    (ap (λ (k : ℕ). map frame (numbers_from k (length (cs ++ ds) / f - length cs / f))) from)

-- no columns more, no frames
pub delivered-none : (p : Params) (end before : ℕ) (cs : Columns) → length cs ≡ before
    → delivered_at p end before cs ≡ []
unfolding numbers_from
delivered-none p end before cs same =
    let none : length cs / p.f - before / p.f ≡ 0 =
    ap (λ (n : ℕ). n / p.f - before / p.f) same ∙ omega arith in
    ap (λ (k : ℕ). map (frame_at p end cs) (numbers_from (before / p.f) k)) none

-- with one column more the frame is whole whose last octets it has, if any
pub delivered-one : (p : Params) (end : ℕ) (cs : Columns) (c : List LaneCell) → 0 < p.f
    → delivered_at p end (length cs) (cs ++ c ∷ [])
    ≡ (if (length cs + 1) % p.f == 0
    then frame_at p end (cs ++ c ∷ []) (length cs / p.f) ∷ []
    else [])
unfolding numbers_from
delivered-one p end cs c some =
    let n : ℕ = length cs in
    let frame : ℕ → Delivered = frame_at p end (cs ++ c ∷ []) in
    let due : List Delivered = if (n + 1) % p.f == 0 then frame (n / p.f) ∷ [] else [] in
    let none : n / p.f - n / p.f ≡ 0 = omega arith in
    ap (λ (k : ℕ). map frame (numbers_from (n / p.f) (k / p.f - n / p.f)))
    (length-append cs (c ∷ []))
    ∙ whole-parts-more frame p.f n n some (omega arith)
    ∙ ap (λ (k : ℕ). map frame (numbers_from (n / p.f) k) ++ due) none

-- the frames with one column more
pub delivered-more : (p : Params) (end before : ℕ) (cs : Columns) (c : List LaneCell) → 0 < p.f
    → before ≤ length cs
    → delivered_at p (end + 1) before (cs ++ c ∷ [])
    ≡ delivered_at p end before cs
    ++ (if (length cs + 1) % p.f == 0
    then frame_at p (end + 1) (cs ++ c ∷ []) (length cs / p.f) ∷ []
    else [])
delivered-more p end before cs c some below =
    delivered-splits p end before cs (c ∷ []) some below
    ∙ ap (λ (ds : List Delivered). delivered_at p end before cs ++ ds)
    (delivered-one p (end + 1) cs c some)

-- the frames by their number in the tick, and their times by how many octets of each lane came
-- behind them
pub delivered-by-place : (p : Params) (end before : ℕ) (columns : Columns) → 0 < p.f
    → before ≤ length columns
    → delivered_at p end before columns
    ≡ map (λ i. record {
      left = end + i * p.f
          - (length columns % p.f + (length columns / p.f - before / p.f) * p.f);
      mark = mark_of (cells_of p columns (before / p.f + i) p.f);
      words = words_of p (values_of (cells_of p columns (before / p.f + i) p.f));
    }) (numbers_from 0 (length columns / p.f - before / p.f))
delivered-by-place p end before columns some below =
    let f = p.f in
    let n : ℕ = length columns in
    let a : ℕ = before / f in
    let count : ℕ = n / f - a in
    let up : a ≤ n / f = div-le before n f some below in
    let from : a ≡ a + 0 = omega arith in
    let parts : f * (n / f) + n % f ≡ n = omega arith in
    let whole : n / f ≡ a + count = omega arith in
    let size : f * (n / f) ≡ a * f + count * f =
    ap (λ (k : ℕ). f * k) whole
    ∙ (let e : f * (a + count) ≡ a * f + count * f = omega arith in e) in
    ap (λ (k : ℕ). map (frame_at p end columns) (numbers_from k count)) from
    ∙ map-shift (frame_at p end columns) count 0 a
    ∙ map-numbers (λ i. frame_at p end columns (a + i)) (λ i. let d : Delivered = record {
      left = end + i * f - (n % f + count * f);
      mark = mark_of (cells_of p columns (a + i) f);
      words = words_of p (values_of (cells_of p columns (a + i) f));
    } in d) count 0 (λ i inside.
    let place : (a + i) * f ≡ a * f + i * f = omega arith in
    let left : end + (a + i) * f - n ≡ end + i * f - (n % f + count * f) = omega arith in
    ap (λ (at : ℕ). let d : Delivered = record {
      left = at;
      mark = mark_of (cells_of p columns (a + i) f);
      words = words_of p (values_of (cells_of p columns (a + i) f));
    } in d) left)

-- a frame that becomes whole with the last column left in the time of its first one
pub left-of-whole : (end f n : ℕ) → 0 < f → (n + 1) % f ≡ 0
    → end + n / f * f - (n + 1) ≡ end - f
left-of-whole end f n some whole =
    elim (next-number n f some) [
      | inl is ↦
          let number = is.1 in
          let parts : f * ((n + 1) / f) + (n + 1) % f ≡ n + 1 = omega arith in
          let product : f * ((n + 1) / f) ≡ f * (n / f + 1) = ap (λ (k : ℕ). f * k) number in
          let times : f * (n / f + 1) ≡ n / f * f + f = omega arith in
          omega arith
      | inr apart ↦ let rest = apart.0 in absurd (omega arith)
    ]

-- ---- the columns of a tick

pub length-octet-columns : (p : Params) (column : List LaneCell)
    → length (octet_columns p column) ≡ octets_per_tick p
length-octet-columns p column = length-map (numbers_from 0 (octets_per_tick p)) _
    ∙ length-numbers (octets_per_tick p) 0

-- octet j of each cell
abbrev pub octet_column : Params → List LaneCell → ℕ → List LaneCell
octet_column p column j = map (λ c. get_or (octets_in p c) j no_cell) column

-- the columns of the first n octets; of all of them they are octet_columns
abbrev pub first_columns : Params → List LaneCell → ℕ → Columns
first_columns p column n = map (octet_column p column) (numbers_from 0 n)

pub first-columns-more : (p : Params) (column : List LaneCell) (n : ℕ)
    → first_columns p column (n + 1) ≡ first_columns p column n ++ octet_column p column n ∷ []
first-columns-more p column n =
    let more : n + 1 ≡ suc n = omega arith in
    let last : 0 + n ≡ n = omega arith in
    ap (first_columns p column) more
    ∙ ap (map (octet_column p column)) (numbers-more n 0)
    ∙ map_push (octet_column p column) (numbers_from 0 n) (0 + n)
    ∙ ap (λ (j : ℕ). first_columns p column n ++ octet_column p column j ∷ []) last

pub first-columns-all : (p : Params) (column : List LaneCell)
    → first_columns p column (octets_per_tick p) ≡ octet_columns p column
first-columns-all p column = refl

-- ---- the octets of a cell

pub power-octets : (n : ℕ) → 2 ^ (8 * n) ≡ 256 ^ n
power-octets zero = refl
power-octets (suc n) =
    let size : 8 * suc n ≡ 8 + 8 * n = omega arith in
    let turn : 256 * 256 ^ n ≡ 256 ^ n * 256 = omega arith in
    ap (λ (k : ℕ). 2 ^ k) size ∙ pow-add 2 8 (8 * n) ∙ ap (λ (k : ℕ). 256 * k) (power-octets n)
    ∙ turn ∙ sym (pow-suc 256 n)

-- eight bits of a number, with `above` before them and `below` behind them
octet-of-bits : (above below x : ℕ)
    → value (take 8 (drop above (bits (above + (8 + below)) x))) ≡ x / 2 ^ below % 256
octet-of-bits above below x =
    let first : List _ = bits above (x / 2 ^ (8 + below)) in
    let here : List _ = bits 8 (x / 2 ^ below) in
    let size : length here ≡ 8 = bits_length 8 (x / 2 ^ below) in
    let at : length first ≡ above = bits_length above (x / 2 ^ (8 + below)) in
    ap (λ bs. value (take 8 (drop above bs))) (bits_of_parts above (8 + below) x)
    ∙ ap (λ (k : ℕ). value (take 8 (drop k (first ++ bits (8 + below) x)))) (sym at)
    ∙ ap (λ bs. value (take 8 bs)) (drop-append_seam first (bits (8 + below) x))
    ∙ ap (λ bs. value (take 8 bs)) (bits_of_parts 8 below x)
    ∙ ap (λ (k : ℕ). value (take k (here ++ bits below x))) (sym size)
    ∙ ap value (take-append_seam here (bits below x))
    ∙ value_of_bits 8 (x / 2 ^ below)

-- octet j of a cell of n octets, the first one from the top
abbrev pub octet_at : ℕ → LaneCell → ℕ → LaneCell
octet_at n c j = record { value = c.value / 2 ^ (8 * (n - 1 - j)) % 256; mark = c.mark }

octet-value : (n j x : ℕ) → j < n
    → value (take 8 (drop (8 * j) (bits (8 * n) x))) ≡ x / 2 ^ (8 * (n - 1 - j)) % 256
octet-value n j x below =
    let size : 8 * n ≡ 8 * j + (8 + 8 * (n - 1 - j)) = omega arith in
    ap (λ (k : ℕ). value (take 8 (drop (8 * j) (bits k x)))) size
    ∙ octet-of-bits (8 * j) (8 * (n - 1 - j)) x

pub octets-are : (p : Params) (c : LaneCell)
    → octets_in p c ≡ map (octet_at (octets_per_tick p) c) (numbers_from 0 (octets_per_tick p))
octets-are p c =
    let n : ℕ = octets_per_tick p in
    map-numbers (λ j. let x : LaneCell = record {
      value = value (take 8 (drop (8 * j) (bits (8 * n) c.value)));
      mark = c.mark;
    } in x) (octet_at n c) n 0
    (λ j below. ap (λ (v : ℕ). let x : LaneCell = record { value = v; mark = c.mark } in x)
    (octet-value n j c.value (omega arith)))

pub octet-is : (p : Params) (c : LaneCell) (j : ℕ) → j < octets_per_tick p
    → get_or (octets_in p c) j no_cell ≡ octet_at (octets_per_tick p) c j
octet-is p c j below =
    let n : ℕ = octets_per_tick p in
    let long = length-numbers n 0 in
    let same : 0 + j ≡ j = omega arith in
    ap (λ (xs : List LaneCell). get_or xs j no_cell) (octets-are p c)
    ∙ get_or-map (octet_at n c) (numbers_from 0 n) j 0 no_cell (omega arith)
    ∙ ap (octet_at n c) (get_or-numbers n j 0 0 below ∙ same)

-- by powers of 256
pub octet-by-256 : (n : ℕ) (c : LaneCell) (j : ℕ)
    → octet_at n c j ≡ record { value = c.value / 256 ^ (n - 1 - j) % 256; mark = c.mark }
octet-by-256 n c j = ap (λ (k : ℕ). let x : LaneCell = record {
  value = c.value / k % 256;
  mark = c.mark;
} in x) (power-octets (n - 1 - j))

-- the octet of a cell of an 8b/10b lane
abbrev pub octet_b : LaneCell → LaneCell
octet_b c = record { value = c.value % 256; mark = c.mark }

pub octets-are-b : (p : Params) (c : LaneCell) → p.mode ≡ B → octets_in p c ≡ octet_b c ∷ []
unfolding numbers_from
octets-are-b p c mode =
    let one : octets_per_tick p ≡ 1 = rw mode refl in
    let same : c.value / 2 ^ (8 * (1 - 1 - 0)) ≡ c.value = omega arith in
    octets-are p c ∙ ap (λ (n : ℕ). map (octet_at n c) (numbers_from 0 n)) one
    ∙ ap (λ (v : ℕ). let x : LaneCell = record { value = v % 256; mark = c.mark } in x ∷ []) same

firsts-b : (p : Params) (column : List LaneCell) → p.mode ≡ B
    → map (λ c. get_or (octets_in p c) 0 no_cell) column ≡ map octet_b column
firsts-b p [] mode = refl
firsts-b p (c ∷ column) mode =
    ap₂ (λ (x : LaneCell) (xs : List LaneCell). x ∷ xs)
    (ap (λ (xs : List LaneCell). get_or xs 0 no_cell) (octets-are-b p c mode))
    (firsts-b p column mode)

-- one column a tick with 8b/10b lanes
pub octet-columns-b : (p : Params) (column : List LaneCell) → p.mode ≡ B
    → octet_columns p column ≡ map octet_b column ∷ []
unfolding numbers_from
octet-columns-b p column mode =
    let one : octets_per_tick p ≡ 1 = rw mode refl in
    ap (λ (n : ℕ). map (λ j. map (λ c. get_or (octets_in p c) j no_cell) column)
    (numbers_from 0 n)) one
    ∙ ap (λ (c : List LaneCell). c ∷ []) (firsts-b p column mode)
