-- Frames as they are gathered, by columns of octets.
use Rattle.std.proofs.Common.{◌≡◌, ℕ, zero, suc, ◌+◌, ◌-◌, ◌*◌, ◌/◌, ◌%◌, ◌^◌, ◌==◌, ◌<◌, ◌≤◌, if◌then◌else◌, List, [], ◌++◌, map, length, get_or, refl, ap, ap₂, ◌∙◌, sym, subst, arith, inl, inr, Some, ne_eqb}
use Rattle.std.specs.Prelude.{fold, slice_index, Option}
use Rattle.std.proofs.Math.Seq.{get_or-append-add}
use Rattle.std.proofs.Math.ListN.{get_or-append}
use Rattle.std.proofs.Math.Nat.{mod-lt, zero-mod, mul-le-mul_right}
use Rattle.std.proofs.lemmas.List.{ext_get_or, get_or-map, length-append, length-map}
use Rattle.std.proofs.lemmas.Nat.{div-mul-add, mod-mul-add, mul-add-lt}
use Rattle.std.proofs.lemmas.Bool.{cases_lt, cond-false}
use Rattle.std.proofs.lemmas.Simd.{map-map}
use Rattle.link_params.specs.declared.fields.Params.{Params}
use Rattle.link_params.specs.declared.cells.LaneCell.{LaneCell}
use Rattle.link_params.specs.declared.cells.Mark.{Mark}
use Rattle.link_params.specs.declared.cells.Mark.TheVariants.{Ok as Good}
use Rattle.link_params.specs.Lanes.{worse}
use Rattle.link_params.specs.Numbers.{octets_per_tick}
use Rattle.scenario.specs.Plans.{numbers_from}
use Rattle.link_model.proofs.NumberLists.{get_or-numbers, length-numbers, map-numbers, map-shift}
use Rattle.link_model.proofs.WholeFrames.{length-octet-columns, octet-is, octet_at, octet_column}
use Rattle.link_model.specs.kept.Before.{Columns, cell_at, cells_of, mark_of, no_cell, octet_columns, values_of}
use Rattle.link_run.proofs.Marks.{IsWorst, fold-worse, lane-lt, mark_of-cells, nothing-worst, some-of-product, worst_more, worst_same, worst_unique}
use Rattle.link_run.proofs.RowOctets.{IsCopied}
use Rattle.link_run.specs.kept.FrameRows.{AreMoved, IsPut, frame_in, whole_in}
use Rattle.link_run.specs.kept.Gathered.{Gathering, HasGathered, Whole, no_frame, whole_of}

-- ---- the octets of a frame in the rows

pub frame-octet : (rows : List ℕ) (p : Params) (room i lane j : ℕ) → lane < p.l → j < p.f
    → slice_index (frame_in rows p room i) (lane * p.f + j)
    ≡ slice_index rows (lane * room + (i * p.f + j))
frame-octet rows p room i lane j in_lanes in_lane =
    let octet = λ (k : ℕ). slice_index rows (k / p.f * room + (i * p.f + k % p.f)) in
    let bound = mul-add-lt lane p.f j p.l in_lanes in_lane in
    let place = lane * p.f + j in
    let long = length-numbers (p.l * p.f) 0 in
    let below : place < length (numbers_from 0 (p.l * p.f)) = omega arith in
    let same : 0 + place ≡ place = omega arith in
    get_or-map octet (numbers_from 0 (p.l * p.f)) place 0 0 below
    ∙ ap octet (get_or-numbers (p.l * p.f) place 0 0 (omega arith) ∙ same)
    ∙ ap₂ (λ (a b : ℕ). slice_index rows (a * room + (i * p.f + b)))
    (div-mul-add lane p.f j in_lane) (mod-mul-add lane p.f j in_lane)

-- ---- what a deframer shows of its rows

pub no-frames : {A : Type 0} (f : ℕ → A) → map f (numbers_from 0 0) ≡ []
unfolding numbers_from
no-frames f = refl

pub count-frames : {A : Type 0} (f : ℕ → A) → (n : ℕ) → length (map f (numbers_from 0 n)) ≡ n
count-frames f n = length-map (numbers_from 0 n) f ∙ length-numbers n 0

pub in-frames : {A : Type 0} (f : ℕ → A) → (n i : ℕ) (frames : List A)
    → map f (numbers_from 0 n) ≡ frames → i < length frames → i < n
in-frames f n i frames is below =
    let many : n ≡ length frames = sym (count-frames f n) ∙ ap length is in
    omega arith

pub frame-shown : (rows : List ℕ) (p : Params) (room : ℕ) (first others : Mark) (whole i : ℕ)
    → i < whole
    → get_or (map (whole_in rows p room first others) (numbers_from 0 whole)) i no_frame
    ≡ whole_in rows p room first others i
frame-shown rows p room first others whole i below =
    let long = length-numbers whole 0 in
    let same : 0 + i ≡ i = omega arith in
    get_or-map (whole_in rows p room first others) (numbers_from 0 whole) i 0 no_frame
    (omega arith)
    ∙ ap (whole_in rows p room first others) (get_or-numbers whole i 0 0 below ∙ same)

-- the octets behind the frames that are over began their rows
pub frame-moved : (old now : List ℕ) (p : Params) (lanes size room whole n lane j : ℕ)
    → lanes ≡ p.l → size ≡ p.f → n ≤ size → AreMoved old now lanes room (whole * size) n
    → lane < p.l → j < n
    → slice_index (frame_in now p room 0) (lane * p.f + j)
    ≡ slice_index (frame_in old p room whole) (lane * p.f + j)
frame-moved old now p lanes size room whole n lane j all is few moved in_lanes below =
    let start : 0 * p.f + j ≡ j = omega arith in
    frame-octet now p room 0 lane j in_lanes (omega arith)
    ∙ ap (λ (k : ℕ). slice_index now (lane * room + k)) start
    ∙ moved.moved lane j (omega arith) below
    ∙ ap (λ (k : ℕ). slice_index old (lane * room + (whole * k + j))) is
    ∙ sym (frame-octet old p room whole lane j in_lanes (omega arith))

pub shown-same : (old : Gathering) (params : Params) (at : ℕ) (mark : Mark) (octets : List ℕ)
    (frames : List Whole) → params ≡ old.params → at ≡ old.at → mark ≡ old.mark → frames ≡ []
    → (let now : Gathering = record {
      params = params;
      at = at;
      mark = mark;
      octets = octets;
      frames = frames;
    } in now) ≡ record old { octets = octets; frames = [] }
shown-same old params at mark octets frames is_params is_at is_mark none =
    rw (is_params, is_at, is_mark, none) refl

-- frames that begin with the octets of a tick are no more than these
pub few-whole : (whole rest at n f : ℕ) → whole * f + rest ≡ at + n → at < f → 0 < n → whole ≤ n
few-whole whole rest at n f count within some = elim (cases_lt n whole) [
  | inl above ↦
      let up : (n + 1) * f ≤ whole * f =
      mul-le-mul_right f (let q : n + 1 ≤ whole = omega arith in q) in
      let each : 1 * n ≤ f * n = mul-le-mul_right n (let q : 1 ≤ f = omega arith in q) in
      let turn : f * n ≡ n * f = omega arith in
      absurd (omega arith)
  | inr below ↦ below
]

-- nothing was taken yet
pub gathered-nothing : (now : Gathering) (p : Params) → now.params ≡ p → now.at ≡ 0
    → now.mark ≡ Good → HasGathered now p []
gathered-nothing now p same at mark = record {
  same_params = same;
  count = at ∙ sym (zero-mod p.f);
  worst =
      rw (at, mark)
      (worst_unique p.l 0 (cell_at p [] (0 / p.f)) Good (mark_of (cells_of p [] (0 / p.f) 0))
      (nothing-worst p.l (cell_at p [] (0 / p.f))) (mark_of-cells p.l 0 (cell_at p [] (0 / p.f))));
  octets = λ lane j in_lanes in_lane. absurd (omega arith);
}

-- a frame that was copied from the rows, lane by lane
pub copied-frame : (rows now : List ℕ) (p : Params) (room size i : ℕ) → size ≡ p.f
    → length now ≡ p.l * p.f → IsCopied rows now room size i p.l → now ≡ frame_in rows p room i
copied-frame rows now p room size i is long had =
    let shown : List ℕ = frame_in rows p room i in
    let all : length shown ≡ p.l * p.f = count-frames _ (p.l * p.f) in
    let copied = rw is at had.copied in
    ext_get_or 0 now shown (long ∙ sym all) (λ k inside.
    let in_frame : k < p.l * p.f = omega arith in
    let lane = k / p.f in
    let j = k % p.f in
    let in_lanes = lane-lt k p.l p.f in_frame in
    let in_lane = mod-lt k (some-of-product k p.l p.f in_frame) in
    let place : lane * p.f + j ≡ k = omega arith in
    subst (λ (m : ℕ). slice_index now m ≡ slice_index shown m) place
    (copied lane j in_lanes in_lane ∙ sym (frame-octet rows p room i lane j in_lanes in_lane)))

-- the same octets, at the beginning of the rows
pub gathered-moved : (old now : Gathering) → now.params ≡ old.params → now.at ≡ old.at
    → now.mark ≡ old.mark
    → ((lane j : ℕ) → lane < old.params.l → j < old.at
    → slice_index now.octets (lane * old.params.f + j)
    ≡ slice_index old.octets (lane * old.params.f + j))
    → (p : Params) (columns : Columns) → HasGathered old p columns → HasGathered now p columns
gathered-moved old now params at mark octets p columns had =
    let same = had.same_params in
    record {
      same_params = params ∙ same;
      count = at ∙ had.count;
      worst = mark ∙ had.worst
          ∙ ap (λ (m : ℕ). mark_of (cells_of p columns (length columns / p.f) m)) (sym at);
      octets = λ lane j in_lanes in_lane.
          (rw same at octets) lane j in_lanes (omega arith)
          ∙ had.octets lane j in_lanes (omega arith);
    }

-- ---- columns

cell-before : (p : Params) (columns more : Columns) (q lane j : ℕ)
    → q * p.f + j < length columns
    → cell_at p (columns ++ more) q lane j ≡ cell_at p columns q lane j
cell-before p columns more q lane j lt =
    ap (λ c. get_or c lane no_cell) (get_or-append columns more [] (q * p.f + j) lt)

-- octet i of a tick's
cell-new : (p : Params) (columns : Columns) (column : List LaneCell) (q lane j i : ℕ)
    → q * p.f + j ≡ length columns + i → i < octets_per_tick p → lane < length column
    → cell_at p (columns ++ octet_columns p column) q lane j
    ≡ octet_at (octets_per_tick p) (get_or column lane no_cell) i
cell-new p columns column q lane j i place below in_lanes =
    let n = octets_per_tick p in
    let more : Columns = octet_columns p column in
    let long = length-numbers n 0 in
    let same : 0 + i ≡ i = omega arith in
    ap (λ c. get_or c lane no_cell)
    (ap (λ (k : ℕ). get_or (columns ++ more) k []) place
    ∙ get_or-append-add columns more i []
    ∙ get_or-map (octet_column p column) (numbers_from 0 n) i 0 [] (omega arith)
    ∙ ap (octet_column p column) (get_or-numbers n i 0 0 below ∙ same))
    ∙ get_or-map _ column lane no_cell no_cell in_lanes
    ∙ octet-is p (get_or column lane no_cell) i below

-- the same cell, by the frame that it is in
cell-of-frame : (p : Params) (columns : Columns) (q i lane j : ℕ)
    → cell_at p columns (q + i) lane j ≡ cell_at p columns q lane (i * p.f + j)
cell-of-frame p columns q i lane j =
    let place : (q + i) * p.f + j ≡ q * p.f + (i * p.f + j) = omega arith in
    ap (λ (k : ℕ). get_or (get_or columns k []) lane no_cell) place

-- ---- a tick in which each lane gives a cell

past-first : (i : ℕ) (a b : Mark) → (if suc i == 0 then a else b) ≡ b
past-first i a b = cond-false (suc i == 0) a b (ne_eqb (suc i) 0 (λ e. absurd (omega arith)))

-- what was gathered, and what the tick brings: n octets of each lane, `worst` the worst of their
-- marks
pub record HasNext (was : Gathering) (p : Params) (columns : Columns) (column : List LaneCell)
    (rows now : List ℕ) (room n : ℕ) (worst : Mark) : Type 0 where
  pub had : HasGathered was p columns
  pub lanes : length column ≡ p.l
  pub within : was.at < p.f
  pub ticks : n ≡ octets_per_tick p
  pub some : 0 < n
  pub was_rows : was.octets ≡ frame_in rows p room 0
  pub worst_is : worst ≡ fold worse Good (map (λ c. c.mark) column)
  pub put : (lane i : ℕ) → lane < p.l → i < n
      → slice_index now (lane * room + (was.at + i))
      ≡ (get_or column lane no_cell).value / 2 ^ (8 * (n - 1 - i)) % 256
  pub kept : (lane i : ℕ) → i < was.at
      → slice_index now (lane * room + i) ≡ slice_index rows (lane * room + i)

pub has-next : (was : Gathering) (p : Params) (columns : Columns) (column : List LaneCell)
    (rows now : List ℕ) (given : List (Option LaneCell)) (room n : ℕ) (worst : Mark)
    → HasGathered was p columns → given ≡ map (λ c. Some c) column → length given ≡ p.l
    → was.at < p.f → n ≡ octets_per_tick p → 0 < n → was.octets ≡ frame_in rows p room 0
    → IsPut rows now given room was.at n worst
    → HasNext was p columns column rows now room n worst
has-next was p columns column rows now given room n worst had all count within ticks some octets is =
    let long = ap length all ∙ length-map column (λ c. Some c) in
    record {
      had = had;
      lanes = omega arith;
      within = within;
      ticks = ticks;
      some = some;
      was_rows = octets;
      worst_is = is.worst column all;
      put = λ lane i in_lanes in_new. is.put column all lane i (omega arith) in_new;
      kept = is.kept;
    }

module _ (was : Gathering) (p : Params) (columns : Columns) (column : List LaneCell)
    (rows now : List ℕ) (room n : ℕ) (worst : Mark)
    (h : HasNext was p columns column rows now room n worst) where
  abbrev pub all_columns : Columns
  all_columns = columns ++ octet_columns p column

  abbrev pub frames_before : ℕ
  frames_before = length columns / p.f

  long : length all_columns ≡ frames_before * p.f + (was.at + n)
  long =
      let both = length-append columns (octet_columns p column) in
      let more = length-octet-columns p column in
      let count = h.had.count in
      let ticks = h.ticks in
      omega arith

  old-cell : (lane j : ℕ) → j < was.at
      → cell_at p all_columns frames_before lane j ≡ cell_at p columns frames_before lane j
  old-cell lane j below =
      let count = h.had.count in
      cell-before p columns (octet_columns p column) frames_before lane j (omega arith)

  new-cell : (lane i : ℕ) → lane < p.l → i < n
      → cell_at p all_columns frames_before lane (was.at + i)
      ≡ octet_at n (get_or column lane no_cell) i
  new-cell lane i in_lanes below =
      let count = h.had.count in
      let lanes = h.lanes in
      let ticks = h.ticks in
      cell-new p columns column frames_before lane (was.at + i) i (omega arith) (omega arith)
      (omega arith)
      ∙ ap (λ (k : ℕ). octet_at k (get_or column lane no_cell) i) (sym ticks)

  -- the octets of each lane, from the frame on that was not whole
  octet-here : (lane j : ℕ) → lane < p.l → j < was.at + n
      → slice_index now (lane * room + j) ≡ (cell_at p all_columns frames_before lane j).value
  octet-here lane j in_lanes below = elim (cases_lt j was.at) [
    | inl before ↦
        let within = h.within in
        let same : 0 * p.f + j ≡ j = omega arith in
        h.kept lane j before
        ∙ ap (λ (k : ℕ). slice_index rows (lane * room + k)) (sym same)
        ∙ sym (frame-octet rows p room 0 lane j in_lanes (omega arith))
        ∙ ap (λ (xs : List ℕ). slice_index xs (lane * p.f + j)) (sym h.was_rows)
        ∙ h.had.octets lane j in_lanes before
        ∙ ap (λ c. c.value) (sym (old-cell lane j before))
    | inr past ↦
        let i = j - was.at in
        let e : j ≡ was.at + i = omega arith in
        ap (λ (k : ℕ). slice_index now (lane * room + k)) e
        ∙ h.put lane i in_lanes (omega arith)
        ∙ ap (λ c. c.value) (sym (new-cell lane i in_lanes (omega arith)))
        ∙ ap (λ (k : ℕ). (cell_at p all_columns frames_before lane k).value) (sym e)
  ]

  -- the worst mark of the frame that was not whole, with some octets of the tick
  worst-with : (m : ℕ) → 0 < m → m ≤ n
      → IsWorst p.l (was.at + m) (cell_at p all_columns frames_before) (worse was.mark worst)
  worst-with m some below =
      let cell = cell_at p columns frames_before in
      let before : IsWorst p.l was.at cell was.mark =
      subst (IsWorst p.l was.at cell) (sym h.had.worst) (mark_of-cells p.l was.at cell) in
      let marks : List Mark = map (λ c. c.mark) column in
      subst (IsWorst p.l (was.at + m) (cell_at p all_columns frames_before))
      (fold-worse marks was.mark ∙ ap (worse was.mark) (sym h.worst_is))
      (worst_more p.l was.at m (cell_at p all_columns frames_before) was.mark column some h.lanes
      (λ lane i in_lanes in_new. ap (λ c. c.mark) (new-cell lane i in_lanes (omega arith)))
      (worst_same p.l was.at cell (cell_at p all_columns frames_before) was.mark
      (λ lane j in_lanes in_lane. old-cell lane j in_lane) before))

  -- that of a frame of which all octets are of the tick
  worst-new : (i m : ℕ) → 0 < m → was.at ≤ i * p.f → i * p.f + m ≤ was.at + n
      → IsWorst p.l m (cell_at p all_columns (frames_before + i)) worst
  worst-new i m some from to =
      let cell = cell_at p all_columns (frames_before + i) in
      let none : 0 + m ≡ m = omega arith in
      subst (IsWorst p.l m cell) (sym h.worst_is)
      (subst (λ (k : ℕ). IsWorst p.l k cell (fold worse Good (map (λ c. c.mark) column))) none
      (worst_more p.l 0 m cell Good column some h.lanes
      (λ lane j in_lanes in_new.
      let place : i * p.f + (0 + j) ≡ was.at + (i * p.f - was.at + j) = omega arith in
      ap (λ c. c.mark) (cell-of-frame p all_columns frames_before i lane (0 + j)
      ∙ ap (cell_at p all_columns frames_before lane) place
      ∙ new-cell lane (i * p.f - was.at + j) in_lanes (omega arith)))
      (nothing-worst p.l cell)))

  -- ---- the frames that become whole

  module _ (whole rest : ℕ) (count : whole * p.f + rest ≡ was.at + n) (few : rest < p.f) where
    numbers : (length all_columns / p.f ≡ frames_before + whole) × (length all_columns % p.f ≡ rest)
    numbers =
        let e : length all_columns ≡ (frames_before + whole) * p.f + rest =
        (let all = long in omega arith) in (
          ap (λ (k : ℕ). k / p.f) e ∙ div-mul-add (frames_before + whole) p.f rest few,
          ap (λ (k : ℕ). k % p.f) e ∙ mod-mul-add (frames_before + whole) p.f rest few,
        )

    frame-within : (i : ℕ) → i < whole → i * p.f + p.f ≤ was.at + n
    frame-within i below =
        let up : (i + 1) * p.f ≤ whole * p.f =
        mul-le-mul_right p.f (let q : i + 1 ≤ whole = omega arith in q) in
        omega arith

    frame-octets : (i : ℕ) → i < whole
        → frame_in now p room i ≡ values_of (cells_of p all_columns (frames_before + i) p.f)
    frame-octets i below =
        let size = p.l * p.f in
        let up = frame-within i below in
        let cell = λ (k : ℕ). cell_at p all_columns (frames_before + i) (k / p.f) (k % p.f) in
        map-numbers (λ k. slice_index now (k / p.f * room + (i * p.f + k % p.f)))
        (λ k. (cell k).value) size 0 (λ k inside.
        let in_frame : k < p.l * p.f = omega arith in
        let small = mod-lt k (some-of-product k p.l p.f in_frame) in
        octet-here (k / p.f) (i * p.f + k % p.f) (lane-lt k p.l p.f in_frame) (omega arith)
        ∙ ap (λ c. c.value) (sym (cell-of-frame p all_columns frames_before i (k / p.f) (k % p.f))))
        ∙ sym (map-map (λ c. c.value) cell (numbers_from 0 size))

    frame-mark : (i : ℕ) → i < whole
        → (if i == 0 then worse was.mark worst else worst)
        ≡ mark_of (cells_of p all_columns (frames_before + i) p.f)
    frame-mark zero below =
        let within = h.within in
        let up = frame-within 0 below in
        let cell = cell_at p all_columns (frames_before + 0) in
        let same : frames_before + 0 ≡ frames_before = omega arith in
        let size : was.at + (p.f - was.at) ≡ p.f = omega arith in
        worst_unique p.l p.f cell (worse was.mark worst)
        (mark_of (cells_of p all_columns (frames_before + 0) p.f))
        (subst (λ (q : ℕ). IsWorst p.l p.f (cell_at p all_columns q) (worse was.mark worst))
        (sym same) (subst (λ (k : ℕ).
        IsWorst p.l k (cell_at p all_columns frames_before) (worse was.mark worst)) size
        (worst-with (p.f - was.at) (omega arith) (omega arith))))
        (mark_of-cells p.l p.f cell)
    frame-mark (suc i) below =
        let within = h.within in
        let cell = cell_at p all_columns (frames_before + suc i) in
        let first : 1 * p.f ≤ suc i * p.f =
        mul-le-mul_right p.f (let q : 1 ≤ suc i = omega arith in q) in
        past-first i (worse was.mark worst) worst
        ∙ worst_unique p.l p.f cell worst
        (mark_of (cells_of p all_columns (frames_before + suc i) p.f))
        (worst-new (suc i) p.f (omega arith) (omega arith) (frame-within (suc i) below))
        (mark_of-cells p.l p.f cell)

    pub frames-next : map (whole_in now p room (worse was.mark worst) worst) (numbers_from 0 whole)
        ≡ map (whole_of p all_columns)
        (numbers_from (length columns / p.f) (length all_columns / p.f - length columns / p.f))
    frames-next =
        let number = numbers.0 in
        let many : whole ≡ length all_columns / p.f - frames_before = omega arith in
        let start : frames_before + 0 ≡ frames_before = omega arith in
        map-numbers (whole_in now p room (worse was.mark worst) worst)
        (λ i. whole_of p all_columns (frames_before + i)) whole 0
        (λ i inside. ap₂ (λ (m : Mark) (octets : List ℕ). let w : Whole =
        record { mark = m; octets = octets } in w) (frame-mark i (omega arith))
        (frame-octets i (omega arith)))
        ∙ sym (map-shift (whole_of p all_columns) whole 0 frames_before)
        ∙ ap₂ (λ (a k : ℕ). map (whole_of p all_columns) (numbers_from a k)) start many

    -- ---- and the one behind them

    mark-behind : (w r : ℕ) → w ≡ whole → r ≡ rest
        → IsWorst p.l r (cell_at p all_columns (frames_before + w))
        (if w == 0 then worse was.mark worst else (if r == 0 then Good else worst))
    mark-behind zero r same left =
        let none : 0 * p.f ≡ 0 = omega arith in
        let first : whole * p.f ≡ 0 = ap (λ (k : ℕ). k * p.f) (sym same) ∙ none in
        let start : frames_before + 0 ≡ frames_before = omega arith in
        let all : was.at + n ≡ r = omega arith in
        subst (λ (q : ℕ). IsWorst p.l r (cell_at p all_columns q) (worse was.mark worst)) (sym start)
        (subst (λ (k : ℕ).
        IsWorst p.l k (cell_at p all_columns frames_before) (worse was.mark worst)) all
        (worst-with n h.some (omega arith)))
    mark-behind (suc w) zero same left =
        subst (IsWorst p.l 0 (cell_at p all_columns (frames_before + suc w)))
        (sym (past-first w (worse was.mark worst) Good))
        (nothing-worst p.l (cell_at p all_columns (frames_before + suc w)))
    mark-behind (suc w) (suc r) same left =
        let within = h.within in
        let first : 1 * p.f ≤ suc w * p.f =
        mul-le-mul_right p.f (let q : 1 ≤ suc w = omega arith in q) in
        let size : suc w * p.f ≡ whole * p.f = ap (λ (k : ℕ). k * p.f) same in
        subst (IsWorst p.l (suc r) (cell_at p all_columns (frames_before + suc w)))
        (sym (past-first w (worse was.mark worst) (if suc r == 0 then Good else worst)
        ∙ past-first r Good worst))
        (worst-new (suc w) (suc r) (omega arith) (omega arith) (omega arith))

    pub gathered-next : (next : Gathering) → next.params ≡ p → next.at ≡ rest
        → next.mark ≡ (if whole == 0 then worse was.mark worst else (if rest == 0 then Good else worst))
        → next.octets ≡ frame_in now p room whole
        → HasGathered next p all_columns
    gathered-next next params at mark octets =
        let number = numbers.0 in
        let q = frames_before + whole in
        let cell = cell_at p all_columns q in
        record {
          same_params = params;
          count = at ∙ sym numbers.1;
          worst = rw (number, at, mark) (worst_unique p.l rest cell _
              (mark_of (cells_of p all_columns q rest)) (mark-behind whole rest refl refl)
              (mark_of-cells p.l rest cell));
          octets = λ lane j in_lanes in_lane. rw number (
              ap (λ (xs : List ℕ). slice_index xs (lane * p.f + j)) octets
              ∙ frame-octet now p room whole lane j in_lanes (omega arith)
              ∙ octet-here lane (whole * p.f + j) in_lanes (omega arith)
              ∙ ap (λ c. c.value) (sym (cell-of-frame p all_columns frames_before whole lane j)));
        }
