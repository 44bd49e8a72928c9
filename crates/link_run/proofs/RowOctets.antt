-- Octets that are written to the rows of the lanes.
use Rattle.std.proofs.Common.{◌≡◌, ℕ, zero, suc, ◌+◌, ◌-◌, ◌*◌, ◌/◌, ◌%◌, ◌^◌, ◌<◌, ◌≤◌, ◌⊎◌, List, [], ◌∷◌, ◌++◌, map, length, get_or, set, take, drop, get_or-set_other, get_or-set_same, refl, ap, ◌∙◌, sym, arith, inl, inr, Some, None}
use Rattle.std.specs.Prelude.{fold, slice_index, Option}
use Rattle.std.specs.Int.{bytes_high_first, w64, to_be_bytes}
use Rattle.std.proofs.Math.Seq.{get_or-append-add, take-length, get_or-take, get_or-drop, length-take-le}
use Rattle.std.proofs.Math.ListN.{get_or-append}
use Rattle.std.proofs.Math.Nat.{mul-le-mul_right}
use Rattle.std.proofs.lemmas.List.{get_or-map, length-append, length-drop, length-map, length-set, map_more}
use Rattle.std.proofs.lemmas.List.Sums.{fold-append}
use Rattle.std.proofs.lemmas.Bool.{cases_lt}
use borrow.Rule.Slice.PartMut.{put_mid}
use Rattle.link_params.specs.declared.cells.LaneCell.{LaneCell}
use Rattle.link_params.specs.declared.cells.Mark.{Mark}
use Rattle.link_params.specs.declared.cells.Mark.TheVariants.{Ok as Good}
use Rattle.link_params.specs.Lanes.{worse}
use Rattle.link_model.proofs.WholeFrames.{power-octets}
use Rattle.link_model.specs.kept.Before.{no_cell}
use Rattle.link_run.specs.kept.FrameRows.{AreMoved, IsPut, IsWritten}

-- ---- some octets

pub written-none : (old : List ℕ) (place : ℕ) (octet : ℕ → ℕ) → IsWritten old old place 0 octet
written-none old place octet = record {
  size = refl;
  written = λ i below. absurd (omega arith);
  kept = λ k outside. refl;
}

-- one octet more
pub written-more : (old mid now : List ℕ) (place n x : ℕ) (octet : ℕ → ℕ)
    → place + n < length mid → x ≡ octet n → now ≡ set mid (place + n) x
    → IsWritten old mid place n octet → IsWritten old now place (n + 1) octet
written-more old mid now place n x octet inside value is had = rw is (record {
  size = length-set mid (place + n) x ∙ had.size;
  written = λ i below. elim (cases_lt i n) [
    | inl before ↦
        let apart = λ (e : place + i ≡ place + n). absurd (omega arith) in
        get_or-set_other mid (place + n) (place + i) x 0 apart ∙ had.written i before
    | inr past ↦
        let e : i ≡ n = omega arith in
        rw e (get_or-set_same mid (place + n) x 0 inside ∙ value)
  ];
  kept = λ k outside. elim outside [
    | inl low ↦
        get_or-set_other mid (place + n) k x 0 (λ e. absurd (omega arith)) ∙ had.kept k (inl low)
    | inr high ↦
        get_or-set_other mid (place + n) k x 0 (λ e. absurd (omega arith))
        ∙ had.kept k (inr (omega arith))
  ];
})

-- a slice of them
pub written-slice : (old ys : List ℕ) (place k : ℕ) (octet : ℕ → ℕ) → place + k ≤ length old
    → length ys ≡ k → ((i : ℕ) → i < k → get_or ys i 0 ≡ octet i)
    → IsWritten old (put_mid place k old ys) place k octet
written-slice old ys place k octet inside long are =
    let first : List ℕ = take place old in
    let last : List ℕ = drop k (drop place old) in
    let before : length first ≡ place = length-take-le place old (omega arith) in
    let here = length-append ys last in
    let all = length-append first (ys ++ last) in
    let left = length-drop k (drop place old) in
    let behind = length-drop place old in
    record {
      size = omega arith;
      written = λ i below.
          let within : i < length ys = omega arith in
          ap (λ (m : ℕ). slice_index (first ++ (ys ++ last)) (m + i)) (sym before)
          ∙ get_or-append-add first (ys ++ last) i 0
          ∙ get_or-append ys last 0 i within
          ∙ are i below;
      kept = λ m outside. elim outside [
        | inl low ↦
            let within : m < length first = omega arith in
            get_or-append first (ys ++ last) 0 m within ∙ get_or-take place old m 0 low
        | inr high ↦
            let x = m - (place + k) in
            let e : m ≡ length first + (length ys + x) = omega arith in
            let to : place + (k + x) ≡ m = omega arith in
            ap (slice_index (first ++ (ys ++ last))) e
            ∙ get_or-append-add first (ys ++ last) (length ys + x) 0
            ∙ get_or-append-add ys last x 0
            ∙ get_or-drop k (drop place old) x 0
            ∙ get_or-drop place old (k + x) 0
            ∙ ap (slice_index old) to
      ];
    }

-- the octets of a number, the first one most significant
pub high-first : (k i x : ℕ) → i < k
    → get_or (bytes_high_first k x) i 0 ≡ x / 2 ^ (8 * (k - 1 - i)) % 256
high-first zero i x below = absurd (omega arith)
high-first (suc zero) zero x below =
    let none : x ≡ x / 1 = omega arith in
    ap (λ (v : ℕ). v % 256) none
high-first (suc (suc k)) zero x below =
    let e : suc k ≡ suc (suc k) - 1 - 0 = omega arith in
    ap (λ (v : ℕ). x / v % 256) (sym (power-octets (suc k)))
    ∙ ap (λ (m : ℕ). x / 2 ^ (8 * m) % 256) e
high-first (suc k) (suc i) x below =
    let e : k - 1 - i ≡ suc k - 1 - suc i = omega arith in
    high-first k i x (omega arith) ∙ ap (λ (m : ℕ). x / 2 ^ (8 * m) % 256) e

pub length-high : (k x : ℕ) → length (bytes_high_first k x) ≡ k
length-high zero x = refl
length-high (suc k) x = ap suc (length-high k x)

pub written-word : (old : List ℕ) (place n k x : ℕ) (ys : List ℕ) → n ≡ 8 → k ≡ 8
    → place + n ≤ length old → ys ≡ to_be_bytes w64 x
    → IsWritten old (put_mid place k old ys) place n (λ i. x / 2 ^ (8 * (n - 1 - i)) % 256)
written-word old place n k x ys eight all inside is =
    rw (eight, all, is) (written-slice old (bytes_high_first 8 x) place 8
    (λ i. x / 2 ^ (8 * (8 - 1 - i)) % 256) (omega arith) (length-high 8 x)
    (λ i below. high-first 8 i x below))

-- ---- lane by lane

-- octet i of a row, and the n octets from octet `at` of another row on, all within rows
pub lanes-apart : (lane m f i at n : ℕ) → i < f → at + n ≤ f → (lane ≡ m → i < at)
    → (lane * f + i < m * f + at) ⊎ (m * f + at + n ≤ lane * f + i)
lanes-apart lane m f i at n in_lane in_frame before = elim (cases_lt lane m) [
  | inl below ↦
      let h : (lane + 1) * f ≤ m * f =
      mul-le-mul_right f (let q : lane + 1 ≤ m = omega arith in q) in
      inl (omega arith)
  | inr past ↦ elim (cases_lt m lane) [
    | inl above ↦
        let h : (m + 1) * f ≤ lane * f =
        mul-le-mul_right f (let q : m + 1 ≤ lane = omega arith in q) in
        inr (omega arith)
    | inr here ↦
        let e : lane ≡ m = omega arith in
        let low = before e in
        let same : lane * f ≡ m * f = ap (λ (k : ℕ). k * f) e in
        inl (omega arith)
  ]
]

-- a place of a row is one of the rows
pub row-within : (lane lanes room m : ℕ) → lane < lanes → m ≤ room → lane * room + m ≤ lanes * room
row-within lane lanes room m below within =
    let h : (lane + 1) * room ≤ lanes * room =
    mul-le-mul_right room (let q : lane + 1 ≤ lanes = omega arith in q) in
    omega arith

-- the first m rows were moved, and the others stand
pub record AreMoving (old now : List ℕ) (room from n m : ℕ) : Type 0 where
  pub size : length now ≡ length old
  pub moved : (lane i : ℕ) → lane < m → i < n
      → slice_index now (lane * room + i) ≡ slice_index old (lane * room + (from + i))
  pub stood : (lane i : ℕ) → m ≤ lane → i < room
      → slice_index now (lane * room + i) ≡ slice_index old (lane * room + i)

pub moving-none : (old : List ℕ) (room from n : ℕ) → AreMoving old old room from n 0
moving-none old room from n = record {
  size = refl;
  moved = λ lane i low below. absurd (omega arith);
  stood = λ lane i past below. refl;
}

pub moving-more : (old mid now : List ℕ) (room from n m : ℕ) → from + n ≤ room → n ≤ from
    → IsWritten mid now (m * room) n (λ i. slice_index mid (m * room + from + i))
    → AreMoving old mid room from n m → AreMoving old now room from n (m + 1)
moving-more old mid now room from n m within behind is had = record {
  size = is.size ∙ had.size;
  moved = λ lane i low below. elim (cases_lt lane m) [
    | inl before ↦
        let apart = lanes-apart lane m room i 0 n (omega arith) (omega arith)
        (λ e. absurd (omega arith)) in
        let zero_first : m * room + 0 ≡ m * room = omega arith in
        is.kept (lane * room + i) (rw zero_first at apart) ∙ had.moved lane i before below
    | inr past ↦
        let e : lane ≡ m = omega arith in
        let to : m * room + from + i ≡ m * room + (from + i) = omega arith in
        rw e (is.written i below ∙ ap (slice_index mid) to
        ∙ had.stood m (from + i) (omega arith) (omega arith))
  ];
  stood = λ lane i past below.
      let h : (m + 1) * room ≤ lane * room = mul-le-mul_right room past in
      is.kept (lane * room + i) (inr (omega arith)) ∙ had.stood lane i (omega arith) below;
}

pub all-moved : (old now : List ℕ) (lanes room from n m : ℕ) → lanes ≤ m
    → AreMoving old now room from n m → AreMoved old now lanes room from n
all-moved old now lanes room from n m all had = record {
  size = had.size;
  moved = λ lane i low below. had.moved lane i (omega arith) below;
}

-- ---- a frame that is copied from the rows

-- the octets of a frame in a row, and in all rows
pub part-within : (lane lanes room i whole size at n : ℕ) → lane < lanes → i < whole
    → whole * size + at ≤ room → n ≡ lanes * room
    → (i * size ≤ room) × (lane * room + i * size + size ≤ n)
part-within lane lanes room i whole size at n in_lanes in_whole fits all =
    let up : (i + 1) * size ≤ whole * size =
    mul-le-mul_right size (let q : i + 1 ≤ whole = omega arith in q) in
    let row = row-within lane lanes room (i * size + size) in_lanes (omega arith) in
    (omega arith, omega arith)

-- octet j of frame i, which has `size` octets on a lane, for the first m lanes
pub record IsCopied (rows now : List ℕ) (room size i m : ℕ) : Type 0 where
  pub copied : (lane j : ℕ) → lane < m → j < size
      → slice_index now (lane * size + j) ≡ slice_index rows (lane * room + (i * size + j))

pub copied-none : (rows now : List ℕ) (room size i : ℕ) → IsCopied rows now room size i 0
copied-none rows now room size i = record {
  copied = λ lane j low below. absurd (omega arith);
}

pub copied-more : (rows mid now ys : List ℕ) (room size i m k from n : ℕ)
    → m * size + size ≤ length mid → from + size ≤ length rows → from ≡ m * room + i * size
    → k ≡ size → n ≡ size → ys ≡ take n (drop from rows)
    → now ≡ put_mid (m * size) k mid ys
    → IsCopied rows mid room size i m → IsCopied rows now room size i (m + 1)
copied-more rows mid now ys room size i m k from n inside within place all count is put had =
    let behind = length-drop from rows in
    let long : length (take n (drop from rows)) ≡ n =
    length-take-le n (drop from rows) (omega arith) in
    let wrote : IsWritten mid now (m * size) size (λ j. slice_index rows (from + j)) =
    rw (put, all) (written-slice mid ys (m * size) size (λ j. slice_index rows (from + j)) inside
    (ap length is ∙ long ∙ count)
    (λ j below. ap (λ (l : List ℕ). slice_index l j) is
    ∙ get_or-take n (drop from rows) j 0 (omega arith)
    ∙ get_or-drop from rows j 0)) in
    record {
      copied = λ lane j low below. elim (cases_lt lane m) [
        | inl before ↦
            let up : (lane + 1) * size ≤ m * size =
            mul-le-mul_right size (let q : lane + 1 ≤ m = omega arith in q) in
            wrote.kept (lane * size + j) (inl (omega arith)) ∙ had.copied lane j before below
        | inr past ↦
            let e : lane ≡ m = omega arith in
            let to : from + j ≡ m * room + (i * size + j) = omega arith in
            rw e (wrote.written j below ∙ ap (slice_index rows) to)
      ];
    }

-- ---- what each lane gave

-- those of the first m lanes were put
pub record IsPutting (old now : List ℕ) (given : List (Option LaneCell)) (room at n m : ℕ)
    (mark : Mark) : Type 0 where
  pub size : length now ≡ length old
  pub worst : (column : List LaneCell) → given ≡ map (λ c. Some c) column
      → mark ≡ fold worse Good (map (λ c. c.mark) (take m column))
  pub put : (column : List LaneCell) → given ≡ map (λ c. Some c) column
      → (lane i : ℕ) → lane < m → i < n
      → slice_index now (lane * room + (at + i))
      ≡ (get_or column lane no_cell).value / 2 ^ (8 * (n - 1 - i)) % 256
  pub kept : (lane i : ℕ) → i < at
      → slice_index now (lane * room + i) ≡ slice_index old (lane * room + i)

in-column : (given : List (Option LaneCell)) (column : List LaneCell) (m : ℕ) → m < length given
    → given ≡ map (λ c. Some c) column
    → (m < length column) × (get_or given m None ≡ Some (get_or column m no_cell))
in-column given column m lt is =
    let size = ap length is ∙ length-map column (λ c. Some c) in
    let within : m < length column = omega arith in
    (within, ap (λ g. get_or g m None) is ∙ get_or-map (λ c. Some c) column m no_cell None within)

pub putting-none : (old : List ℕ) (given : List (Option LaneCell)) (room at n : ℕ)
    → IsPutting old old given room at n 0 Good
putting-none old given room at n = record {
  size = refl;
  worst = λ column all. refl;
  put = λ column all lane i in_lanes in_new. absurd (omega arith);
  kept = λ lane i in_lane. refl;
}

-- what a lane more gave
pub putting-more : (old mid now : List ℕ) (given : List (Option LaneCell)) (room at n m : ℕ)
    (mark : Mark) (cell : LaneCell) → m < length given
    → get_or given m None ≡ Some cell → at + n ≤ room
    → IsWritten mid now (m * room + at) n (λ i. cell.value / 2 ^ (8 * (n - 1 - i)) % 256)
    → IsPutting old mid given room at n m mark
    → IsPutting old now given room at n (m + 1) (worse mark cell.mark)
putting-more old mid now given room at n m mark cell lt there within wrote had = record {
  size = wrote.size ∙ had.size;
  worst = λ column all.
      let in_lanes = in-column given column m lt all in
      let same : cell ≡ get_or column m no_cell = cc in
      let marks = map_more (λ c. c.mark) column m no_cell in_lanes.0 in
      let last : List Mark = (get_or column m no_cell).mark ∷ [] in
      let folds = fold-append worse Good (map (λ c. c.mark) (take m column)) last in
      rw (marks, folds, same)
      (ap (λ w. worse w ((get_or column m no_cell).mark)) (had.worst column all));
  put = λ column all lane i in_lanes in_new. elim (cases_lt lane m) [
    | inl below ↦
        wrote.kept (lane * room + (at + i)) (lanes-apart lane m room (at + i) at n (omega arith)
        within (λ e. absurd (omega arith)))
        ∙ had.put column all lane i below in_new
    | inr past ↦
        let e : lane ≡ m = omega arith in
        let inside = in-column given column m lt all in
        let same : cell ≡ get_or column m no_cell = cc in
        let place : m * room + (at + i) ≡ m * room + at + i = omega arith in
        rw e (ap (λ (k : ℕ). slice_index now k) place ∙ wrote.written i in_new
        ∙ ap (λ c. c.value / 2 ^ (8 * (n - 1 - i)) % 256) same)
  ];
  kept = λ lane i in_lane.
      wrote.kept (lane * room + i) (lanes-apart lane m room i at n (omega arith) within
      (λ e. in_lane))
      ∙ had.kept lane i in_lane;
}

pub all-put : (old now : List ℕ) (given : List (Option LaneCell)) (room at n m : ℕ) (mark : Mark)
    → m ≡ length given → IsPutting old now given room at n m mark
    → IsPut old now given room at n mark
all-put old now given room at n m mark all had = record {
  size = had.size;
  worst = λ column is.
      let long : m ≡ length column = all ∙ ap length is ∙ length-map column (λ c. Some c) in
      had.worst column is
      ∙ ap (λ (k : ℕ). fold worse Good (map (λ c. c.mark) (take k column))) long
      ∙ ap (λ (cs : List LaneCell). fold worse Good (map (λ c. c.mark) cs)) (take-length column);
  put = λ column is lane i in_lanes in_new.
      let long : m ≡ length column = all ∙ ap length is ∙ length-map column (λ c. Some c) in
      had.put column is lane i (omega arith) in_new;
  kept = had.kept;
}
