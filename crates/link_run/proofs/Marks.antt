-- The worst of some marks, by what is not better than each of them.
use Rattle.std.proofs.Common.{◌≡◌, ℕ, zero, suc, ◌+◌, ◌-◌, ◌*◌, ◌/◌, ◌%◌, ◌<◌, ◌≤◌, List, [], ◌∷◌, map, length, get_or, refl, ap, sym, ◌∙◌, arith, inl, inr}
use Rattle.std.proofs.lemmas.List.{get_or-map, length-map}
use Rattle.std.proofs.Math.Nat.{mod-lt, mul-zero, mul-le-mul_right}
use Rattle.std.specs.Prelude.{fold}
use Rattle.std.proofs.lemmas.Nat.{div-mul-add, mod-mul-add, mul-add-lt}
use Rattle.std.proofs.lemmas.Bool.{cases_lt}
use Rattle.link_params.specs.declared.cells.LaneCell.{LaneCell}
use Rattle.link_params.specs.declared.cells.Mark.{Mark}
use Rattle.link_params.specs.declared.cells.Mark.TheVariants.{Ok as Good, Fixed, Bad}
use Rattle.link_params.specs.Lanes.{worse}
use Rattle.scenario.specs.Plans.{numbers_from}
use Rattle.link_model.specs.kept.Before.{mark_of, no_cell}

-- how bad a mark is
abbrev pub rank : Mark → ℕ
rank Good = 0
rank Fixed = 1
rank Bad = 2

rank-inj : (m n : Mark) → rank m ≤ rank n → rank n ≤ rank m → m ≡ n
rank-inj Good Good a b = refl
rank-inj Good Fixed a b = absurd (omega arith)
rank-inj Good Bad a b = absurd (omega arith)
rank-inj Fixed Good a b = absurd (omega arith)
rank-inj Fixed Fixed a b = refl
rank-inj Fixed Bad a b = absurd (omega arith)
rank-inj Bad Good a b = absurd (omega arith)
rank-inj Bad Fixed a b = absurd (omega arith)
rank-inj Bad Bad a b = refl

-- neither is worse than the worse of both, which is one of them
record IsWorse (m n w : Mark) : Type 0 where
  left : rank m ≤ rank w
  right : rank n ≤ rank w
  least : (b : ℕ) → rank m ≤ b → rank n ≤ b → rank w ≤ b

is_worse : (m n : Mark) → IsWorse m n (worse m n)
is_worse Good n = record { left = omega arith; right = omega arith; least = λ b h k. k }
is_worse Fixed Good = record { left = omega arith; right = omega arith; least = λ b h k. h }
is_worse Fixed Fixed = record { left = omega arith; right = omega arith; least = λ b h k. h }
is_worse Fixed Bad = record { left = omega arith; right = omega arith; least = λ b h k. k }
is_worse Bad Good = record { left = omega arith; right = omega arith; least = λ b h k. h }
is_worse Bad Fixed = record { left = omega arith; right = omega arith; least = λ b h k. h }
is_worse Bad Bad = record { left = omega arith; right = omega arith; least = λ b h k. h }

-- the fold of some cells' marks on a mark
record IsFold (m : Mark) (cells : List LaneCell) (w : Mark) : Type 0 where
  first : rank m ≤ rank w
  each : (i : ℕ) → i < length cells → rank ((get_or cells i no_cell).mark) ≤ rank w
  least : (b : ℕ) → rank m ≤ b
      → ((i : ℕ) → i < length cells → rank ((get_or cells i no_cell).mark) ≤ b) → rank w ≤ b

each_at : (c : LaneCell) (cells : List LaneCell) (w : Mark) → rank c.mark ≤ rank w
    → ((i : ℕ) → i < length cells → rank ((get_or cells i no_cell).mark) ≤ rank w)
    → (i : ℕ) → i < length (c ∷ cells) → rank ((get_or (c ∷ cells) i no_cell).mark) ≤ rank w
each_at c cells w here more zero h = here
each_at c cells w here more (suc i) h = more i (omega arith)

is_fold : (cells : List LaneCell) (m : Mark)
    → IsFold m cells (fold worse m (map (λ c. c.mark) cells))
is_fold [] m = record {
  first = omega arith;
  each = λ i h. absurd (omega arith);
  least =
      λ b h k. h;
}
is_fold (c ∷ cells) m =
    let one = is_worse m c.mark in
    let more = is_fold cells (worse m c.mark) in
    let first = more.first in
    let left = one.left in
    let right = one.right in
    record {
      first = omega arith;
      each = λ i h. each_at c cells (fold worse (worse m c.mark) (map (λ d. d.mark) cells))
          (omega arith) more.each i h;
      least = λ b h k. more.least b (one.least b h (k 0 (omega arith)))
          (λ i lt. k (suc i) (omega arith));
    }

-- ---- by lanes and by columns

-- the worst mark of the first m cells of each lane
pub record IsWorst (lanes m : ℕ) (cell : ℕ → ℕ → LaneCell) (w : Mark) : Type 0 where
  pub each : (lane j : ℕ) → lane < lanes → j < m → rank ((cell lane j).mark) ≤ rank w
  pub least : (b : ℕ) → ((lane j : ℕ) → lane < lanes → j < m → rank ((cell lane j).mark) ≤ b)
      → rank w ≤ b

pub worst_unique : (lanes m : ℕ) (cell : ℕ → ℕ → LaneCell) (v w : Mark) → IsWorst lanes m cell v
    → IsWorst lanes m cell w → v ≡ w
worst_unique lanes m cell v w a b = rank-inj v w (a.least (rank w) b.each) (b.least (rank v) a.each)

pub length-numbers : (n a : ℕ) → length (numbers_from a n) ≡ n
unfolding numbers_from
length-numbers zero a = refl
length-numbers (suc n) a = let h = length-numbers n (suc a) in omega arith

pub get_or-numbers : (n a i d : ℕ) → i < n → get_or (numbers_from a n) i d ≡ a + i
unfolding numbers_from
get_or-numbers zero a i d h = absurd (omega arith)
get_or-numbers (suc n) a zero d h = omega arith
get_or-numbers (suc n) a (suc i) d h = get_or-numbers n (suc a) i d (omega arith) ∙ omega arith

-- the cells of each lane, lane 0's first, are those with these numbers
pub get_or-cells : (h : ℕ → LaneCell) (n i : ℕ) → i < n
    → get_or (map h (numbers_from 0 n)) i no_cell ≡ h i
get_or-cells h n i lt =
    let in_numbers : i < length (numbers_from 0 n) = rw (length-numbers n 0) lt in
    let e : 0 + i ≡ i = omega arith in
    get_or-map h (numbers_from 0 n) i 0 no_cell in_numbers
    ∙ (ap h (get_or-numbers n 0 i 0 lt) ∙ ap h e)

pub length-cells : (h : ℕ → LaneCell) (n : ℕ) → length (map h (numbers_from 0 n)) ≡ n
length-cells h n = length-map (numbers_from 0 n) h ∙ length-numbers n 0

pub some-of-product : (i lanes m : ℕ) → i < lanes * m → 0 < m
some-of-product i lanes zero h = let e : lanes * 0 ≡ 0 = mul-zero lanes in absurd (omega arith)
some-of-product i lanes (suc m) h = omega arith

pub lane-lt : (i lanes m : ℕ) → i < lanes * m → i / m < lanes
lane-lt i lanes m h = let some = some-of-product i lanes m h in elim (cases_lt (i / m) lanes) [
  | inl below ↦ below
  | inr past ↦ let more : lanes * m ≤ i / m * m = mul-le-mul_right m past in absurd (omega arith)
]

-- the mark of the first m cells of each lane
pub mark_of-cells : (lanes m : ℕ) (cell : ℕ → ℕ → LaneCell)
    → IsWorst lanes m cell (mark_of (map (λ i. cell (i / m) (i % m)) (numbers_from 0 (lanes * m))))
mark_of-cells lanes m cell =
    let h = λ (i : ℕ). cell (i / m) (i % m) in
    let cells = map h (numbers_from 0 (lanes * m)) in
    let f = is_fold cells Good in
    record {
      each = λ lane j in_lanes in_lane.
          let bound = mul-add-lt lane m j lanes in_lanes in_lane in
          let lt : lane * m + j < lanes * m = omega arith in
          let here =
          rw (
            get_or-cells h (lanes * m) (lane * m + j) lt,
            div-mul-add lane m j in_lane,
            mod-mul-add lane m j in_lane,
          ) at
          (f.each (lane * m + j) (rw (length-cells h (lanes * m)) lt)) in
          here;
      least = λ b every. f.least b (omega arith) (λ i lt.
          let within = rw (length-cells h (lanes * m)) at lt in
          let some = some-of-product i lanes m within in
          rw (get_or-cells h (lanes * m) i within)
          (every (i / m) (i % m) (lane-lt i lanes m within) (mod-lt i some)));
    }

pub worst_same : (lanes m : ℕ) (cell other : ℕ → ℕ → LaneCell) (w : Mark)
    → ((lane j : ℕ) → lane < lanes → j < m → other lane j ≡ cell lane j) → IsWorst lanes m cell w
    → IsWorst lanes m other w
worst_same lanes m cell other w same is = record {
  each = λ lane j in_lanes in_lane. rw (same lane j in_lanes in_lane)
      (is.each lane j in_lanes in_lane);
  least =
      λ b every. is.least b
      (λ lane j in_lanes in_lane. rw (same lane j in_lanes in_lane) at
      (every lane j in_lanes in_lane));
}

-- n columns more, with the marks of this one
pub worst_more : (lanes m n : ℕ) (cell : ℕ → ℕ → LaneCell) (w : Mark) (column : List LaneCell)
    → 0 < n → length column ≡ lanes
    → ((lane i : ℕ) → lane < lanes → i < n
    → (cell lane (m + i)).mark ≡ (get_or column lane no_cell).mark)
    → IsWorst lanes m cell w → IsWorst lanes (m + n) cell (fold worse w (map (λ c. c.mark) column))
worst_more lanes m n cell w column some size last is =
    let f = is_fold column w in
    let first = f.first in
    record {
      each = λ lane j in_lanes in_lane. elim (cases_lt j m) [
        | inl below ↦ (let old = is.each lane j in_lanes below in omega arith)
        | inr past ↦
            let i = j - m in
            let e : j ≡ m + i = omega arith in
            let mark = ap (λ (k : ℕ). (cell lane k).mark) e ∙ last lane i in_lanes (omega arith) in
            let same = ap rank mark in
            let here = f.each lane (omega arith) in
            omega arith
      ];
      least =
          λ b every. f.least b
          (is.least b (λ lane j in_lanes in_lane. every lane j in_lanes (omega arith)))
          (λ i lt.
          let same = ap rank (last i 0 (omega arith) some) in
          let here = every i (m + 0) (omega arith) (omega arith) in
          omega arith);
    }

-- ---- the marks of a tick, worse than one that was there

worse-assoc : (a b c : Mark) → worse (worse a b) c ≡ worse a (worse b c)
worse-assoc Good b c = refl
worse-assoc Bad b c = refl
worse-assoc Fixed Good c = refl
worse-assoc Fixed Bad c = refl
worse-assoc Fixed Fixed Good = refl
worse-assoc Fixed Fixed Fixed = refl
worse-assoc Fixed Fixed Bad = refl

worse-good : (m : Mark) → worse m Good ≡ m
worse-good Good = refl
worse-good Fixed = refl
worse-good Bad = refl

pub fold-worse : (marks : List Mark) (m : Mark) → fold worse m marks ≡ worse m (fold worse Good marks)
fold-worse [] m = sym (worse-good m)
fold-worse (x ∷ marks) m =
    fold-worse marks (worse m x)
    ∙ worse-assoc m x (fold worse Good marks)
    ∙ ap (worse m) (sym (fold-worse marks x))

pub nothing-worst : (lanes : ℕ) (cell : ℕ → ℕ → LaneCell) → IsWorst lanes 0 cell Good
nothing-worst lanes cell = record {
  each = λ lane j in_lanes in_lane. absurd (omega arith);
  least =
      λ b every. omega arith;
}
