-- The cells among the entries of a session: none for the places of the alignment sequence, then
-- data.
use Rattle.std.proofs.Common.{◌≡◌, ℕ, zero, suc, ◌+◌, ◌-◌, ◌<◌, ◌≤◌, ◌⊎◌, List, [], ◌∷◌, ◌++◌, map, replicate, length, take, get_or, Some, None, inl, inr, refl, sym, ap, ap₂, ◌∙◌, length-append, arith}
use Rattle.std.proofs.Math.Seq.{take-nil}
use Rattle.std.proofs.lemmas.List.{length-map, length-replicate}
use Rattle.link_params.specs.declared.fields.Params.{Params}
use Rattle.link_params.specs.declared.cells.LaneCell.{LaneCell}
use Rattle.link_params.specs.Lanes.{Entry, Placed, Held}
use Rattle.lane_b.specs.kept.Gives.{given}
use Rattle.link_model.proofs.KindFacts.{AreEntries, lead}
use Rattle.link_model.specs.kept.Before.{no_cell}
use Rattle.link_model.specs.Gives.{cells_in}

abbrev shape : ℕ → List LaneCell → List Entry
shape k cs = replicate k Placed ++ map Held cs

cells-held : (cs : List LaneCell) → cells_in (map Held cs) ≡ cs
unfolding cells_in
cells-held [] = refl
cells-held (c ∷ cs) = ap (λ l. c ∷ l) (cells-held cs)

cells-taken : (cs : List LaneCell) (n : ℕ) → cells_in (take n (map Held cs)) ≡ take n cs
unfolding cells_in
cells-taken [] zero = refl
cells-taken [] (suc n) = refl
cells-taken (c ∷ cs) zero = refl
cells-taken (c ∷ cs) (suc n) = ap (λ l. c ∷ l) (cells-taken cs n)

cells-all : (k : ℕ) (cs : List LaneCell) → cells_in (shape k cs) ≡ cs
unfolding cells_in
cells-all zero cs = cells-held cs
cells-all (suc k) cs = cells-all k cs

cells-first : (k : ℕ) (cs : List LaneCell) (n : ℕ)
    → cells_in (take n (shape k cs)) ≡ take (n - k) cs
unfolding cells_in
cells-first zero cs n = let e : n ≡ n - 0 = omega arith in cells-taken cs n ∙ ap (λ m. take m cs) e
cells-first (suc k) cs zero = let e : 0 ≡ 0 - suc k = omega arith in ap (λ m. take m cs) e
cells-first (suc k) cs (suc n) = let e : n - k ≡ suc n - suc k = omega arith in cells-first k cs n
    ∙ ap (λ m. take m cs) e

given-held : (cs : List LaneCell) (n : ℕ) → n < length cs
    → given (get_or (map Held cs) n Placed) ≡ Some (get_or cs n no_cell)
given-held [] n below = absurd (omega arith)
given-held (c ∷ cs) zero below = refl
given-held (c ∷ cs) (suc n) below = given-held cs n (omega arith)

given-late : (k : ℕ) (cs : List LaneCell) (n : ℕ) → k ≤ n → n < k + length cs
    → given (get_or (shape k cs) n Placed) ≡ Some (get_or cs (n - k) no_cell)
given-late zero cs n low high = let e : n ≡ n - 0 = omega arith in given-held cs n (omega arith)
    ∙ ap (λ m. Some (get_or cs m no_cell)) e
given-late (suc k) cs zero low high = absurd (omega arith)
given-late (suc k) cs (suc n) low high =
    let e : n - k ≡ suc n - suc k = omega arith in
    given-late k cs n (omega arith) (omega arith) ∙ ap (λ m. Some (get_or cs m no_cell)) e

given-early : (k : ℕ) (cs : List LaneCell) (n : ℕ) → n < k
    → given (get_or (shape k cs) n Placed) ≡ None
given-early zero cs n below = absurd (omega arith)
given-early (suc k) cs zero below = refl
given-early (suc k) cs (suc n) below = given-early k cs n (omega arith)

given-no-data : (k n : ℕ) → given (get_or (shape k []) n Placed) ≡ None
given-no-data zero n = refl
given-no-data (suc k) zero = refl
given-no-data (suc k) (suc n) = given-no-data k n

-- what entries hold, of which up to m belong to the alignment sequence
pub record HasCells (m : ℕ) (entries : List Entry) : Type 0 where
  pub cells : (n : ℕ) → cells_in (take n entries) ≡ take (n - m) (cells_in entries)
  pub many : length entries ≤ m + length (cells_in entries)
  pub none : (n : ℕ) → n < m → given (get_or entries n Placed) ≡ None
  pub some : (n : ℕ) → m ≤ n → n < length entries
      → given (get_or entries n Placed) ≡ Some (get_or (cells_in entries) (n - m) no_cell)

cells-of-shape : (m k : ℕ) (cs : List LaneCell) → k ≤ m → (cs ≡ []) ⊎ (k ≡ m)
    → HasCells m (shape k cs)
cells-of-shape m k cs few whole =
    let all = cells-all k cs in
    let held = ap length all in
    let long = length-append (replicate k Placed) (map Held cs) in
    let first = length-replicate k Placed in
    let second = length-map cs Held in
    elim whole [
      | inl empty ↦
          let none = ap length empty in
          record {
            cells = λ n.
                cells-first k cs n ∙ ap (take (n - k)) empty ∙ take-nil (n - k)
                ∙ sym (take-nil (n - m)) ∙ ap (take (n - m)) (sym (all ∙ empty));
            many = omega arith;
            none = λ n below. ap (λ (l : List LaneCell). given (get_or (shape k l) n Placed)) empty
                ∙ given-no-data k n;
            some = λ n low high. absurd (omega arith);
          }
      | inr full ↦ record {
        cells = λ n. cells-first k cs n ∙ ap₂ (λ (x : ℕ) (l : List LaneCell). take (n - x) l) full
            (sym all);
        many = omega arith;
        none = λ n below. given-early k cs n (omega arith);
        some = λ n low high. given-late k cs n (omega arith) (omega arith)
            ∙ ap₂ (λ (x : ℕ) (l : List LaneCell). Some (get_or l (n - x) no_cell)) full (sym all);
      }
    ]

pub cells-of-entries : (p : Params) (entries : List Entry) → AreEntries p entries
    → HasCells (lead p) entries
cells-of-entries p entries a = rw a.are (cells-of-shape (lead p) a.placed a.cells a.few a.whole)
