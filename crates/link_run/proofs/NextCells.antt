-- The next cells of the lanes, taken one after another.
use Rattle.std.proofs.Common.{◌≡◌, ◌≢◌, ◌∙◌, ◌<◌, ◌≤◌, ◌+◌, ◌∷◌, ℕ, List, map, length, get_or, set, Some, None, inl, inr, arith, refl, sym, ap, subst, length-set}
use Rattle.std.proofs.lemmas.Bool.{cases_lt}
use Rattle.std.proofs.lemmas.List.{get_or-map, get_or-set_same, get_or-set_other, get_or_default}
use Rattle.link_params.specs.declared.cells.LaneCell.{LaneCell}
use Rattle.link_run.specs.kept.Waits.{AreNext, IsNext, Waits, first_of, next_of}

-- from the first n lanes the next cell was taken
pub record AreTaken (old now : List Waits) (n : ℕ) : Type 0 where
  pub count : length now ≡ length old
  pub taken : (k : ℕ) (w : Waits) → k < n → k < length old
      → IsNext (get_or old k w) (get_or now k w)
  pub stood : (k : ℕ) (w : Waits) → n ≤ k → k < length old → get_or now k w ≡ get_or old k w

pub taken-none : (waits : List Waits) → AreTaken waits waits 0
taken-none waits = record {
  count = refl;
  taken = λ k w low below. absurd (omega arith);
  stood = λ k w from below. refl;
}

-- a lane of which nothing was taken
pub taken-not : (old now : List Waits) (n : ℕ) (d w : Waits) → n < length old
    → AreTaken old now n → get_or now n d ≡ get_or old n w
taken-not old now n d w below h =
    let count = h.count in
    get_or_default now n d w (omega arith) ∙ h.stood n w (omega arith) below

pub taken-more : (old now : List Waits) (n : ℕ) (y d : Waits) → n < length old
    → IsNext (get_or now n d) y → AreTaken old now n → AreTaken old (set now n y) (n + 1)
taken-more old now n y d below is h =
    let count = h.count in
    let within : n < length now = omega arith in
    let here : (w : Waits) → IsNext (get_or old n w) (get_or (set now n y) n w) =
    λ w. subst (λ (b : Waits). IsNext (get_or old n w) b) (sym (get_or-set_same now n y w within))
    (subst (λ (a : Waits). IsNext a y) (taken-not old now n d w below h) is) in
    record {
      count = length-set now n y ∙ h.count;
      taken = λ k w low in_list. elim (cases_lt k n) [
        | inl before ↦ let apart : k ≢ n = λ same. omega arith in
            subst (λ (b : Waits). IsNext (get_or old k w) b)
            (sym (get_or-set_other now n k y w apart)) (h.taken k w before in_list)
        | inr after ↦
            let same : n ≡ k = omega arith in
            subst (λ (m : ℕ). IsNext (get_or old m w) (get_or (set now n y) m w)) same (here w)
      ];
      stood = λ k w from in_list. let apart : k ≢ n = λ same. omega arith in
          get_or-set_other now n k y w apart ∙ h.stood k w (omega arith) in_list;
    }

-- the cell that is taken from it is what it gives
pub taken-cell : (old now : List Waits) (n : ℕ) (d : Waits) (c : LaneCell) (rest : List LaneCell)
    → n < length old → (get_or now n d).cells ≡ c ∷ rest → AreTaken old now n
    → get_or (map next_of old) n None ≡ Some c
taken-cell old now n d c rest below first h =
    get_or-map next_of old n d None below
    ∙ ap next_of (sym (taken-not old now n d d below h)) ∙ ap first_of first

pub taken-all : (old now : List Waits) (n : ℕ) → AreTaken old now n → length old ≤ n
    → AreNext old now
taken-all old now n h all = record {
  count = h.count;
  each = λ lane w below. h.taken lane w (omega arith) below;
}
