-- A payload that differs from the one that was sent within nine consecutive bits is corrected by
-- the check of the one that was sent.
use Rattle.std.proofs.Common.{◌≡◌, ℕ, zero, suc, ◌+◌, ◌-◌, ◌^◌, ◌<◌, ◌≤◌, ◌⊎◌, Bool, true, false, List, [], ◌∷◌, ◌++◌, map, length, take, get_or, Some, inl, inr, refl, sym, ap, ap₂, ◌∙◌, length-append, arith}
use Rattle.std.proofs.lemmas.Bool.{cases_Bool, cases_lt}
use Rattle.std.proofs.lemmas.List.{drop_all, ext_get_or, get_or-map, get_or_append_left, length-map, length-take, take-append-le, take_all}
use Rattle.std.proofs.Math.Seq.{get_or-append_right}
use Rattle.jesd_base.specs.Bits.{add, all_zero, bits, value, zeros}
use Rattle.jesd_base.specs.Division.{add_bits, rem}
use Rattle.jesd_base.specs.Search.{IsLeast, first_from}
use Rattle.jesd_base.proofs.BitLemmas.{bits_length, bits_of_value, finds_least, finds_none, value_below, zeros_length}
use Rattle.link_params.specs.declared.fields.Mode.TheVariants.{CFec}
use Rattle.link_params.specs.declared.cells.Mark.TheVariants as mark
use Rattle.scenario.specs.Plans.{numbers_from}
use Rattle.link_model.proofs.NumberLists.{get_or-numbers, length-numbers}
use Rattle.fire_fec.specs.Burst.{burst, burst_added, fire, fits, parity}
use Rattle.fire_fec.proofs.Trapping.{one_burst_is_found}
use Rattle.lane_c.specs.Sent.{check}
use Rattle.lane_c.specs.Statuses.{Checked, by_burst, checked}
use Rattle.link_laws_c.proofs.ReceivedChecks.{fec-whole, parity-length}
use Rattle.link_laws_c.proofs.SentTicks.{cases_some}

-- bit i of two lists differs
abbrev pub differs : List Bool → List Bool → ℕ → Bool
differs v w i = add (get_or v i false) (get_or w i false)

add-none : (x : Bool) → add x false ≡ x
add-none true = refl
add-none false = refl

add-back : (x y : Bool) → x ≡ add y (add x y)
add-back true true = refl
add-back true false = refl
add-back false true = refl
add-back false false = refl

same-of : (x y : Bool) → add x y ≡ false → x ≡ y
same-of true true e = refl
same-of false false e = refl
same-of true false e = let bad : true ≡ false = e in cc
same-of false true e = let bad : true ≡ false = e in cc

-- what is added to a word, bit by bit
added-get : (v b : List Bool) (i : ℕ) → i < length v
    → get_or (take (length v) (add_bits v b)) i false ≡ add (get_or v i false) (get_or b i false)
added-get [] b i inside = absurd (omega arith)
added-get (x ∷ xs) [] zero inside = sym (add-none x)
added-get (x ∷ xs) [] (suc i) inside = ap (λ (l : List Bool). get_or l i false)
    (take_all (length xs) xs (omega arith)) ∙ sym (add-none (get_or xs i false))
added-get (x ∷ xs) (y ∷ ys) zero inside = refl
added-get (x ∷ xs) (y ∷ ys) (suc i) inside = added-get xs ys i (omega arith)

added-size : (v b : List Bool) → length v ≤ length (add_bits v b)
added-size [] b = omega arith
added-size (x ∷ xs) [] = omega arith
added-size (x ∷ xs) (y ∷ ys) = let r = added-size xs ys in omega arith

zeros-get : (n i : ℕ) → get_or (zeros n) i false ≡ false
unfolding zeros
zeros-get zero i = refl
zeros-get (suc n) zero = refl
zeros-get (suc n) (suc i) = zeros-get n i

past : (l : List Bool) (i : ℕ) → length l ≤ i → get_or l i false ≡ false
past [] i up = refl
past (x ∷ l) zero up = absurd (omega arith)
past (x ∷ l) (suc i) up = past l i (omega arith)

top-bit : (b : Bool) (rest : List Bool) → b ≡ true → length rest ≡ 8 → 256 ≤ value (b ∷ rest)
top-bit true rest is long = let p : 2 ^ length rest ≡ 256 = ap (λ (n : ℕ). 2 ^ n) long in
    omega arith
top-bit false rest is long = let bad : false ≡ true = is in absurd (cc)

-- the burst between what was sent and what was received
pub record IsBurstOf (r w c : List Bool) : Type 0 where
  pub start : ℕ
  pub mask : ℕ
  pub inside : start < 2048
  pub low : 256 ≤ mask
  pub high : mask < 512
  pub is : r ++ c ≡ burst_added (w ++ c) start mask

pub burst-between : (r w c : List Bool) → length r ≡ 2048 → length w ≡ 2048 → length c ≡ 26
    → ((i j : ℕ) → differs r w i ≡ true → differs r w j ≡ true → i ≤ j + 8)
    → (r ≡ w) ⊎ IsBurstOf r w c
unfolding burst_added numbers_from
burst-between r w c lr lw lc near = elim (cases_some (first_from (differs r w) 2048 0)) [
  | inr none ↦ inl (ext_get_or false r w (omega arith) (λ i inside.
      same-of (get_or r i false) (get_or w i false)
      ((finds_none (differs r w) 2048 0).0 none i (omega arith) (omega arith))))
  | inl f ↦
      let st : ℕ = f.0 in
      let found = (finds_least (differs r w) 2048 0 st).0 f.1 in
      let least : IsLeast (differs r w) 0 st = found.0 in
      let inside_word = found.1 in
      let d : ℕ → Bool = λ j. differs r w (st + j) in
      let rest : List Bool = map d (numbers_from 1 8) in
      let rest_long : length rest ≡ 8 = length-map (numbers_from 1 8) d ∙ length-numbers 8 1 in
      let mb : List Bool = d 0 ∷ rest in
      let nine : length mb ≡ 9 = omega arith in
      let m : ℕ = value mb in
      let z : st + 0 ≡ st = omega arith in
      let first : d 0 ≡ true = ap (differs r w) z ∙ least.passes in
      let back : bits 9 m ≡ mb = ap (λ (n : ℕ). bits n m) (sym nine) ∙ bits_of_value mb in
      let below = value_below mb in
      let high : m < 512 =
      (let p : 2 ^ length mb ≡ 512 = ap (λ (n : ℕ). 2 ^ n) nine in omega arith) in
      let at : (j : ℕ) → j < 9 → get_or mb j false ≡ d j = λ j under. mb_at d j under in
      let v : List Bool = w ++ c in
      let lv : length v ≡ 2074 = length-append w c ∙ omega arith in
      let lrc : length (r ++ c) ≡ 2074 = length-append r c ∙ omega arith in
      let b : List Bool = zeros st ++ mb in
      let zl = zeros_length st in
      let placed : (i : ℕ) → get_or b i false ≡ differs r w i = λ i. elim (cases_lt i st) [
        | inl before ↦ get_or_append_left (zeros st) mb false i (omega arith) ∙ zeros-get st i
            ∙ sym (least.least i (omega arith) before)
        | inr after ↦
            let number : i - length (zeros st) ≡ i - st = omega arith in
            get_or-append_right (zeros st) mb i false (omega arith)
            ∙ ap (λ (n : ℕ). get_or mb n false) number ∙ elim (cases_lt (i - st) 9) [
              | inl under ↦ at (i - st) under
                  ∙ ap (differs r w) (let y : st + (i - st) ≡ i = omega arith in y)
              | inr beyond ↦ past mb (i - st) (omega arith)
                  ∙ sym (elim (cases_Bool (differs r w i)) [
                    | inr same ↦ same
                    | inl other ↦ let far = near i st other least.passes in absurd (omega arith)
                  ])
            ]
      ] in
      let grown = added-size v b in
      let size : length (take (length v) (add_bits v b)) ≡ 2074 =
      length-take (length v) (add_bits v b) ∙ omega arith in
      inr (record {
        start = st;
        mask = m;
        inside = omega arith;
        low = top-bit (d 0) rest first rest_long;
        high = high;
        is = ext_get_or false (r ++ c) (take (length v) (add_bits v b)) (omega arith) (λ i under.
            sym (added-get v b i (omega arith) ∙ ap (add (get_or v i false)) (placed i)
            ∙ sym (elim (cases_lt i 2048) [
              | inl front ↦ get_or_append_left r c false i (omega arith)
                  ∙ add-back (get_or r i false) (get_or w i false)
                  ∙ ap (λ (x : Bool). add x (differs r w i))
                  (sym (get_or_append_left w c false i (omega arith)))
              | inr behind ↦
                  let n : i - length r ≡ i - length w = omega arith in
                  get_or-append_right r c i false (omega arith) ∙ ap (λ (k : ℕ). get_or c k false) n
                  ∙ sym (add-none (get_or c (i - length w) false))
                  ∙ ap₂ add (sym (get_or-append_right w c i false (omega arith)))
                  (sym (ap₂ add (past r i (omega arith)) (past w i (omega arith))))
            ])))
            ∙ ap (λ (x : List Bool). take (length v) (add_bits v (zeros st ++ x))) (sym back);
      })
]
  where
    mb_at : (d : ℕ → Bool) (j : ℕ) → j < 9 → get_or (d 0 ∷ map d (numbers_from 1 8)) j false ≡ d j
    mb_at d zero under = refl
    mb_at d (suc j) under =
        let long = length-numbers 8 1 in
        get_or-map d (numbers_from 1 8) j 0 false (omega arith)
        ∙ ap d (get_or-numbers 8 j 1 0 (omega arith) ∙ omega arith)

-- it is taken out
pub burst-fixed : (r w : List Bool) → length r ≡ 2048 → length w ≡ 2048 → IsBurstOf r w (parity w)
    → checked CFec r (check CFec w) ≡ record { mark = mark.Fixed; payload = w }
unfolding checked fits all_zero
burst-fixed r w lr lw k =
    let c : List Bool = parity w in
    let lc = parity-length w in
    let v : List Bool = w ++ c in
    let lv : length v ≡ 2074 = length-append w c ∙ omega arith in
    let inside = k.inside in
    let nine = bits_length 9 k.mask in
    let fit : fits 2074 k.start k.mask ≡ true =
    ap all_zero (drop_all (2074 - k.start) (bits 9 k.mask) (omega arith)) in
    let found = one_burst_is_found v k.start k.mask lv (omega arith) k.low k.high fit
    (fec-whole w (omega arith)) in
    let some : all_zero (rem fire (r ++ c)) ≡ false =
    ap (λ (l : List Bool). all_zero (rem fire l)) k.is ∙ found.0 in
    let is : burst (r ++ c) ≡ Some (record { start = k.start; mask = k.mask }) = ap burst k.is
    ∙ found.1 in
    let back : take (length r) (burst_added (r ++ c) k.start k.mask) ≡ w =
    ap (λ (l : List Bool). take (length r) (burst_added l k.start k.mask)) k.is
    ∙ ap (take (length r)) found.2
    ∙ take-append-le (length r) w c (omega arith) ∙ take_all (length r) w (omega arith) in
    ap (λ (b : Bool). elim b as (λ b. Checked) [
      | true ↦ record { mark = mark.Ok; payload = r }
      | false ↦ by_burst r c (burst (r ++ c))
    ]) some
    ∙ ap (by_burst r c) is
    ∙ ap (λ (x : List Bool). let y : Checked = record { mark = mark.Fixed; payload = x } in y) back
