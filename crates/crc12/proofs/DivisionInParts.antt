-- The check after one more payload, and that of one more byte.
use Rattle.std.proofs.Common.{◌≡◌, ℕ, zero, suc, ◌+◌, ◌*◌, ◌/◌, ◌^◌, ◌<◌, Bool, true, false, List, [], ◌∷◌, ◌++◌, length, refl, sym, ap, ap₂, ◌∙◌, append_assoc, length-append, arith, lit<, bit_xor}
use Rattle.std.proofs.lemmas.Nat.{xor_comm}
use Rattle.jesd_base.specs.Bits.{add, bits, value, zeros}
use Rattle.jesd_base.specs.laws.BitLaws.{BitsLength, ValueOfBits, BitsOfValue, ValueBelow, ValueOfAppend, BitsOfParts}
use Rattle.jesd_base.specs.Division.{add_bits, rem}
use Rattle.jesd_base.specs.laws.DivisionLaws.{SumIsXor, RemainderIsLinear, RemainderLength, ZerosInFront, RemainderGoesOn}
use Rattle.crc12.specs.Crc.{divisor, crc}

length-divisor : length divisor ≡ 12
unfolding bits divisor
length-divisor = refl

length-zeros : (n : ℕ) → length (zeros n) ≡ n
unfolding zeros
length-zeros zero = refl
length-zeros (suc n) = ap suc (length-zeros n)

zeros-append : (m n : ℕ) → zeros m ++ zeros n ≡ zeros (m + n)
unfolding zeros
zeros-append zero n = let e : 0 + n ≡ n = omega arith in ap zeros (sym e)
zeros-append (suc m) n =
    let e : suc m + n ≡ suc (m + n) = omega arith in
    ap {B = List Bool} (λ r. false ∷ r) (zeros-append m n) ∙ ap zeros (sym e)

add-false : (x : Bool) → add x false ≡ x
add-false true = refl
add-false false = refl

add_bits-zeros : (n : ℕ) (xs : List Bool) → length xs ≡ n → add_bits xs (zeros n) ≡ xs
unfolding zeros
add_bits-zeros zero [] e = refl
add_bits-zeros zero (x ∷ xs) e = absurd (omega arith)
add_bits-zeros (suc n) [] e = absurd (omega arith)
add_bits-zeros (suc n) (x ∷ xs) e = ap₂ {C = List Bool} (λ b r. b ∷ r) (add-false x) (add_bits-zeros n xs (omega arith))

zeros-add_bits : (n : ℕ) (xs : List Bool) → length xs ≡ n → add_bits (zeros n) xs ≡ xs
unfolding zeros
zeros-add_bits zero xs e = refl
zeros-add_bits (suc n) [] e = absurd (omega arith)
zeros-add_bits (suc n) (x ∷ xs) e = ap {B = List Bool} (λ r. x ∷ r) (zeros-add_bits n xs (omega arith))

add_bits-parts : (xs ys us vs : List Bool) → length xs ≡ length ys → add_bits (xs ++ us) (ys ++ vs) ≡ add_bits xs ys ++ add_bits us vs
add_bits-parts [] [] us vs e = refl
add_bits-parts [] (y ∷ ys) us vs e = absurd (omega arith)
add_bits-parts (x ∷ xs) [] us vs e = absurd (omega arith)
add_bits-parts (x ∷ xs) (y ∷ ys) us vs e = ap {B = List Bool} (λ r. add x y ∷ r) (add_bits-parts xs ys us vs (omega arith))

length-add_bits : (xs ys : List Bool) → length xs ≡ length ys → length (add_bits xs ys) ≡ length ys
length-add_bits [] ys e = refl
length-add_bits (x ∷ xs) [] e = e
length-add_bits (x ∷ xs) (y ∷ ys) e = ap suc (length-add_bits xs ys (omega arith))

-- two parts are the sum of the first with zeros behind and the second with zeros before
parts-sum : (xs ys : List Bool) (m n : ℕ) → length xs ≡ m → length ys ≡ n → xs ++ ys ≡ add_bits (xs ++ zeros n) (zeros m ++ ys)
parts-sum xs ys m n lx ly =
    let same : length xs ≡ length (zeros m) = lx ∙ sym (length-zeros m) in
    sym (add_bits-parts xs (zeros m) (zeros n) ys same ∙ ap₂ {C = List Bool} (λ p q. p ++ q) (add_bits-zeros m xs lx) (zeros-add_bits n ys ly))

module _ (linear : RemainderIsLinear) (remainder_length : RemainderLength) (front : ZerosInFront) (goes_on : RemainderGoesOn) where
  length-crc : (xs : List Bool) → length (crc xs) ≡ 12
  length-crc xs =
      let d = length-divisor in
      let l = length-append xs (zeros 12) in
      let z = length-zeros 12 in
      remainder_length divisor (xs ++ zeros 12) (omega arith) ∙ d

  -- the remainder of two parts is the sum of theirs
  rem-parts : (xs ys : List Bool) (n : ℕ) → length ys ≡ n → 12 < n → rem divisor (xs ++ ys) ≡ add_bits (rem divisor (xs ++ zeros n)) (rem divisor ys)
  rem-parts xs ys n ly more =
      let d = length-divisor in
      let m : ℕ = length xs in
      let p = length-append xs (zeros n) in
      let q = length-append (zeros m) ys in
      let zm = length-zeros m in
      let zn = length-zeros n in
      ap (rem divisor) (parts-sum xs ys m n refl ly)
      ∙ linear divisor (xs ++ zeros n) (zeros m ++ ys) (omega arith) (omega arith)
      ∙ ap (add_bits (rem divisor (xs ++ zeros n))) (front divisor ys m (omega arith))

  crc-sum : (xs ys : List Bool) → length xs ≡ length ys → 0 < length ys → crc (add_bits xs ys) ≡ add_bits (crc xs) (crc ys)
  crc-sum xs ys e some =
      let d = length-divisor in
      let z = length-zeros 12 in
      let p = length-append xs (zeros 12) in
      let q = length-append ys (zeros 12) in
      let both : add_bits (xs ++ zeros 12) (ys ++ zeros 12) ≡ add_bits xs ys ++ zeros 12 =
      add_bits-parts xs ys (zeros 12) (zeros 12) e ∙ ap (λ r. add_bits xs ys ++ r) (add_bits-zeros 12 (zeros 12) z) in
      ap (rem divisor) (sym both) ∙ linear divisor (xs ++ zeros 12) (ys ++ zeros 12) (omega arith) (omega arith)

  -- the check of two parts is the sum of that of the first with zeros behind it and that of the second
  crc-parts : (xs ys : List Bool) (n : ℕ) → length ys ≡ n → 0 < length xs → crc (xs ++ ys) ≡ add_bits (crc (xs ++ zeros n)) (crc ys)
  crc-parts xs ys n ly some =
      let d = length-divisor in
      let m : ℕ = length xs in
      let z = length-zeros 12 in
      let t = length-append ys (zeros 12) in
      let long : length (ys ++ zeros 12) ≡ n + 12 = omega arith in
      let p = length-append xs (zeros (n + 12)) in
      let q = length-append (zeros m) (ys ++ zeros 12) in
      let zm = length-zeros m in
      let zn = length-zeros (n + 12) in
      ap (rem divisor) (append_assoc xs ys (zeros 12) ∙ parts-sum xs (ys ++ zeros 12) m (n + 12) refl long)
      ∙ linear divisor (xs ++ zeros (n + 12)) (zeros m ++ (ys ++ zeros 12)) (omega arith) (omega arith)
      ∙ ap₂ {C = List Bool} add_bits
      (ap (rem divisor) (ap (λ r. xs ++ r) (sym (zeros-append n 12)) ∙ sym (append_assoc xs (zeros n) (zeros 12))))
      (front divisor (ys ++ zeros 12) m (omega arith))

  -- the check of bits and a payload more is that of the payload with the check of the bits added to its first ones
  crc-payload : (taken block : List Bool) → length block ≡ 64 → crc (taken ++ block) ≡ crc (add_bits (crc taken ++ zeros 52) block)
  crc-payload taken block lb =
      let d = length-divisor in
      let z = length-zeros 12 in
      let y = length-zeros 52 in
      let c = length-crc taken in
      let t = length-append taken (zeros 12) in
      let p = length-append block (zeros 12) in
      let whole = length-append (crc taken) (zeros 52) in
      let more : taken ++ zeros 76 ≡ (taken ++ zeros 12) ++ zeros 64 =
      ap (λ r. taken ++ r) (sym (zeros-append 12 64)) ∙ sym (append_assoc taken (zeros 12) (zeros 64)) in
      let behind : crc taken ++ zeros 64 ≡ (crc taken ++ zeros 52) ++ zeros 12 =
      ap (λ r. crc taken ++ r) (sym (zeros-append 52 12)) ∙ sym (append_assoc (crc taken) (zeros 52) (zeros 12)) in
      ap (rem divisor) (append_assoc taken block (zeros 12))
      ∙ rem-parts taken (block ++ zeros 12) 76 (omega arith) (lit< tt)
      ∙ ap (λ r. add_bits r (crc block)) (
      ap (rem divisor) more
      ∙ goes_on divisor (taken ++ zeros 12) (zeros 64) (omega arith)
      ∙ ap (rem divisor) behind)
      ∙ sym (crc-sum (crc taken ++ zeros 52) block (omega arith) (omega arith))

  module _ (bits_length : BitsLength) (of_bits : ValueOfBits) (of_value : BitsOfValue) (value_below : ValueBelow) (value_append : ValueOfAppend) (xor : SumIsXor) (parts : BitsOfParts) where
    value-zeros : (n : ℕ) → value (zeros n) ≡ 0
    unfolding zeros
    value-zeros zero = refl
    value-zeros (suc n) = let h = value-zeros n in omega arith

    pub value-crc-lt : (xs : List Bool) → value (crc xs) < 2 ^ 12
    value-crc-lt xs = rw (length-crc xs) at (value_below (crc xs))

    -- the same as numbers
    pub value-crc-payload : (taken : List Bool) (r payload : ℕ) → payload < 2 ^ 64 → r ≡ value (crc taken)
        → value (crc (taken ++ bits 64 payload)) ≡ value (crc (bits 64 (bit_xor payload (r * 2 ^ 52))))
    value-crc-payload taken r payload small is =
        let front : List Bool = crc taken ++ zeros 52 in
        let b : List Bool = bits 64 payload in
        let l = length-crc taken in
        let z = length-zeros 52 in
        let a = length-append (crc taken) (zeros 52) in
        let lf : length front ≡ 64 = omega arith in
        let lb : length b ≡ 64 = bits_length 64 payload in
        let vf : value front ≡ r * 2 ^ 52 = value_append (crc taken) (zeros 52)
        ∙ ap₂ (λ n k. value (crc taken) * 2 ^ n + k) z (value-zeros 52) ∙ omega arith in
        let vb : value b ≡ payload = of_bits 64 payload ∙ omega arith in
        let sum : List Bool = add_bits front b in
        let ls : length sum ≡ 64 = length-add_bits front b (lf ∙ sym lb) ∙ lb in
        let vs : value sum ≡ bit_xor payload (r * 2 ^ 52) =
        xor front b (lf ∙ sym lb) ∙ ap₂ bit_xor vf vb ∙ xor_comm (r * 2 ^ 52) payload in
        ap value (crc-payload taken b lb ∙ ap crc (sym (of_value sum) ∙ ap₂ bits ls vs))

    pub value-crc-more : (x n : ℕ)
        → value (crc (bits (8 + n) x)) ≡ bit_xor (value (crc (bits n x))) (value (crc (bits 8 (x / 2 ^ n) ++ zeros n)))
    value-crc-more x n =
        let high : List Bool = bits 8 (x / 2 ^ n) in
        let low : List Bool = bits n x in
        let lh : length high ≡ 8 = bits_length 8 (x / 2 ^ n) in
        let a = length-crc (high ++ zeros n) in
        let b = length-crc low in
        ap (λ r. value (crc r)) (parts 8 n x)
        ∙ ap value (crc-parts high low n (bits_length n x) (omega arith))
        ∙ xor (crc (high ++ zeros n)) (crc low) (a ∙ sym b)
        ∙ xor_comm (value (crc (high ++ zeros n))) (value (crc low))
