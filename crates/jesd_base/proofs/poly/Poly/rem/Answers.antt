use Rattle.std.proofs.Common.{◌≡◌, ◌<◌, ◌≤◌, ◌^◌, ◌+◌, ◌*◌, ◌/◌, ◌%◌, ◌∙◌, ◌⊎◌, ℕ, Bool, false, List, ◌∷◌, [], ◌++◌, length, take, get_or, sym, ap, arith, inl, inr}
use Rattle.std.proofs.Math.Pow.{pow_mono, pow_pos}
use Rattle.std.proofs.Math.Nat.{div-eq_of_lt-le}
use Rattle.std.proofs.lemmas.Nat.{pow-add}
use Rattle.std.proofs.lemmas.Bool.{cases_lt}
use Rattle.std.proofs.lemmas.List.{take_more, take_all}
use Rattle.std.specs.Prelude.{bit_xor}
use Rattle.jesd_base.specs.Bits.{bit, bits, value}
use Rattle.jesd_base.specs.Division.{rem}
use Rattle.jesd_base.proofs.BitLemmas.{bits_length}
use Rattle.jesd_base.proofs.DivisionLemmas.{register_takes, rem-below, rem-short, bit-byte, bit-lt}
use Rattle.jesd_base.proofs.poly.Poly.rem.Goals as goal
use Rattle.jesd_base.proofs.poly.Poly.rem.Goals.{then-register-degree-eq1, else-register-degree-eq1}

-- the power of 2 from a number on down is one
one_degree : (d m n : ℕ) → 2 ^ m ≤ d → d < 2 * 2 ^ m → 2 ^ n ≤ d → d < 2 ^ (n + 1) → m ≡ n
one_degree d m n a b x y = elim (cases_lt m n) [
  | inl below ↦
      let p : 2 ^ (m + 1) ≤ 2 ^ n = pow_mono (omega arith) in
      let q : 2 ^ (m + 1) ≡ 2 * 2 ^ m = pow-add 2 m 1 ∙ omega arith in
      absurd (omega arith)
  | inr up ↦ elim (cases_lt n m) [
    | inl below ↦ let p : 2 ^ (n + 1) ≤ 2 ^ m = pow_mono (omega arith) in absurd (omega arith)
    | inr down ↦ omega arith
  ]
]

pub loop-bit-init : goal.loop-bit-init
loop-bit-init c =
    let d = c.ilog2-degree.ensures in
    let l = bits_length c.ilog2-degree.result c.args.divisor in
    let is : 0 ≡ value (rem (bits c.ilog2-degree.result c.args.divisor) []) = sym (ap value (rem-short (bits c.ilog2-degree.result c.args.divisor) [] (omega arith))) in
    record {
      remainder = is;
      below = pow_pos c.ilog2-degree.result;
      fits = pow_mono {i = c.ilog2-degree.result} {j = 31} (omega arith);
    }

-- the register after one bit more
next : (n d i : ℕ) (xs : List Bool) (r s : ℕ) → 2 ≤ d → 2 ^ n ≤ d → d < 2 * 2 ^ n → i < length xs → r ≡ 2 * value (rem (bits n d) (take i xs)) + bit (get_or xs i false) → (((r / 2 ^ n ≡ 1) × (s ≡ bit_xor r d)) ⊎ ((r / 2 ^ n ≡ 1 → ⊥) × (s ≡ r))) → s ≡ value (rem (bits n d) (take (i + 1) xs))
next n d i xs r s some low high within is way =
    let m : take (i + 1) xs ≡ take i xs ++ get_or xs i false ∷ [] = take_more xs i false within in
    let pos : 0 < n = elim (cases_lt 0 n) [
      | inl above ↦ above
      | inr zero_degree ↦ let e : n ≡ 0 = omega arith in let h : d < 2 * 2 ^ 0 = rw e at high in absurd (omega arith)
    ] in
    let l = bits_length n d in
    let p = pow_pos n in
    let t = register_takes n d (take i xs) (get_or xs i false) r low high pos is in
    let b : value (rem (bits n d) (take i xs)) < 2 ^ n = rw l at (rem-below (bits n d) (take i xs)) in
    let one = bit-lt (get_or xs i false) in
    rw m (elim way [
      | inl up ↦
          let e : 2 ^ n * (r / 2 ^ n) + r % 2 ^ n ≡ r = omega arith in
          let f : 2 ^ n * 1 + r % 2 ^ n ≡ r = rw up.0 at e in
          up.1 ∙ t.sums (omega arith)
      | inr down ↦ elim (cases_lt r (2 ^ n)) [
        | inl below ↦ down.1 ∙ t.stays below
        | inr over ↦ absurd (down.0 (div-eq_of_lt-le {k = 1} (2 ^ n) (omega arith) (omega arith)))
      ]
    ])

pub loop-bit-preserved : goal.loop-bit-preserved
loop-bit-preserved c =
    let d = c.ilog2-degree.ensures in
    let n : ℕ = c.ilog2-degree.result in
    let r : ℕ = 2 * c.loop-bit.register + c.from.result in
    let byte : c.from.result ≡ bit (get_or c.args.dividend.now c.loop-bit.bit-index false) = c.from.ensures ∙ bit-byte _ in
    let is : r ≡ 2 * value (rem (bits n c.args.divisor) (take c.loop-bit.bit-index c.args.dividend.now)) + bit (get_or c.args.dividend.now c.loop-bit.bit-index false) =
    ap (λ v. 2 * v + c.from.result) c.loop-bit.invariant.remainder ∙ ap (λ v. 2 * value (rem (bits n c.args.divisor) (take c.loop-bit.bit-index c.args.dividend.now)) + v) byte in
    let here : c.if-register-degree-eq1.register ≡ value (rem (bits n c.args.divisor) (take (c.loop-bit.bit-index + 1) c.args.dividend.now)) =
    next n c.args.divisor c.loop-bit.bit-index c.args.dividend.now r c.if-register-degree-eq1.register c.requires d.power_le d.next_power_gt c.loop-bit-test.true is
    (elim c.if-register-degree-eq1.branch [
      | then-register-degree-eq1 w ↦ inl (w.if-register-degree-eq1.true, w.register-is ∙ ap (bit_xor r) w.from-register.ensures)
      | else-register-degree-eq1 w ↦ inr (w.if-register-degree-eq1.false, w.register-is)
    ]) in
    let b = rem-below (bits n c.args.divisor) (take (c.loop-bit.bit-index + 1) c.args.dividend.now) in
    let l = bits_length n c.args.divisor in
    record {
      remainder = here;
      below = rw here (rw l at b);
      fits = c.loop-bit.invariant.fits;
    }

pub returns : goal.returns
returns c = λ degree low high.
    let d = c.ilog2-degree.ensures in
    let same : c.ilog2-degree.result ≡ degree = one_degree c.args.divisor c.ilog2-degree.result degree d.power_le d.next_power_gt low high in
    let all : take c.loop-bit.bit-index c.args.dividend.now ≡ c.args.dividend.now = take_all _ _ c.loop-bit-test.false in
    rw (← same) (c.loop-bit.invariant.remainder ∙ ap (λ xs. value (rem (bits c.ilog2-degree.result c.args.divisor) xs)) all)
