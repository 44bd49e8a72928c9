-- A remainder divided by x, and carried to a place.
use Rattle.std.proofs.Common.{◌≡◌, ℕ, zero, suc, ◌+◌, ◌-◌, ◌*◌, ◌/◌, ◌%◌, ◌^◌, ◌<◌, refl, sym, ◌∙◌, ap, inl, inr, arith, bit_xor}
use Rattle.std.specs.Int.Bits.{xor_assoc, xor_self, xor_zero_r, xor_block}
use Rattle.std.proofs.lemmas.Nat.{xor_mod, xor_lt}
use Rattle.std.proofs.lemmas.Bool.{cases_lt, lt-ltb, le-ltb}
use Rattle.fire_fec.specs.kept.Shifting.{times_x, times_pow, over_x, over_pow}
use Rattle.fire_fec.proofs.Free.{times_pow_small, times_pow_add}

pub over_x_small : (r : ℕ) → r < 2 ^ 26 → over_x r < 2 ^ 26
unfolding over_x
over_x_small r lt = elim (cases_lt (r % 2) 1) [
  | inl even ↦ let e : r % 2 ≡ 0 = omega arith in rw e (omega arith)
  | inr odd ↦
      let e : r % 2 ≡ 1 = omega arith in
      let t : r ≡ 0 * 2 ^ 26 + r = omega arith in
      let v : bit_xor r 0x220211 < 2 ^ 26 = xor_lt 26 r 0x220211 lt (omega arith) in
      let x : bit_xor r 0x4220211 ≡ 2 ^ 26 + bit_xor r 0x220211 = ap (λ a. bit_xor a 0x4220211) t ∙ xor_block 26 0 1 r 0x220211 lt (omega arith) ∙ omega arith in
      rw (e, x) (omega arith)
]

pub times_over_x : (r : ℕ) → r < 2 ^ 26 → times_x (over_x r) ≡ r
unfolding over_x times_x
times_over_x r lt = elim (cases_lt (r % 2) 1) [
  | inl even ↦
      let e : r % 2 ≡ 0 = omega arith in
      let b = lt-ltb (r / 2) 0x2000000 (omega arith) in
      rw (e, b) (omega arith)
  | inr odd ↦
      let e : r % 2 ≡ 1 = omega arith in
      let t : r ≡ 0 * 2 ^ 26 + r = omega arith in
      let v : bit_xor r 0x220211 < 2 ^ 26 = xor_lt 26 r 0x220211 lt (omega arith) in
      let x : bit_xor r 0x4220211 ≡ 2 ^ 26 + bit_xor r 0x220211 = ap (λ a. bit_xor a 0x4220211) t ∙ xor_block 26 0 1 r 0x220211 lt (omega arith) ∙ omega arith in
      let m : bit_xor r 0x4220211 % 2 ≡ 0 = xor_mod r 0x4220211 1 ∙ rw e refl in
      let h : 2 * (bit_xor r 0x4220211 / 2) ≡ bit_xor r 0x4220211 = omega arith in
      let b = le-ltb (bit_xor r 0x4220211 / 2) 0x2000000 (omega arith) in
      let back : bit_xor (bit_xor r 0x4220211) 0x4220211 ≡ r = xor_assoc r 0x4220211 0x4220211 ∙ rw (xor_self 0x4220211) (xor_zero_r r) in
      rw (e, b, h) back
]

pub over_pow_small : (n r : ℕ) → r < 2 ^ 26 → over_pow n r < 2 ^ 26
unfolding over_pow
over_pow_small zero r lt = lt
over_pow_small (suc n) r lt = over_pow_small n (over_x r) (over_x_small r lt)

pub times_pow-next : (n r : ℕ) → times_pow n (times_x r) ≡ times_x (times_pow n r)
unfolding times_pow
times_pow-next zero r = refl
times_pow-next (suc n) r = times_pow-next n (times_x r)

pub times_over_pow : (n r : ℕ) → r < 2 ^ 26 → times_pow n (over_pow n r) ≡ r
unfolding times_pow over_pow
times_over_pow zero r lt = refl
times_over_pow (suc n) r lt =
    times_pow-next n (over_pow n (over_x r)) ∙ ap times_x (times_over_pow n (over_x r) (over_x_small r lt)) ∙ times_over_x r lt

-- the remainder, carried to a place
unfoldable pub carried : ℕ → ℕ → ℕ
carried r s = times_pow s (over_pow 2065 r)

pub carried-small : (r s : ℕ) → r < 2 ^ 26 → carried r s < 2 ^ 26
unfolding carried
carried-small r s lt = times_pow_small s _ (over_pow_small 2065 r lt)

pub carried-next : (r s : ℕ) → carried r (suc s) ≡ times_x (carried r s)
unfolding carried times_pow
carried-next r s = times_pow-next s (over_pow 2065 r)

pub carried-whole : (r s : ℕ) → r < 2 ^ 26 → s < 2074 → times_pow (2073 - s) (carried r s) ≡ times_pow 8 r
unfolding carried
carried-whole r s small lt =
    let e : (2073 - s) + s ≡ 8 + 2065 = omega arith in
    let start : ℕ = over_pow 2065 r in
    sym (times_pow_add (2073 - s) s start) ∙ ap (λ n. times_pow n start) e ∙ times_pow_add 8 2065 start ∙ ap (times_pow 8) (times_over_pow 2065 r small)
