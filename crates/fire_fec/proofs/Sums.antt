-- Sums of remainders times powers of x.
use Rattle.std.proofs.Common.{◌≡◌, ℕ, zero, suc, ◌+◌, ◌-◌, ◌*◌, ◌^◌, ◌<◌, ◌≤◌, refl, sym, ◌∙◌, ap, ap₂, zero-add, arith, inl, inr, bit_xor}
use Rattle.std.specs.Int.Bits.{xor_assoc, xor_self, xor_zero_r, xor_block}
use Rattle.std.proofs.lemmas.Nat.{xor_comm, xor_lt}
use Rattle.std.proofs.lemmas.Bool.{cases_lt, lt-ltb, le-ltb}
use Rattle.fire_fec.specs.kept.Shifting.{times_x, times_pow}
use Rattle.fire_fec.proofs.Free.{times_x_small}

twice : (a b : ℕ) → 2 * bit_xor a b ≡ bit_xor (2 * a) (2 * b)
twice a b =
    let x = xor_block 1 a b 0 0 (omega arith) (omega arith) in
    let p : a * 2 ^ 1 + 0 ≡ 2 * a = omega arith in
    let q : b * 2 ^ 1 + 0 ≡ 2 * b = omega arith in
    let r : bit_xor a b * 2 ^ 1 + bit_xor 0 0 ≡ 2 * bit_xor a b = omega arith in
    sym r ∙ sym x ∙ ap₂ bit_xor p q

low : (a : ℕ) → a < 0x2000000 → times_x a ≡ 2 * a
unfolding times_x
low a lt = rw (lt-ltb a 0x2000000 lt) refl

high : (a : ℕ) → 0x2000000 ≤ a → times_x a ≡ bit_xor (2 * a) 0x4220211
unfolding times_x
high a le = rw (le-ltb a 0x2000000 le) refl

-- the highest of 26 bits of a sum
sum_of_blocks : (x y a b : ℕ) → a < 2 ^ 25 → b < 2 ^ 25 → bit_xor (x * 2 ^ 25 + a) (y * 2 ^ 25 + b) ≡ bit_xor x y * 2 ^ 25 + bit_xor a b
sum_of_blocks x y a b la lb = xor_block 25 x y a b la lb

one_high : (a b : ℕ) → a < 2 ^ 26 → 0x2000000 ≤ a → b < 0x2000000 → times_x (bit_xor a b) ≡ bit_xor (times_x a) (times_x b)
one_high a b la ha lb =
    let c : ℕ = a - 0x2000000 in
    let e : a ≡ 1 * 2 ^ 25 + c = omega arith in
    let f : b ≡ 0 * 2 ^ 25 + b = omega arith in
    let s = xor_block 25 1 0 c b (omega arith) lb in
    let whole : bit_xor a b ≡ 0x2000000 + bit_xor c b = ap₂ bit_xor e f ∙ s in
    high (bit_xor a b) (omega arith)
    ∙ ap (λ v. bit_xor v 0x4220211) (twice a b)
    ∙ xor_assoc (2 * a) (2 * b) 0x4220211
    ∙ ap (bit_xor (2 * a)) (xor_comm (2 * b) 0x4220211)
    ∙ sym (xor_assoc (2 * a) 0x4220211 (2 * b))
    ∙ sym (ap₂ bit_xor (high a ha) (low b lb))

pub times_x_linear : (a b : ℕ) → a < 2 ^ 26 → b < 2 ^ 26 → times_x (bit_xor a b) ≡ bit_xor (times_x a) (times_x b)
times_x_linear a b la lb = elim (cases_lt a 0x2000000) [
  | inl al ↦ elim (cases_lt b 0x2000000) [
    | inl bl ↦
        let s = xor_lt 25 a b al bl in
        low (bit_xor a b) s ∙ twice a b ∙ sym (ap₂ bit_xor (low a al) (low b bl))
    | inr bh ↦ ap times_x (xor_comm a b) ∙ one_high b a lb bh al ∙ xor_comm (times_x b) (times_x a)
  ]
  | inr ah ↦ elim (cases_lt b 0x2000000) [
    | inl bl ↦ one_high a b la ah bl
    | inr bh ↦
        let c : ℕ = a - 0x2000000 in
        let d : ℕ = b - 0x2000000 in
        let e : a ≡ 1 * 2 ^ 25 + c = omega arith in
        let f : b ≡ 1 * 2 ^ 25 + d = omega arith in
        let s = xor_block 25 1 1 c d (omega arith) (omega arith) in
        let whole : bit_xor a b ≡ bit_xor c d = ap₂ bit_xor e f ∙ s ∙ zero-add _ in
        let small = xor_lt 25 c d (omega arith) (omega arith) in
        let A : ℕ = 2 * a in
        let B : ℕ = 2 * b in
        let swap : bit_xor (bit_xor A 0x4220211) (bit_xor B 0x4220211) ≡ bit_xor A B =
        ap (bit_xor (bit_xor A 0x4220211)) (xor_comm B 0x4220211)
        ∙ sym (xor_assoc (bit_xor A 0x4220211) 0x4220211 B)
        ∙ ap (λ v. bit_xor v B) (xor_assoc A 0x4220211 0x4220211 ∙ ap (bit_xor A) (xor_self 0x4220211) ∙ xor_zero_r A) in
        low (bit_xor a b) (omega arith) ∙ twice a b ∙ sym (ap₂ bit_xor (high a ah) (high b bh) ∙ swap)
  ]
]

pub times_pow_linear : (n a b : ℕ) → a < 2 ^ 26 → b < 2 ^ 26 → times_pow n (bit_xor a b) ≡ bit_xor (times_pow n a) (times_pow n b)
unfolding times_pow
times_pow_linear zero a b la lb = refl
times_pow_linear (suc n) a b la lb = ap (times_pow n) (times_x_linear a b la lb) ∙ times_pow_linear n (times_x a) (times_x b) (times_x_small a la) (times_x_small b lb)
