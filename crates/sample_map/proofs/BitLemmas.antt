-- One bit of numbers that are shifted, cut and put together.
use Rattle.std.proofs.Common.{◌≡◌, ℕ, ◌+◌, ◌-◌, ◌*◌, ◌/◌, ◌%◌, ◌^◌, ◌<◌, ◌≤◌, ◌∙◌, sym, ap, inl, inr, arith}
use Rattle.std.proofs.Math.Nat.{div-div-eq-div-mul, mul-le-mul_right, mod-eq_of_lt}
use Rattle.std.proofs.Math.Pow.{pow_pos, pow_mono, pow-lt}
use Rattle.std.proofs.lemmas.Bool.{cases_lt}
use Rattle.std.proofs.lemmas.Nat.{pow-add}
use Rattle.std.proofs.lemmas.Nat.Bits.{bit_at_cat_low, bit_at_cat_high, bit_at-zero}
use Rattle.std.specs.Int.{bit_at}

pub bit_at-shifted : (n s i : ℕ) → bit_at (n / 2 ^ s) i ≡ bit_at n (s + i)
bit_at-shifted n s i =
    ap (λ v. v % 2) (div-div-eq-div-mul n (2 ^ s) (2 ^ i) ∙ ap (λ d. n / d) (sym (pow-add 2 s i)))

pub bit_at-cut : (n k i : ℕ) → i < k → bit_at (n % 2 ^ k) i ≡ bit_at n i
bit_at-cut n k i lt =
    let p = pow_pos k in
    let whole : n ≡ (n / 2 ^ k) * 2 ^ k + n % 2 ^ k = omega arith in
    sym (ap (λ v. bit_at v i) whole ∙ bit_at_cat_low (n / 2 ^ k) k (n % 2 ^ k) i lt)

-- bit i of k bits that are cut out above the low s
pub bit_at-part : (n s k i : ℕ) → i < k → bit_at (n / 2 ^ s % 2 ^ k) i ≡ bit_at n (s + i)
bit_at-part n s k i lt = bit_at-cut (n / 2 ^ s) k i lt ∙ bit_at-shifted n s i

-- bits with k more behind them
pub bits_behind : (n h k w : ℕ) (bit : ℕ → ℕ) → w < 2 ^ k
    → ((j : ℕ) → j < h → bit_at n (h - 1 - j) ≡ bit j)
    → ((j : ℕ) → j < k → bit_at w (k - 1 - j) ≡ bit (h + j))
    → (j : ℕ) → j < h + k → bit_at (n * 2 ^ k + w) (h + k - 1 - j) ≡ bit j
bits_behind n h k w bit small before behind j lt = elim (cases_lt j h) [
  | inl low ↦
      let e : h + k - 1 - j - k ≡ h - 1 - j = omega arith in
      bit_at_cat_high n k w (h + k - 1 - j) small (omega arith) ∙ ap (bit_at n) e ∙ before j low
  | inr high ↦
      let e : h + k - 1 - j ≡ k - 1 - (j - h) = omega arith in
      let back : h + (j - h) ≡ j = omega arith in
      bit_at_cat_low n k w (h + k - 1 - j) (omega arith) ∙ ap (bit_at w) e ∙ behind (j - h) (omega arith) ∙ ap bit back
]

pub behind-lt : (n h k w : ℕ) → n < 2 ^ h → w < 2 ^ k → n * 2 ^ k + w < 2 ^ (h + k)
behind-lt n h k w a b =
    let p = pow-add 2 h k in
    let m : (n + 1) * 2 ^ k ≤ 2 ^ h * 2 ^ k = mul-le-mul_right (2 ^ k) (let q : n + 1 ≤ 2 ^ h = omega arith in q) in
    rw p (omega arith)

-- a number moved up by t bits
pub bit_at-up_low : (v t i : ℕ) → i < t → bit_at (v * 2 ^ t) i ≡ 0
bit_at-up_low v t i lt =
    let e : v * 2 ^ t ≡ v * 2 ^ t + 0 = omega arith in
    ap (λ n. bit_at n i) e ∙ bit_at_cat_low v t 0 i lt ∙ bit_at-zero i

pub bit_at-up_high : (v t i : ℕ) → t ≤ i → bit_at (v * 2 ^ t) i ≡ bit_at v (i - t)
bit_at-up_high v t i le =
    let e : v * 2 ^ t ≡ v * 2 ^ t + 0 = omega arith in
    let p = pow_pos t in
    ap (λ n. bit_at n i) e ∙ bit_at_cat_high v t 0 i p le

-- a number of k bits is not changed by a cut at more bits
pub cut-same : (v k n : ℕ) → v < 2 ^ k → k ≤ n → v % 2 ^ n ≡ v
cut-same v k n small le = let h : 2 ^ k ≤ 2 ^ n = pow_mono le in mod-eq_of_lt (let lt : v < 2 ^ n = omega arith in lt)

pub cut-lt : (v k : ℕ) → v % 2 ^ k < 2 ^ k
cut-lt v k = let p = pow_pos k in omega arith

-- a number moved up within n bits
pub up-same : (v h k n : ℕ) → v < 2 ^ h → h + k ≤ n → v * 2 ^ k % 2 ^ n ≡ v * 2 ^ k
up-same v h k n small le =
    let z : v * 2 ^ k + 0 < 2 ^ (h + k) = behind-lt v h k 0 small (pow_pos k) in
    cut-same (v * 2 ^ k) (h + k) n (let lt : v * 2 ^ k < 2 ^ (h + k) = omega arith in lt) le

pub one_up-same : (k n : ℕ) → k < n → 1 * 2 ^ k % 2 ^ n ≡ 2 ^ k
one_up-same k n lt =
    let e : 1 * 2 ^ k ≡ 2 ^ k = omega arith in
    ap (λ v. v % 2 ^ n) e ∙ mod-eq_of_lt (pow-lt lt)
