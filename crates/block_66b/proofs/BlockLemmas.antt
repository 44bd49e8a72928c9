-- Blocks and the bits of two ticks.
use Rattle.std.proofs.Common.{◌≡◌, ℕ, zero, suc, ◌+◌, ◌-◌, ◌*◌, ◌/◌, ◌%◌, ◌^◌, ◌<◌, ◌≤◌, ◌==◌, Bool, List, ◌∷◌, ◌++◌, length, take, drop, refl, sym, ap, ap₂, ◌∙◌, inl, inr, append_assoc, length-append, arith, bit_and, get_or}
use Rattle.std.specs.Prelude.{bit_or}
use Rattle.std.specs.Int.{bit_at}
use Rattle.std.proofs.Math.Nat.{mod-eq_of_lt, mul-le-mul_right, mul-mod_left}
use Rattle.std.proofs.Math.Pow.{mod-mod-pow}
use Rattle.std.proofs.lemmas.Bool.{cases_lt}
use Rattle.std.proofs.lemmas.List.{drop-append-le, drop-drop, drop_at, take_at}
use Rattle.std.proofs.lemmas.Nat.{and_mask, mod-pow-add, or_shifted, pow-add, pow_pos, shl-shr, shr-shr, shr_below}
use Rattle.jesd_base.specs.Bits.{bits, value, zeros}
use Rattle.jesd_base.specs.laws.BitLaws.{BitsLength, ValueOfBits, ValueOfAppend}
use Rattle.block_66b.specs.Blocks.{header, window}
use Rattle.block_66b.specs.declared.sync_bit.SyncBit.TheVariants.{Zero, One, Bad}
use Rattle.block_66b.specs.declared.block.TheConstants.{HEADERS}

bits-parts : (m n v : ℕ) → bits (m + n) v ≡ bits m (v / 2 ^ n) ++ bits n v
unfolding bits
bits-parts zero n v = let e : 0 + n ≡ n = omega arith in ap (λ k. bits k v) e
bits-parts (suc m) n v =
    let e : suc m + n ≡ suc (m + n) = omega arith in
    let c : n + m ≡ m + n = omega arith in
    let first : bit_at v (m + n) ≡ bit_at (v / 2 ^ n) m = sym (ap (λ t. t % 2) (shr-shr v n m) ∙ ap (bit_at v) c) in
    ap (λ k. bits k v) e ∙ ap₂ {C = List Bool} (λ b r. b ∷ r) (ap (λ t. t == 1) first) (bits-parts m n v)

-- ---- headers

header-top : (b : ℕ) → header (bits 66 b) ≡ header ((b / 2 ^ 64 / 2 % 2 == 1) ∷ (b / 2 ^ 64 % 2 == 1) ∷ bits 64 b)
unfolding bits
header-top b = ap (λ h. header ((h % 2 == 1) ∷ (b / 2 ^ 64 % 2 == 1) ∷ bits 64 b)) (sym (shr-shr b 64 1))

header-one : (b : ℕ) → b / 2 ^ 64 ≡ 1 → header (bits 66 b) ≡ One
unfolding header
header-one b e = header-top b ∙ ap (λ h. header ((h / 2 % 2 == 1) ∷ (h % 2 == 1) ∷ bits 64 b)) e

header-zero : (b : ℕ) → b / 2 ^ 64 ≡ 2 → header (bits 66 b) ≡ Zero
unfolding header
header-zero b e = header-top b ∙ ap (λ h. header ((h / 2 % 2 == 1) ∷ (h % 2 == 1) ∷ bits 64 b)) e

header-three : (b : ℕ) → b / 2 ^ 64 ≡ 3 → header (bits 66 b) ≡ Bad
unfolding header
header-three b e = header-top b ∙ ap (λ h. header ((h / 2 % 2 == 1) ∷ (h % 2 == 1) ∷ bits 64 b)) e

header-none : (b : ℕ) → b / 2 ^ 64 ≡ 0 → header (bits 66 b) ≡ Bad
unfolding header
header-none b e = header-top b ∙ ap (λ h. header ((h / 2 % 2 == 1) ∷ (h % 2 == 1) ∷ bits 64 b)) e

pub header-of : (b : ℕ) → b < 2 ^ 66 → get_or HEADERS (b / 2 ^ 64) Zero ≡ header (bits 66 b)
header-of b small = elim (cases_lt (b / 2 ^ 64) 2) [
  | inl low ↦ elim (cases_lt (b / 2 ^ 64) 1) [
    | inl none ↦ let e : b / 2 ^ 64 ≡ 0 = omega arith in
        ap (λ k. get_or HEADERS k Zero) e ∙ sym (header-none b e)
    | inr one ↦ let e : b / 2 ^ 64 ≡ 1 = omega arith in
        ap (λ k. get_or HEADERS k Zero) e ∙ sym (header-one b e)
  ]
  | inr high ↦ elim (cases_lt (b / 2 ^ 64) 3) [
    | inl two ↦ let e : b / 2 ^ 64 ≡ 2 = omega arith in
        ap (λ k. get_or HEADERS k Zero) e ∙ sym (header-zero b e)
    | inr three ↦ let e : b / 2 ^ 64 ≡ 3 = omega arith in
        ap (λ k. get_or HEADERS k Zero) e ∙ sym (header-three b e)
  ]
]

-- ---- the block across two ticks

pub joined : (l t rest : ℕ) → rest < 66 → t < 2 ^ 66
    → bit_or (bit_and (l * 2 ^ (66 - rest) % 2 ^ 128) (2 ^ 66 - 1)) (t / 2 ^ rest) ≡ l % 2 ^ rest * 2 ^ (66 - rest) + t / 2 ^ rest
joined l t rest within small =
    let s : ℕ = 66 - rest in
    let whole : rest + s ≡ 66 = omega arith in
    let turned : s + rest ≡ 66 = omega arith in
    let masked : bit_and (l * 2 ^ s % 2 ^ 128) (2 ^ 66 - 1) ≡ l * 2 ^ s % 2 ^ 66 =
    and_mask (l * 2 ^ s % 2 ^ 128) 66 ∙ mod-mod-pow (l * 2 ^ s) 62 66 in
    let up : l * 2 ^ s % 2 ^ (rest + s) ≡ l % 2 ^ rest * 2 ^ s =
    mod-pow-add (l * 2 ^ s) rest s
    ∙ ap₂ (λ a b. a % 2 ^ rest * 2 ^ s + b) (shl-shr l s) (mul-mod_left l (2 ^ s))
    ∙ omega arith in
    let below : t / 2 ^ rest < 2 ^ s = shr_below t s rest (rw turned small) in
    ap (λ a. bit_or a (t / 2 ^ rest)) (masked ∙ ap (λ n. l * 2 ^ s % 2 ^ n) (sym whole) ∙ up) ∙ or_shifted (l % 2 ^ rest) s (t / 2 ^ rest) below

-- a block across two ticks has 66 bits
pub joined-small : (l t rest : ℕ) → rest < 66 → t < 2 ^ 66
    → l % 2 ^ rest * 2 ^ (66 - rest) + t / 2 ^ rest < 2 ^ 66
joined-small l t rest within small =
    let s : ℕ = 66 - rest in
    let turned : s + rest ≡ 66 = omega arith in
    let p = pow_pos rest in
    let high : l % 2 ^ rest + 1 ≤ 2 ^ rest = omega arith in
    let low : t / 2 ^ rest < 2 ^ s = shr_below t s rest (rw turned small) in
    let more : (l % 2 ^ rest + 1) * 2 ^ s ≤ 2 ^ rest * 2 ^ s = mul-le-mul_right (2 ^ s) high in
    let whole : 2 ^ rest * 2 ^ s ≡ 2 ^ 66 =
    let n : rest + s ≡ 66 = omega arith in sym (pow-add 2 rest s) ∙ ap (λ k. 2 ^ k) n in
    omega arith

module _ (bits_length : BitsLength) (of_bits : ValueOfBits) (value_append : ValueOfAppend) where
  length-zeros : (n : ℕ) → length (zeros n) ≡ n
  unfolding zeros
  length-zeros zero = refl
  length-zeros (suc n) = ap suc (length-zeros n)

  -- all bits from the tick before on
  from-last : (taken : List Bool) (l t : ℕ) → bits 66 l ≡ drop (length taken) (zeros 66 ++ taken)
      → drop (length taken) (zeros 66 ++ (taken ++ bits 66 t)) ≡ bits 66 l ++ bits 66 t
  from-last taken l t is =
      let z = length-zeros 66 in
      let p = length-append (zeros 66) taken in
      ap (drop (length taken)) (sym (append_assoc (zeros 66) taken (bits 66 t)))
      ∙ drop-append-le (length taken) (zeros 66 ++ taken) (bits 66 t) (omega arith)
      ∙ ap (λ r. r ++ bits 66 t) (sym is)

  pub last-tick : (taken : List Bool) (l t : ℕ) → bits 66 l ≡ drop (length taken) (zeros 66 ++ taken)
      → bits 66 t ≡ drop (length (taken ++ bits 66 t)) (zeros 66 ++ (taken ++ bits 66 t))
  last-tick taken l t is =
      let n : ℕ = length taken in
      let whole : length (taken ++ bits 66 t) ≡ n + 66 = length-append taken (bits 66 t) ∙ ap (λ k. n + k) (bits_length 66 t) in
      let all : List Bool = zeros 66 ++ (taken ++ bits 66 t) in
      sym (ap (λ k. drop k all) whole
      ∙ sym (drop-drop 66 n all)
      ∙ ap (drop 66) (from-last taken l t is)
      ∙ drop_at (bits 66 l) (bits 66 t) 66 (bits_length 66 l))

  window-bits : (rest : ℕ) (taken : List Bool) (l t : ℕ) → rest < 66 → bits 66 l ≡ drop (length taken) (zeros 66 ++ taken)
      → window rest (taken ++ bits 66 t) ≡ bits rest l ++ bits (66 - rest) (t / 2 ^ rest)
  window-bits rest taken l t within is =
      let n : ℕ = length taken in
      let s : ℕ = 66 - rest in
      let all : List Bool = zeros 66 ++ (taken ++ bits 66 t) in
      let turned : s + rest ≡ 66 = omega arith in
      let bl = bits_length 66 l in
      let bt = bits_length 66 t in
      let p = length-append taken (bits 66 t) in
      let start : length (taken ++ bits 66 t) - rest ≡ n + s = omega arith in
      let before : bits 66 l ≡ bits s (l / 2 ^ rest) ++ bits rest l = ap (λ k. bits k l) (sym turned) ∙ bits-parts s rest l in
      let now : bits 66 t ≡ bits s (t / 2 ^ rest) ++ bits rest t = ap (λ k. bits k t) (sym turned) ∙ bits-parts s rest t in
      let low : drop s (bits 66 l) ≡ bits rest l =
      ap (drop s) before ∙ drop_at (bits s (l / 2 ^ rest)) (bits rest l) s (bits_length s (l / 2 ^ rest)) in
      let front : List Bool = bits rest l ++ bits s (t / 2 ^ rest) in
      let r = bits_length rest l in
      let q = bits_length s (t / 2 ^ rest) in
      let f = length-append (bits rest l) (bits s (t / 2 ^ rest)) in
      ap (λ k. take 66 (drop k all)) start
      ∙ ap (take 66) (
      sym (drop-drop s n all)
      ∙ ap (drop s) (from-last taken l t is)
      ∙ drop-append-le s (bits 66 l) (bits 66 t) (omega arith)
      ∙ ap₂ {C = List Bool} (λ a b. a ++ b) low now
      ∙ sym (append_assoc (bits rest l) (bits s (t / 2 ^ rest)) (bits rest t)))
      ∙ take_at front (bits rest t) 66 (omega arith)

  pub window-value : (rest : ℕ) (taken : List Bool) (l t : ℕ) → rest < 66 → t < 2 ^ 66 → bits 66 l ≡ drop (length taken) (zeros 66 ++ taken)
      → value (window rest (taken ++ bits 66 t)) ≡ l % 2 ^ rest * 2 ^ (66 - rest) + t / 2 ^ rest
  window-value rest taken l t within small is =
      let s : ℕ = 66 - rest in
      let turned : s + rest ≡ 66 = omega arith in
      let below : t / 2 ^ rest < 2 ^ s = shr_below t s rest (rw turned small) in
      let v : value (bits s (t / 2 ^ rest)) ≡ t / 2 ^ rest = of_bits s (t / 2 ^ rest) ∙ mod-eq_of_lt below in
      ap value (window-bits rest taken l t within is)
      ∙ value_append (bits rest l) (bits s (t / 2 ^ rest))
      ∙ ap₂ (λ a b. a * 2 ^ b + value (bits s (t / 2 ^ rest))) (of_bits rest l) (bits_length s (t / 2 ^ rest))
      ∙ ap (λ b. l % 2 ^ rest * 2 ^ s + b) v
