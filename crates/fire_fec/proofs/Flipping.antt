-- Bits added to a payload.
use Rattle.std.proofs.Common.{◌≡◌, ℕ, zero, suc, ◌+◌, ◌-◌, ◌*◌, ◌/◌, ◌%◌, ◌^◌, ◌<◌, ◌≤◌, Bool, List, [], ◌∷◌, ◌++◌, length, take, get_or, set, refl, sym, ◌∙◌, ap, ap₂, append_assoc, length-append, arith, bit_xor}
use Rattle.std.proofs.lemmas.Nat.{pow_pos}
use Rattle.std.proofs.Math.Seq.{take-append_seam, take-length}
use Rattle.jesd_base.specs.Bits.{add, bits, zeros}
use Rattle.jesd_base.specs.Division.{add_bits}
use Rattle.fire_fec.specs.Burst.{burst_added}
use Rattle.fire_fec.specs.Corrects.{payload_bits}
use Rattle.fire_fec.proofs.Dividing.{sum_assoc}
use Rattle.fire_fec.proofs.Numbers.{bits_length, bits-split, bits_of_both, bits-low, bits-zero, bits-xor}
use Rattle.fire_fec.proofs.Single.{zeros-length}
use Rattle.fire_fec.proofs.Trapping.{add-false, zeros-add}

-- bits added to a word; those that fall past its end are lost
abbrev pub added : List Bool → List Bool → List Bool
added v b = take (length v) (add_bits v b)

added-nil : (v : List Bool) → added v [] ≡ v
added-nil [] = refl
added-nil (x ∷ xs) = take-length (x ∷ xs)

pub added-length : (v b : List Bool) → length (added v b) ≡ length v
added-length [] b = refl
added-length (x ∷ xs) [] = ap length (take-length (x ∷ xs))
added-length (x ∷ xs) (y ∷ ys) = ap suc (added-length xs ys)

-- zeros behind what is added change nothing
added-zeros : (v b : List Bool) (n : ℕ) → added v (b ++ zeros n) ≡ added v b
unfolding zeros
added-zeros [] b n = refl
added-zeros (x ∷ xs) [] zero = refl
added-zeros (x ∷ xs) [] (suc n) = ap₂ {C = List Bool} (λ c r. c ∷ r) (add-false x) (added-zeros xs [] n ∙ added-nil xs ∙ sym (take-length xs))
added-zeros (x ∷ xs) (y ∷ ys) n = ap {B = List Bool} (λ r. add x y ∷ r) (added-zeros xs ys n)

-- what begins past the end is lost
pub added-past : (v b : List Bool) (n : ℕ) → length v ≤ n → added v (zeros n ++ b) ≡ v
unfolding zeros
added-past [] b n le = refl
added-past (x ∷ xs) b zero le = absurd (omega arith)
added-past (x ∷ xs) b (suc n) le = ap₂ {C = List Bool} (λ c r. c ∷ r) (add-false x) (added-past xs b n (omega arith))

-- what is added twice is added as a sum
added-twice : (v a b : List Bool) → added (added v a) b ≡ added v (add_bits a b)
added-twice [] a b = refl
added-twice (x ∷ xs) [] b = ap (λ r. added r b) (take-length (x ∷ xs))
added-twice (x ∷ xs) (y ∷ ys) [] = added-nil (added (x ∷ xs) (y ∷ ys))
added-twice (x ∷ xs) (y ∷ ys) (z ∷ zs) = ap₂ {C = List Bool} (λ c r. c ∷ r) (sum_assoc x y z) (added-twice xs ys zs)

-- bits as long as the word's front are added to it alone
added-front : (v w b : List Bool) → length v ≡ length b → added (v ++ w) b ≡ add_bits v b ++ w
added-front [] w [] e = added-nil w
added-front [] w (y ∷ ys) e = absurd (omega arith)
added-front (x ∷ xs) w [] e = absurd (omega arith)
added-front (x ∷ xs) w (y ∷ ys) e = ap {B = List Bool} (λ r. add x y ∷ r) (added-front xs w ys (omega arith))

-- zeros as long as the word's front leave it
added-behind : (v w b : List Bool) → added (v ++ w) (zeros (length v) ++ b) ≡ v ++ added w b
unfolding zeros
added-behind [] w b = refl
added-behind (x ∷ xs) w b = ap₂ {C = List Bool} (λ c r. c ∷ r) (add-false x) (added-behind xs w b)

-- the front of a sum is the sum of the front
pub added-prefix : (v w b : List Bool) → take (length v) (added (v ++ w) b) ≡ added v b
added-prefix [] w b = refl
added-prefix (x ∷ xs) w [] = ap (take (length (x ∷ xs))) (added-nil ((x ∷ xs) ++ w)) ∙ take-append_seam (x ∷ xs) w ∙ sym (added-nil (x ∷ xs))
added-prefix (x ∷ xs) w (y ∷ ys) = ap {B = List Bool} (λ r. add x y ∷ r) (added-prefix xs w ys)

-- bits added behind a list
add-behind : (xs ys : List Bool) → add_bits xs (zeros (length xs) ++ ys) ≡ xs ++ ys
unfolding zeros
add-behind [] ys = refl
add-behind (x ∷ xs) ys = ap₂ {C = List Bool} (λ c r. c ∷ r) (add-false x) (add-behind xs ys)

-- one block
pub block_added : (xs : List ℕ) (k a : ℕ) → k < length xs → payload_bits (set xs k (bit_xor (get_or xs k 0) a)) ≡ added (payload_bits xs) (zeros (64 * k) ++ bits 64 a)
unfolding zeros
block_added [] k a lt = absurd (omega arith)
block_added (x ∷ xs) zero a lt =
    let l = bits_length 64 x in
    let m = bits_length 64 a in
    ap (λ r. r ++ payload_bits xs) (bits-xor 64 x a) ∙ sym (added-front (bits 64 x) (payload_bits xs) (bits 64 a) (omega arith))
block_added (x ∷ xs) (suc k) a lt =
    let l = bits_length 64 x in
    let e : 64 * suc k ≡ 64 + 64 * k = omega arith in
    let z : zeros (64 * suc k) ++ bits 64 a ≡ zeros (length (bits 64 x)) ++ (zeros (64 * k) ++ bits 64 a) =
    ap (λ n. zeros n ++ bits 64 a) e ∙ ap (λ r. r ++ bits 64 a) (sym (zeros-add 64 (64 * k))) ∙ append_assoc (zeros 64) (zeros (64 * k)) (bits 64 a) ∙ ap (λ n. zeros n ++ (zeros (64 * k) ++ bits 64 a)) (sym l) in
    ap (λ r. bits 64 x ++ r) (block_added xs k a (omega arith)) ∙ sym (added-behind (bits 64 x) (payload_bits xs) (zeros (64 * k) ++ bits 64 a)) ∙ ap (added (bits 64 x ++ payload_bits xs)) (sym z)

pub payload-length : (xs : List ℕ) → length (payload_bits xs) ≡ 64 * length xs
payload-length [] = refl
payload-length (x ∷ xs) = omega (arith, length-append (bits 64 x) (payload_bits xs), bits_length 64 x, payload-length xs)

-- nine bits within two blocks
two_blocks : (k at m : ℕ) → at < 64 → m < 512
    → add_bits (zeros (64 * k) ++ bits 64 (m * 2 ^ (119 - at) / 2 ^ 64)) (zeros (64 * (k + 1)) ++ bits 64 (m * 2 ^ (119 - at) % 2 ^ 64))
    ≡ (zeros (64 * k + at) ++ bits 9 m) ++ zeros (119 - at)
two_blocks k at m lt small =
    let wide : ℕ = m * 2 ^ (119 - at) in
    let front : List Bool = zeros (64 * k) ++ bits 64 (wide / 2 ^ 64) in
    let lf : length front ≡ 64 * (k + 1) = omega (arith, length-append (zeros (64 * k)) (bits 64 (wide / 2 ^ 64)), zeros-length (64 * k), bits_length 64 (wide / 2 ^ 64)) in
    let n : (at + 9) + (119 - at) ≡ 64 + 64 = omega arith in
    let nine : bits (at + 9) m ≡ zeros at ++ bits 9 m =
    let q : m / 2 ^ 9 ≡ 0 = omega arith in bits-split at 9 m ∙ ap (λ r. bits at r ++ bits 9 m) q ∙ ap (λ r. r ++ bits 9 m) (bits-zero at) in
    let all : bits 64 (wide / 2 ^ 64) ++ bits 64 (wide % 2 ^ 64) ≡ (zeros at ++ bits 9 m) ++ zeros (119 - at) =
    ap (λ r. bits 64 (wide / 2 ^ 64) ++ r) (bits-low 64 wide) ∙ sym (bits-split 64 64 wide) ∙ ap (λ r. bits r wide) (sym n)
    ∙ ap (bits ((at + 9) + (119 - at))) (let e : wide ≡ wide + 0 = omega arith in e) ∙ bits_of_both (at + 9) (119 - at) m 0 (pow_pos (119 - at))
    ∙ ap₂ (λ a b. a ++ b) nine (bits-zero (119 - at)) in
    ap (λ r. add_bits front (zeros r ++ bits 64 (wide % 2 ^ 64))) (sym lf) ∙ add-behind front (bits 64 (wide % 2 ^ 64))
    ∙ append_assoc (zeros (64 * k)) (bits 64 (wide / 2 ^ 64)) (bits 64 (wide % 2 ^ 64)) ∙ ap (λ r. zeros (64 * k) ++ r) (all ∙ append_assoc (zeros at) (bits 9 m) (zeros (119 - at)))
    ∙ sym (append_assoc (zeros (64 * k)) (zeros at) (bits 9 m ++ zeros (119 - at))) ∙ ap (λ r. r ++ (bits 9 m ++ zeros (119 - at))) (zeros-add (64 * k) at)
    ∙ sym (append_assoc (zeros (64 * k + at)) (bits 9 m) (zeros (119 - at)))

-- a burst is added by two blocks
pub burst_by_blocks : (v w x : List Bool) (s m : ℕ) → m < 512
    → w ≡ added v (zeros (64 * (s / 64)) ++ bits 64 (m * 2 ^ (119 - s % 64) / 2 ^ 64))
    → x ≡ added w (zeros (64 * (s / 64 + 1)) ++ bits 64 (m * 2 ^ (119 - s % 64) % 2 ^ 64))
    → x ≡ burst_added v s m
unfolding burst_added
burst_by_blocks v w x s m small first second =
    let k : ℕ = s / 64 in
    let at : ℕ = s % 64 in
    let front : List Bool = zeros (64 * k) ++ bits 64 (m * 2 ^ (119 - at) / 2 ^ 64) in
    let back : List Bool = zeros (64 * (k + 1)) ++ bits 64 (m * 2 ^ (119 - at) % 2 ^ 64) in
    let e : 64 * k + at ≡ s = omega arith in
    second ∙ ap (λ r. added r back) first ∙ added-twice v front back ∙ ap (added v) (two_blocks k at m (omega arith) small)
    ∙ added-zeros v (zeros (64 * k + at) ++ bits 9 m) (119 - at) ∙ ap (λ n. added v (zeros n ++ bits 9 m)) e

-- the payload part of a corrected word
pub burst_in_payload : (v w : List Bool) (s m : ℕ) → length v ≡ 2048 → take 2048 (burst_added (v ++ w) s m) ≡ burst_added v s m
unfolding burst_added
burst_in_payload v w s m e = ap (λ n. take n (added (v ++ w) (zeros s ++ bits 9 m))) (sym e) ∙ added-prefix v w (zeros s ++ bits 9 m)
