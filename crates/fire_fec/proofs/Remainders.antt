-- The parity of bits with more bits behind them, and the remainder of a received word.
use Rattle.std.proofs.Common.{◌≡◌, ℕ, zero, suc, ◌+◌, ◌-◌, ◌*◌, ◌/◌, ◌%◌, ◌^◌, ◌<◌, ◌≤◌, Bool, false, List, [], ◌∷◌, ◌++◌, length, refl, sym, ◌∙◌, ap, ap₂, append_assoc, append-nil, length-append, arith, bit_xor}
use Rattle.std.specs.List.{flat_map}
use Rattle.std.specs.Int.{to_be_bytes}
use mir.Syntax.{w64}
use Rattle.jesd_base.specs.Bits.{bits, value, zeros}
use Rattle.jesd_base.specs.Division.{add_bits, divide, rem}
use Rattle.fire_fec.specs.Burst.{fire, parity}
use Rattle.fire_fec.specs.kept.Shifting.{times_pow}
use Rattle.fire_fec.proofs.Dividing.{division_is_shifting, sum_is_xor, remainder_is_linear, value-lt, add_comm_bits, pow_double}
use Rattle.fire_fec.proofs.Numbers.{bits_length, value_of_bits, bits_of_both, bits-split, bits-low, bits-zero}
use Rattle.fire_fec.proofs.Single.{zeros-length, fire-length, rem-zeros, rem-behind, rem-length, value-shifts, value-push, add-zeros}
use Rattle.fire_fec.proofs.Trapping.{add-false, zeros-add}

-- zeros in front of what is added leave the first bits
pub add-after : (xs ys zs : List Bool) → add_bits (xs ++ ys) (zeros (length xs) ++ zs) ≡ xs ++ add_bits ys zs
unfolding zeros
add-after [] ys zs = refl
add-after (x ∷ xs) ys zs = ap₂ {C = List Bool} (λ b r. b ∷ r) (add-false x) (add-after xs ys zs)

pub zeros-first : (n : ℕ) (xs : List Bool) → n ≤ length xs → add_bits (zeros n) xs ≡ xs
zeros-first n xs le = add_comm_bits (zeros n) xs ∙ add-zeros n xs le

value-behind : (xs : List Bool) (n : ℕ) → value (xs ++ zeros n) ≡ value xs * 2 ^ n
unfolding zeros
value-behind xs zero = rw (append-nil xs) (omega arith)
value-behind xs (suc n) =
    let h = value-behind (xs ++ false ∷ []) n in
    let p = pow_double n in
    let q = value-push xs in
    rw (← append_assoc xs (false ∷ []) (zeros n), h, p, q) (omega arith)

parity-length : (xs : List Bool) → length (parity xs) ≡ 26
parity-length xs = rem-length (xs ++ zeros 26) (omega (arith, length-append xs (zeros 26), zeros-length 26))

pub parity-small : (xs : List Bool) → value (parity xs) < 2 ^ 26
parity-small xs = rw (parity-length xs) at (value-lt (parity xs))

pub parity-none : 0 ≡ value (parity [])
unfolding rem divide fire bits zeros
parity-none = refl

-- the parity of bits with more bits behind them
pub parity-append : (xs ys : List Bool) → 0 < length ys
    → value (parity (xs ++ ys)) ≡ bit_xor (times_pow (length ys) (value (parity xs))) (value (parity ys))
parity-append xs ys some =
    let n : ℕ = length ys in
    let z26 = zeros-length 26 in
    let zn = zeros-length n in
    let f = fire-length in
    let A : List Bool = xs ++ zeros 26 in
    let T : List Bool = ys ++ zeros 26 in
    let U : List Bool = A ++ zeros n in
    let V : List Bool = zeros (length xs) ++ T in
    let lA : length A ≡ length xs + 26 = omega (arith, length-append xs (zeros 26)) in
    let lT : length T ≡ n + 26 = omega (arith, length-append ys (zeros 26)) in
    let lU : length U ≡ length xs + 26 + n = omega (arith, length-append A (zeros n)) in
    let lV : length V ≡ length xs + 26 + n = omega (arith, length-append (zeros (length xs)) T, zeros-length (length xs)) in
    let sum : (xs ++ ys) ++ zeros 26 ≡ add_bits U V =
    append_assoc xs ys (zeros 26)
    ∙ ap (λ r. xs ++ r) (sym (zeros-first (26 + n) T (omega arith)))
    ∙ sym (add-after xs (zeros (26 + n)) T)
    ∙ ap (λ r. add_bits r V) (ap (λ r. xs ++ r) (sym (zeros-add 26 n)) ∙ sym (append_assoc xs (zeros 26) (zeros n))) in
    let first : value (rem fire U) ≡ times_pow n (value (parity xs)) =
    ap value (rem-behind A (zeros n) (omega arith)) ∙ value-shifts n (rem fire A) (parity-length xs) in
    let second : rem fire V ≡ parity ys = rem-zeros (length xs) T (omega arith) in
    let lFirst = rem-length U (omega arith) in
    let lSecond = rem-length V (omega arith) in
    ap (λ r. value (rem fire r)) sum ∙ ap value (remainder_is_linear fire U V (omega arith) (omega arith))
    ∙ sum_is_xor (rem fire U) (rem fire V) (omega arith) ∙ ap₂ bit_xor first (ap value second)

-- a number of 26 bits with zeros behind it
pub times_power-is : (n r : ℕ) → r < 2 ^ 26 → value (rem fire (bits 26 r ++ zeros n)) ≡ times_pow n r
times_power-is n r small =
    let f = fire-length in
    let l = bits_length 26 r in
    let e : r % 2 ^ 26 ≡ r = omega arith in
    ap value (division_is_shifting fire (bits 26 r) (zeros n) (omega arith) (omega arith))
    ∙ value-shifts n (bits 26 r) l ∙ ap (times_pow n) (value_of_bits 26 r ∙ e)

-- the parity of an octet
pub parity-octet : (b : ℕ) → b < 256 → value (parity (bits 8 b)) ≡ times_pow 8 (b * 2 ^ 18)
parity-octet b small =
    let both : bits 26 (b * 2 ^ 18) ≡ bits 8 b ++ zeros 18 =
    let z : b * 2 ^ 18 ≡ b * 2 ^ 18 + 0 = omega arith in
    ap (bits 26) z ∙ bits_of_both 8 18 b 0 (omega arith) ∙ ap (λ r. bits 8 b ++ r) (bits-zero 18) in
    let tail : bits 26 (b * 2 ^ 18) ++ zeros 8 ≡ bits 8 b ++ zeros 26 =
    ap (λ r. r ++ zeros 8) both ∙ append_assoc (bits 8 b) (zeros 18) (zeros 8) ∙ ap (λ r. bits 8 b ++ r) (zeros-add 18 8) in
    ap (λ r. value (rem fire r)) (sym tail) ∙ times_power-is 8 (b * 2 ^ 18) (omega arith)

-- a number's bytes
pub bytes_of : (x : ℕ) → flat_map (bits 8) (to_be_bytes w64 x) ≡ bits 64 x
bytes_of x =
    let more : (n : ℕ) (rest : List Bool) → rest ≡ bits n x → bits 8 (x / 2 ^ n % 256) ++ rest ≡ bits (8 + n) x =
    λ n rest e. ap₂ (λ a b. a ++ b) (bits-low 8 (x / 2 ^ n)) e ∙ sym (bits-split 8 n x) in
    more 56 _ (more 48 _ (more 40 _ (more 32 _ (more 24 _ (more 16 _ (more 8 _ (append-nil (bits 8 (x % 256)) ∙ bits-low 8 x)))))))

-- the remainder of a received word
short : (xs : List Bool) → length xs ≡ 26 → rem fire xs ≡ xs
unfolding rem divide
short xs e = let f = fire-length in let z : length xs - length fire ≡ 0 = omega arith in rw z refl

pub received_remainder : (xs : List Bool) (c : ℕ) → 0 < length xs → c < 2 ^ 26 → value (rem fire (xs ++ bits 26 c)) ≡ bit_xor (value (parity xs)) c
received_remainder xs c some small =
    let f = fire-length in
    let n = bits_length 26 c in
    let z26 = zeros-length 26 in
    let U : List Bool = xs ++ zeros 26 in
    let V : List Bool = zeros (length xs) ++ bits 26 c in
    let lU : length U ≡ length xs + 26 = omega (arith, length-append xs (zeros 26)) in
    let lV : length V ≡ length xs + 26 = omega (arith, length-append (zeros (length xs)) (bits 26 c), zeros-length (length xs)) in
    let sum : xs ++ bits 26 c ≡ add_bits U V = ap (λ r. xs ++ r) (sym (zeros-first 26 (bits 26 c) (omega arith))) ∙ sym (add-after xs (zeros 26) (bits 26 c)) in
    let second : rem fire V ≡ bits 26 c = rem-zeros (length xs) (bits 26 c) (omega arith) ∙ short (bits 26 c) n in
    let lFirst = rem-length U (omega arith) in
    let lSecond = rem-length V (omega arith) in
    let e : c % 2 ^ 26 ≡ c = omega arith in
    ap (λ r. value (rem fire r)) sum ∙ ap value (remainder_is_linear fire U V (omega arith) (omega arith)) ∙ sum_is_xor (rem fire U) (rem fire V) (omega arith)
    ∙ ap (bit_xor (value (parity xs))) (ap value second ∙ value_of_bits 26 c ∙ e)
