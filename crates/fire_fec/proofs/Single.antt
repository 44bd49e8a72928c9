-- The remainder of a burst, as a value.
use Rattle.std.proofs.Common.{◌≡◌, ℕ, zero, suc, ◌+◌, ◌-◌, ◌*◌, ◌^◌, ◌<◌, ◌≤◌, Bool, true, false, List, [], ◌∷◌, ◌++◌, length, refl, sym, ◌∙◌, ap, ap₂, append_assoc, append-nil, length-append, zero-add, arith, bit_xor}
use Rattle.std.specs.Int.Bits.{xor_block}
use Rattle.std.proofs.lemmas.Nat.{xor_comm}
use Rattle.std.proofs.lemmas.Bool.{lt-ltb, le-ltb}
use Rattle.jesd_base.specs.Bits.{bits, value, zeros}
use Rattle.jesd_base.specs.Division.{add_bits, rem, divide}
use Rattle.jesd_base.specs.laws.DivisionLaws.{shift, shift_all}
use Rattle.fire_fec.specs.Burst.{fire}
use Rattle.fire_fec.specs.kept.Shifting.{times_x, times_pow}
use Rattle.fire_fec.proofs.Dividing.{division_is_shifting, sum_is_xor, value-lt, pow_double, shift-length}

-- the word p has the nine bits at place s and zeros elsewhere; those that fall past its 2,074 bits are 0
abbrev pub IsBurst : List Bool → ℕ → List Bool → Type 0
IsBurst p s mask = p ++ zeros 8 ≡ zeros s ++ (mask ++ zeros (2073 - s))

pub zeros-length : (n : ℕ) → length (zeros n) ≡ n
unfolding zeros
zeros-length zero = refl
zeros-length (suc n) = ap suc (zeros-length n)

pub fire-length : length fire ≡ 26
unfolding fire bits
fire-length = refl

pub fire-value : value fire ≡ 0x220211
unfolding fire bits
fire-value = refl

-- zeros in front change no remainder
pub rem-zeros : (k : ℕ) (xs : List Bool) → 26 ≤ length xs → rem fire (zeros k ++ xs) ≡ rem fire xs
unfolding rem divide zeros
rem-zeros zero xs le = refl
rem-zeros (suc k) xs le =
    let l = length-append (zeros k) xs in
    let f = fire-length in
    let e : suc (length (zeros k ++ xs)) - length fire ≡ suc (length (zeros k ++ xs) - length fire) = omega arith in
    rw e (rem-zeros k xs le)

pub value-push : (xs : List Bool) → value (xs ++ false ∷ []) ≡ 2 * value xs
value-push [] = refl
value-push (true ∷ xs) =
    let h = value-push xs in
    let l = length-append xs (false ∷ []) in
    let e : length (xs ++ false ∷ []) ≡ suc (length xs) = omega arith in
    let p = pow_double (length xs) in
    rw (e, h, p) (omega arith)
value-push (false ∷ xs) = let h = value-push xs in omega arith

pub value-shift : (register : List Bool) → length register ≡ 26 → value (shift fire register false) ≡ times_x (value register)
unfolding times_x
value-shift [] e = absurd (omega arith)
value-shift (false ∷ register) e =
    let n : length register ≡ 25 = omega arith in
    let v : value register < 2 ^ 25 = rw n at (value-lt register) in
    let z : 0 * 2 ^ length register + value register ≡ value register = omega arith in
    let b = lt-ltb (value register) 0x2000000 v in
    rw (z, b) (value-push register)
value-shift (true ∷ register) e =
    let n : length register ≡ 25 = omega arith in
    let v : value register < 2 ^ 25 = rw n at (value-lt register) in
    let l = length-append register (false ∷ []) in
    let f = fire-length in
    let s : length fire ≡ length (register ++ false ∷ []) = omega arith in
    let x : value (add_bits fire (register ++ false ∷ [])) ≡ bit_xor 0x220211 (2 * value register) = sum_is_xor fire (register ++ false ∷ []) s ∙ ap₂ bit_xor fire-value (value-push register) in
    let w : 1 * 2 ^ length register + value register ≡ 0x2000000 + value register = rw n refl in
    let b = le-ltb (0x2000000 + value register) 0x2000000 (omega arith) in
    let small : 2 * value register < 2 ^ 26 = omega arith in
    let t : 2 * (0x2000000 + value register) ≡ 1 * 2 ^ 26 + 2 * value register = omega arith in
    let y : bit_xor (2 * (0x2000000 + value register)) 0x4220211 ≡ bit_xor (2 * value register) 0x220211 =
    ap (λ a. bit_xor a 0x4220211) t ∙ xor_block 26 1 1 (2 * value register) 0x220211 small (omega arith) ∙ zero-add _ in
    rw (w, b) (x ∙ xor_comm 0x220211 (2 * value register) ∙ sym y)

pub value-shifts : (n : ℕ) (register : List Bool) → length register ≡ 26 → value (shift_all fire register (zeros n)) ≡ times_pow n (value register)
unfolding zeros times_pow
value-shifts zero register e = refl
value-shifts (suc n) register e =
    let f = fire-length in
    let l = shift-length fire register false (e ∙ sym f) in
    value-shifts n (shift fire register false) (l ∙ f) ∙ ap (times_pow n) (value-shift register e)

pub shift_all-append : (g register xs ys : List Bool) → shift_all g register (xs ++ ys) ≡ shift_all g (shift_all g register xs) ys
shift_all-append g register [] ys = refl
shift_all-append g register (x ∷ xs) ys = shift_all-append g (shift g register x) xs ys

pub idle : (n : ℕ) → shift_all fire (zeros 26) (zeros n) ≡ zeros 26
unfolding zeros
idle zero = refl
idle (suc n) = idle n

pub fed : (m r : List Bool) → shift_all fire (zeros (length m) ++ r) m ≡ r ++ m
unfolding zeros
fed [] r = sym (append-nil r)
fed (c ∷ cs) r = rw (append_assoc (zeros (length cs)) r (c ∷ [])) (fed cs (r ++ c ∷ []) ∙ append_assoc r (c ∷ []) cs)

pub value-zeros : (k : ℕ) (xs : List Bool) → value (zeros k ++ xs) ≡ value xs
unfolding zeros
value-zeros zero xs = refl
value-zeros (suc k) xs = let h = value-zeros k xs in omega arith

pub nine : (m : List Bool) → length m ≡ 9 → shift_all fire (zeros 26) m ≡ zeros 17 ++ m
unfolding zeros
nine m l = rw l at (fed m (zeros 17))

pub shift_all-length : (register xs : List Bool) → length register ≡ 26 → length (shift_all fire register xs) ≡ 26
shift_all-length register [] e = e
shift_all-length register (x ∷ xs) e = shift_all-length (shift fire register x) xs (shift-length fire register x (e ∙ sym fire-length) ∙ fire-length)

pub rem-is : (xs : List Bool) → 26 ≤ length xs → rem fire xs ≡ shift_all fire (zeros 26) xs
rem-is xs le =
    let z = zeros-length 26 in
    let f = fire-length in
    sym (rem-zeros 26 xs le) ∙ division_is_shifting fire (zeros 26) xs (z ∙ sym f) (omega arith)

-- zeros behind a word shift its remainder
pub rem-behind : (xs ys : List Bool) → 26 ≤ length xs → rem fire (xs ++ ys) ≡ shift_all fire (rem fire xs) ys
rem-behind xs ys le =
    let l = length-append xs ys in
    rem-is (xs ++ ys) (omega arith) ∙ shift_all-append fire (zeros 26) xs ys ∙ ap (λ r. shift_all fire r ys) (sym (rem-is xs le))

pub rem-length : (xs : List Bool) → 26 ≤ length xs → length (rem fire xs) ≡ 26
rem-length xs le = ap length (rem-is xs le) ∙ shift_all-length (zeros 26) xs (zeros-length 26)

pub burst-value : (p : List Bool) (s : ℕ) (m : List Bool) → 26 ≤ length p → length m ≡ 9 → IsBurst p s m
    → value (shift_all fire (rem fire p) (zeros 8)) ≡ times_pow (2073 - s) (value m)
burst-value p s m le l b =
    let a = length-append p (zeros 8) in
    let k : length (zeros 17 ++ m) ≡ 26 = omega (arith, length-append (zeros 17) m, zeros-length 17) in
    let whole : shift_all fire (rem fire p) (zeros 8) ≡ shift_all fire (zeros 26) (p ++ zeros 8) = sym (rem-behind p (zeros 8) le) ∙ rem-is (p ++ zeros 8) (omega arith) in
    let parts : shift_all fire (zeros 26) (zeros s ++ (m ++ zeros (2073 - s))) ≡ shift_all fire (zeros 17 ++ m) (zeros (2073 - s)) =
    shift_all-append fire (zeros 26) (zeros s) (m ++ zeros (2073 - s))
    ∙ ap (λ r. shift_all fire r (m ++ zeros (2073 - s))) (idle s)
    ∙ shift_all-append fire (zeros 26) m (zeros (2073 - s))
    ∙ ap (λ r. shift_all fire r (zeros (2073 - s))) (nine m l) in
    ap value (whole ∙ ap (shift_all fire (zeros 26)) b ∙ parts) ∙ value-shifts (2073 - s) (zeros 17 ++ m) k ∙ ap (times_pow (2073 - s)) (value-zeros 17 m)

pub add-zeros : (n : ℕ) (xs : List Bool) → n ≤ length xs → add_bits xs (zeros n) ≡ xs
unfolding zeros
add-zeros zero [] le = refl
add-zeros zero (x ∷ xs) le = refl
add-zeros (suc n) [] le = absurd (omega arith)
add-zeros (suc n) (true ∷ xs) le = ap {B = List Bool} (λ r. true ∷ r) (add-zeros n xs (omega arith))
add-zeros (suc n) (false ∷ xs) le = ap {B = List Bool} (λ r. false ∷ r) (add-zeros n xs (omega arith))

pub same_value : (xs ys : List Bool) → length xs ≡ length ys → value xs ≡ value ys → xs ≡ ys
same_value [] [] l e = refl
same_value [] (y ∷ ys) l e = absurd (omega arith)
same_value (x ∷ xs) [] l e = absurd (omega arith)
same_value (true ∷ xs) (true ∷ ys) l e =
    let n : length xs ≡ length ys = omega arith in
    let e2 = rw n at e in
    ap {B = List Bool} (λ r. true ∷ r) (same_value xs ys n (omega arith))
same_value (false ∷ xs) (false ∷ ys) l e = ap {B = List Bool} (λ r. false ∷ r) (same_value xs ys (omega arith) (omega arith))
same_value (true ∷ xs) (false ∷ ys) l e =
    let n : length xs ≡ length ys = omega arith in
    let e2 = rw n at e in
    let b = value-lt ys in
    absurd (omega arith)
same_value (false ∷ xs) (true ∷ ys) l e =
    let n : length xs ≡ length ys = omega arith in
    let a : value xs < 2 ^ length ys = rw n at (value-lt xs) in
    absurd (omega arith)
