-- Long division is shifting, and is linear.
use Rattle.std.proofs.Common.{◌≡◌, ℕ, zero, suc, ◌+◌, ◌-◌, ◌*◌, ◌^◌, ◌<◌, ◌≤◌, Bool, true, false, List, [], ◌∷◌, ◌++◌, length, refl, sym, ◌∙◌, ap, ap₂, append_assoc, append-nil, length-append, arith, bit_xor}
use Rattle.std.proofs.Math.Nat.{pow-suc}
use Rattle.std.specs.Int.Bits.{xor_block}
use Rattle.jesd_base.specs.Bits.{add, bit, value}
use Rattle.jesd_base.specs.Division.{add_bits, divide, rem}
use Rattle.jesd_base.specs.laws.DivisionLaws.{shift, shift_all, DivisionIsShifting, SumIsXor, RemainderIsLinear}

add_bits-length : (xs ys : List Bool) → length xs ≡ length ys → length (add_bits xs ys) ≡ length ys
add_bits-length [] ys e = refl
add_bits-length (x ∷ xs) [] e = e
add_bits-length (x ∷ xs) (y ∷ ys) e = let h = add_bits-length xs ys (omega arith) in omega arith

add_bits-append : (xs ys zs : List Bool) → length xs ≡ length ys → add_bits xs (ys ++ zs) ≡ add_bits xs ys ++ zs
add_bits-append [] [] zs e = refl
add_bits-append [] (y ∷ ys) zs e = absurd (omega arith)
add_bits-append (x ∷ xs) [] zs e = absurd (omega arith)
add_bits-append (x ∷ xs) (y ∷ ys) zs e = ap {B = List Bool} (λ r. add x y ∷ r) (add_bits-append xs ys zs (omega arith))

pub shift-length : (g register : List Bool) (c : Bool) → length register ≡ length g → length (shift g register c) ≡ length g
shift-length g [] c e = e
shift-length g (false ∷ register) c e = omega (arith, length-append register (c ∷ []))
shift-length g (true ∷ register) c e =
    let l = length-append register (c ∷ []) in
    let h = add_bits-length g (register ++ c ∷ []) (omega arith) in omega arith

divide_shifts : (g register rest : List Bool) → length register ≡ length g → 0 < length g → divide (length rest) g (register ++ rest) ≡ shift_all g register rest
unfolding divide
divide_shifts g register [] e pos = simp append-nil
divide_shifts g [] (c ∷ rest) e pos = absurd (omega arith)
divide_shifts g (false ∷ register) (c ∷ rest) e pos =
    rw (← append_assoc register (c ∷ []) rest) (divide_shifts g (register ++ c ∷ []) rest (omega (arith, length-append register (c ∷ []))) pos)
divide_shifts g (true ∷ register) (c ∷ rest) e pos =
    let l = length-append register (c ∷ []) in
    let same : length g ≡ length (register ++ c ∷ []) = omega arith in
    let h = add_bits-length g (register ++ c ∷ []) same in
    rw (← append_assoc register (c ∷ []) rest, add_bits-append g (register ++ c ∷ []) rest same) (divide_shifts g (add_bits g (register ++ c ∷ [])) rest (omega arith) pos)

pub division_is_shifting : DivisionIsShifting
unfolding rem
division_is_shifting g register rest e pos =
    let l = length-append register rest in
    let n : length (register ++ rest) - length g ≡ length rest = omega arith in
    rw n (divide_shifts g register rest e pos)

pub pow_double : (n : ℕ) → 2 ^ suc n ≡ 2 * 2 ^ n
pow_double n = rw (pow-suc 2 n) (omega arith)

pub value-lt : (xs : List Bool) → value xs < 2 ^ length xs
value-lt [] = omega arith
value-lt (true ∷ xs) = let h = value-lt xs in let p : 2 ^ suc (length xs) ≡ 2 * 2 ^ length xs = pow_double (length xs) in rw p (omega arith)
value-lt (false ∷ xs) = let h = value-lt xs in let p : 2 ^ suc (length xs) ≡ 2 * 2 ^ length xs = pow_double (length xs) in rw p (omega arith)

bit_sum : (x y : Bool) → bit (add x y) ≡ bit_xor (bit x) (bit y)
bit_sum true true = refl
bit_sum true false = refl
bit_sum false true = refl
bit_sum false false = refl

pub sum_is_xor : SumIsXor
sum_is_xor [] [] e = refl
sum_is_xor [] (y ∷ ys) e = absurd (omega arith)
sum_is_xor (x ∷ xs) [] e = absurd (omega arith)
sum_is_xor (x ∷ xs) (y ∷ ys) e =
    let l : length xs ≡ length ys = omega arith in
    let h = sum_is_xor xs ys l in
    let n = add_bits-length xs ys l in
    let b = xor_block (length ys) (bit x) (bit y) (value xs) (value ys) (rw (← l) (value-lt xs)) (value-lt ys) in
    rw (n, h, l, b, bit_sum x y) refl

pub sum_assoc : (a b c : Bool) → add (add a b) c ≡ add a (add b c)
sum_assoc true true true = refl
sum_assoc true true false = refl
sum_assoc true false true = refl
sum_assoc true false false = refl
sum_assoc false b c = refl

sum_comm : (a b : Bool) → add a b ≡ add b a
sum_comm true true = refl
sum_comm true false = refl
sum_comm false true = refl
sum_comm false false = refl

sum_self : (a : Bool) → add a a ≡ false
sum_self true = refl
sum_self false = refl

pub add_assoc_bits : (xs ys zs : List Bool) → add_bits (add_bits xs ys) zs ≡ add_bits xs (add_bits ys zs)
add_assoc_bits [] ys zs = refl
add_assoc_bits (x ∷ xs) [] zs = refl
add_assoc_bits (x ∷ xs) (y ∷ ys) [] = refl
add_assoc_bits (x ∷ xs) (y ∷ ys) (z ∷ zs) = ap₂ {C = List Bool} (λ a r. a ∷ r) (sum_assoc x y z) (add_assoc_bits xs ys zs)

pub add_comm_bits : (xs ys : List Bool) → add_bits xs ys ≡ add_bits ys xs
add_comm_bits [] [] = refl
add_comm_bits [] (y ∷ ys) = refl
add_comm_bits (x ∷ xs) [] = refl
add_comm_bits (x ∷ xs) (y ∷ ys) = ap₂ {C = List Bool} (λ a r. a ∷ r) (sum_comm x y) (add_comm_bits xs ys)

-- a sum with itself goes
pub add_twice : (xs ys : List Bool) → length xs ≤ length ys → add_bits xs (add_bits xs ys) ≡ ys
add_twice [] ys le = refl
add_twice (x ∷ xs) [] le = absurd (omega arith)
add_twice (x ∷ xs) (y ∷ ys) le = ap₂ {C = List Bool} (λ a r. a ∷ r) (sym (sum_assoc x x y) ∙ ap (λ v. add v y) (sum_self x)) (add_twice xs ys (omega arith))

pub add_length_below : (xs ys : List Bool) → length xs ≤ length ys → length (add_bits xs ys) ≡ length ys
add_length_below [] ys le = refl
add_length_below (x ∷ xs) [] le = absurd (omega arith)
add_length_below (x ∷ xs) (y ∷ ys) le = let h = add_length_below xs ys (omega arith) in omega arith

divide_linear : (n : ℕ) (g xs ys : List Bool) → length xs ≡ length ys → n + length g ≤ length xs → divide n g (add_bits xs ys) ≡ add_bits (divide n g xs) (divide n g ys)
unfolding divide
divide_linear zero g xs ys e lt = refl
divide_linear (suc n) g [] ys e lt = absurd (omega arith)
divide_linear (suc n) g (x ∷ xs) [] e lt = absurd (omega arith)
divide_linear (suc n) g (false ∷ xs) (false ∷ ys) e lt = divide_linear n g xs ys (omega arith) (omega arith)
divide_linear (suc n) g (true ∷ xs) (false ∷ ys) e lt =
    let l = add_length_below g xs (omega arith) in
    rw (← add_assoc_bits g xs ys) (divide_linear n g (add_bits g xs) ys (omega arith) (omega arith))
divide_linear (suc n) g (false ∷ xs) (true ∷ ys) e lt =
    let l = add_length_below g ys (omega arith) in
    let m : add_bits g (add_bits xs ys) ≡ add_bits xs (add_bits g ys) = sym (add_assoc_bits g xs ys) ∙ ap (λ v. add_bits v ys) (add_comm_bits g xs) ∙ add_assoc_bits xs g ys in
    rw m (divide_linear n g xs (add_bits g ys) (omega arith) (omega arith))
divide_linear (suc n) g (true ∷ xs) (true ∷ ys) e lt =
    let l = add_length_below g xs (omega arith) in
    let k = add_length_below g ys (omega arith) in
    let j = add_length_below xs ys (omega arith) in
    let m : add_bits (add_bits g xs) (add_bits g ys) ≡ add_bits xs ys =
    ap (λ v. add_bits v (add_bits g ys)) (add_comm_bits g xs) ∙ add_assoc_bits xs g (add_bits g ys) ∙ ap (add_bits xs) (add_twice g ys (omega arith)) in
    sym (ap (divide n g) m) ∙ divide_linear n g (add_bits g xs) (add_bits g ys) (omega arith) (omega arith)

pub remainder_is_linear : RemainderIsLinear
unfolding rem
remainder_is_linear g xs ys e lt =
    let j = add_length_below xs ys (omega arith) in
    let a : length (add_bits xs ys) - length g ≡ length ys - length g = omega arith in
    let b : length xs - length g ≡ length ys - length g = omega arith in
    rw (a, b) (divide_linear (length ys - length g) g xs ys e (omega arith))
