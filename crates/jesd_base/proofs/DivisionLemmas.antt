-- Long division: by shifting, in parts, and linear.
use Rattle.std.proofs.Common.{◌≡◌, ℕ, zero, suc, ◌+◌, ◌-◌, ◌*◌, ◌%◌, ◌^◌, ◌<◌, ◌≤◌, Bool, true, false, List, [], ◌∷◌, ◌++◌, length, refl, sym, ◌∙◌, ap, ap₂, append_assoc, append-nil, length-append, zero-add, arith, inl, inr, bit_xor}
use mir.Val.{bool_byte}
use Rattle.std.proofs.Math.Nat.{suc-add, mod-eq-sub-mod, mod-eq_of_lt}
use Rattle.std.specs.Int.Bits.{xor_block}
use Rattle.jesd_base.specs.Bits.{add, bit, bits, value, zeros}
use Rattle.jesd_base.specs.Division.{add_bits, divide, rem}
use Rattle.jesd_base.specs.laws.DivisionLaws.{shift, shift_all, DivisionIsShifting, SumIsXor, RemainderIsLinear, RemainderLength, ZerosInFront, RemainderGoesOn}
use Rattle.std.proofs.lemmas.Nat.{xor_comm}
use Rattle.std.proofs.Math.Pow.{pow_mono}
use Rattle.std.proofs.lemmas.Bool.{cases_lt}
use Rattle.jesd_base.proofs.BitLemmas.{value_below, value_of_append, value_of_bits, bits_length, pow_double}

-- ---- sums

add_bits-length : (xs ys : List Bool) → length xs ≤ length ys → length (add_bits xs ys) ≡ length ys
add_bits-length [] ys le = refl
add_bits-length (x ∷ xs) [] le = absurd (omega arith)
add_bits-length (x ∷ xs) (y ∷ ys) le = let h = add_bits-length xs ys (omega arith) in omega arith

add_bits-append : (xs ys zs : List Bool) → length xs ≤ length ys → add_bits xs (ys ++ zs) ≡ add_bits xs ys ++ zs
add_bits-append [] ys zs le = refl
add_bits-append (x ∷ xs) [] zs le = absurd (omega arith)
add_bits-append (x ∷ xs) (y ∷ ys) zs le = ap {B = List Bool} (λ r. add x y ∷ r) (add_bits-append xs ys zs (omega arith))

bit-add : (x y : Bool) → bit (add x y) ≡ bit_xor (bit x) (bit y)
bit-add true true = refl
bit-add true false = refl
bit-add false true = refl
bit-add false false = refl

pub sum_is_xor : SumIsXor
sum_is_xor [] [] e = refl
sum_is_xor [] (y ∷ ys) e = absurd (omega arith)
sum_is_xor (x ∷ xs) [] e = absurd (omega arith)
sum_is_xor (x ∷ xs) (y ∷ ys) e =
    let l : length xs ≡ length ys = omega arith in
    let h = sum_is_xor xs ys l in
    let n = add_bits-length xs ys (omega arith) in
    let b = xor_block (length ys) (bit x) (bit y) (value xs) (value ys) (rw (← l) (value_below xs)) (value_below ys) in
    rw (n, h, l, b, bit-add x y) refl

add-assoc : (a b c : Bool) → add (add a b) c ≡ add a (add b c)
add-assoc true true true = refl
add-assoc true true false = refl
add-assoc true false true = refl
add-assoc true false false = refl
add-assoc false b c = refl

add-comm : (a b : Bool) → add a b ≡ add b a
add-comm true true = refl
add-comm true false = refl
add-comm false true = refl
add-comm false false = refl

add-self : (a : Bool) → add a a ≡ false
add-self true = refl
add-self false = refl

pub add_bits-assoc : (xs ys zs : List Bool) → add_bits (add_bits xs ys) zs ≡ add_bits xs (add_bits ys zs)
add_bits-assoc [] ys zs = refl
add_bits-assoc (x ∷ xs) [] zs = refl
add_bits-assoc (x ∷ xs) (y ∷ ys) [] = refl
add_bits-assoc (x ∷ xs) (y ∷ ys) (z ∷ zs) = ap₂ {C = List Bool} (λ a r. a ∷ r) (add-assoc x y z) (add_bits-assoc xs ys zs)

pub add_bits-comm : (xs ys : List Bool) → add_bits xs ys ≡ add_bits ys xs
add_bits-comm [] [] = refl
add_bits-comm [] (y ∷ ys) = refl
add_bits-comm (x ∷ xs) [] = refl
add_bits-comm (x ∷ xs) (y ∷ ys) = ap₂ {C = List Bool} (λ a r. a ∷ r) (add-comm x y) (add_bits-comm xs ys)

-- what is added twice goes
pub add_bits-twice : (xs ys : List Bool) → length xs ≤ length ys → add_bits xs (add_bits xs ys) ≡ ys
add_bits-twice [] ys le = refl
add_bits-twice (x ∷ xs) [] le = absurd (omega arith)
add_bits-twice (x ∷ xs) (y ∷ ys) le = ap₂ {C = List Bool} (λ a r. a ∷ r) (sym (add-assoc x x y) ∙ ap (λ v. add v y) (add-self x)) (add_bits-twice xs ys (omega arith))

-- ---- division in parts

divide-nil : (n : ℕ) (g : List Bool) → divide n g [] ≡ []
unfolding divide
divide-nil zero g = refl
divide-nil (suc n) g = refl

divide-length : (n : ℕ) (g bs : List Bool) → n + length g ≤ length bs → length (divide n g bs) ≡ length bs - n
unfolding divide
divide-length zero g bs le = omega arith
divide-length (suc n) g [] le = absurd (omega arith)
divide-length (suc n) g (false ∷ bs) le = let h = divide-length n g bs (omega arith) in omega arith
divide-length (suc n) g (true ∷ bs) le =
    let l = add_bits-length g bs (omega arith) in
    let h = divide-length n g (add_bits g bs) (omega arith) in
    omega arith

divide-append : (n : ℕ) (g xs ys : List Bool) → n + length g ≤ length xs → divide n g (xs ++ ys) ≡ divide n g xs ++ ys
unfolding divide
divide-append zero g xs ys le = refl
divide-append (suc n) g [] ys le = absurd (omega arith)
divide-append (suc n) g (false ∷ xs) ys le = divide-append n g xs ys (omega arith)
divide-append (suc n) g (true ∷ xs) ys le =
    let l = add_bits-length g xs (omega arith) in
    rw (add_bits-append g xs ys (omega arith)) (divide-append n g (add_bits g xs) ys (omega arith))

divide-add : (m n : ℕ) (g bs : List Bool) → divide (m + n) g bs ≡ divide n g (divide m g bs)
unfolding divide
divide-add zero n g bs = rw (zero-add n) refl
divide-add (suc m) n g [] = rw (suc-add m n) (sym (divide-nil n g))
divide-add (suc m) n g (false ∷ bs) = rw (suc-add m n) (divide-add m n g bs)
divide-add (suc m) n g (true ∷ bs) = rw (suc-add m n) (divide-add m n g (add_bits g bs))

pub remainder_length : RemainderLength
unfolding rem
remainder_length g xs le = let h = divide-length (length xs - length g) g xs (omega arith) in omega arith

pub remainder_goes_on : RemainderGoesOn
unfolding rem
remainder_goes_on g xs ys le =
    let n : ℕ = length xs - length g in
    let r : List Bool = divide n g xs in
    let l = length-append xs ys in
    let k = divide-length n g xs (omega arith) in
    let j = length-append r ys in
    let e : length (xs ++ ys) - length g ≡ n + length ys = omega arith in
    let f : length (r ++ ys) - length g ≡ length ys = omega arith in
    rw (e, f) (divide-add n (length ys) g (xs ++ ys) ∙ ap (divide (length ys) g) (divide-append n g xs ys (omega arith)))

pub zeros_in_front : ZerosInFront
unfolding rem divide zeros
zeros_in_front g xs zero le = refl
zeros_in_front g xs (suc k) le =
    let l = length-append (zeros k) xs in
    let e : suc (length (zeros k ++ xs)) - length g ≡ suc (length (zeros k ++ xs) - length g) = omega arith in
    rw e (zeros_in_front g xs k le)

-- ---- shifting

divide_shifts : (g register rest : List Bool) → length register ≡ length g → 0 < length g → divide (length rest) g (register ++ rest) ≡ shift_all g register rest
unfolding divide
divide_shifts g register [] e pos = simp append-nil
divide_shifts g [] (c ∷ rest) e pos = absurd (omega arith)
divide_shifts g (false ∷ register) (c ∷ rest) e pos =
    rw (← append_assoc register (c ∷ []) rest) (divide_shifts g (register ++ c ∷ []) rest (omega (arith, length-append register (c ∷ []))) pos)
divide_shifts g (true ∷ register) (c ∷ rest) e pos =
    let l = length-append register (c ∷ []) in
    let same : length g ≡ length (register ++ c ∷ []) = omega arith in
    let h = add_bits-length g (register ++ c ∷ []) (omega arith) in
    rw (← append_assoc register (c ∷ []) rest, add_bits-append g (register ++ c ∷ []) rest (omega arith)) (divide_shifts g (add_bits g (register ++ c ∷ [])) rest (omega arith) pos)

pub division_is_shifting : DivisionIsShifting
unfolding rem
division_is_shifting g register rest e pos =
    let l = length-append register rest in
    let n : length (register ++ rest) - length g ≡ length rest = omega arith in
    rw n (divide_shifts g register rest e pos)

-- ---- linearity

divide_linear : (n : ℕ) (g xs ys : List Bool) → length xs ≡ length ys → n + length g ≤ length xs → divide n g (add_bits xs ys) ≡ add_bits (divide n g xs) (divide n g ys)
unfolding divide
divide_linear zero g xs ys e lt = refl
divide_linear (suc n) g [] ys e lt = absurd (omega arith)
divide_linear (suc n) g (x ∷ xs) [] e lt = absurd (omega arith)
divide_linear (suc n) g (false ∷ xs) (false ∷ ys) e lt = divide_linear n g xs ys (omega arith) (omega arith)
divide_linear (suc n) g (true ∷ xs) (false ∷ ys) e lt =
    let l = add_bits-length g xs (omega arith) in
    rw (← add_bits-assoc g xs ys) (divide_linear n g (add_bits g xs) ys (omega arith) (omega arith))
divide_linear (suc n) g (false ∷ xs) (true ∷ ys) e lt =
    let l = add_bits-length g ys (omega arith) in
    let m : add_bits g (add_bits xs ys) ≡ add_bits xs (add_bits g ys) = sym (add_bits-assoc g xs ys) ∙ ap (λ v. add_bits v ys) (add_bits-comm g xs) ∙ add_bits-assoc xs g ys in
    rw m (divide_linear n g xs (add_bits g ys) (omega arith) (omega arith))
divide_linear (suc n) g (true ∷ xs) (true ∷ ys) e lt =
    let l = add_bits-length g xs (omega arith) in
    let k = add_bits-length g ys (omega arith) in
    let j = add_bits-length xs ys (omega arith) in
    let m : add_bits (add_bits g xs) (add_bits g ys) ≡ add_bits xs ys =
    ap (λ v. add_bits v (add_bits g ys)) (add_bits-comm g xs) ∙ add_bits-assoc xs g (add_bits g ys) ∙ ap (add_bits xs) (add_bits-twice g ys (omega arith)) in
    sym (ap (divide n g) m) ∙ divide_linear n g (add_bits g xs) (add_bits g ys) (omega arith) (omega arith)

pub remainder_is_linear : RemainderIsLinear
unfolding rem
remainder_is_linear g xs ys e lt =
    let j = add_bits-length xs ys (omega arith) in
    let a : length (add_bits xs ys) - length g ≡ length ys - length g = omega arith in
    let b : length xs - length g ≡ length ys - length g = omega arith in
    rw (a, b) (divide_linear (length ys - length g) g xs ys e (omega arith))

-- ---- one bit more, as a number

mod_once : (d m : ℕ) → m ≤ d → d < 2 * m → d % m ≡ d - m
mod_once d m low high = let lt : d - m < m = omega arith in mod-eq-sub-mod low ∙ mod-eq_of_lt lt

pub rem-short : (g xs : List Bool) → length xs ≤ length g → rem g xs ≡ xs
unfolding rem divide
rem-short g xs le = let e : length xs - length g ≡ 0 = omega arith in rw e refl

value-snoc : (xs : List Bool) (c : Bool) → value (xs ++ c ∷ []) ≡ 2 * value xs + bit c
value-snoc xs c = let h = value_of_append xs (c ∷ []) in omega arith

-- what the number r of a remainder with one bit more behind it becomes
pub record Steps (g xs : List Bool) (c : Bool) (r : ℕ) : Type 0 where
  pub stays : r < 2 ^ length g → value (rem g (xs ++ c ∷ [])) ≡ r
  pub sums : 2 ^ length g ≤ r → value (rem g (xs ++ c ∷ [])) ≡ bit_xor r (2 ^ length g + value g)

shift_steps : (g xs register : List Bool) (c : Bool) (r : ℕ) → length register ≡ length g → 0 < length g → r ≡ 2 * value register + bit c → rem g (xs ++ c ∷ []) ≡ shift g register c → Steps g xs c r
shift_steps g xs [] c r l pos is shifted = absurd (omega arith)
shift_steps g xs (false ∷ register) c r l pos is shifted =
    let s = value-snoc register c in
    let b = value_below (register ++ c ∷ []) in
    let k = length-append register (c ∷ []) in
    let e : length (register ++ c ∷ []) ≡ length g = omega arith in
    let low : value (register ++ c ∷ []) < 2 ^ length g = rw e at b in
    record {
      stays = λ _. ap value shifted ∙ omega arith;
      sums = λ h. absurd (omega arith);
    }
shift_steps g xs (true ∷ register) c r l pos is shifted =
    let s = value-snoc register c in
    let b = value_below (register ++ c ∷ []) in
    let k = length-append register (c ∷ []) in
    let e : length (register ++ c ∷ []) ≡ length g = omega arith in
    let low : value (register ++ c ∷ []) < 2 ^ length g = rw e at b in
    let d : 2 ^ suc (length register) ≡ 2 * 2 ^ length register = pow_double (length register) in
    let n : suc (length register) ≡ length g = omega arith in
    let p : 2 ^ length g ≡ 2 * 2 ^ length register = rw n at d in
    let sum : value (add_bits g (register ++ c ∷ [])) ≡ bit_xor (value g) (value (register ++ c ∷ [])) = sum_is_xor g (register ++ c ∷ []) (sym e) in
    let whole : r ≡ 1 * 2 ^ length g + value (register ++ c ∷ []) = omega arith in
    let divisor : 2 ^ length g + value g ≡ 1 * 2 ^ length g + value g = omega arith in
    let x : bit_xor (1 * 2 ^ length g + value (register ++ c ∷ [])) (1 * 2 ^ length g + value g) ≡ bit_xor 1 1 * 2 ^ length g + bit_xor (value (register ++ c ∷ [])) (value g) =
    xor_block (length g) 1 1 (value (register ++ c ∷ [])) (value g) low (value_below g) in
    let none : bit_xor 1 1 * 2 ^ length g + bit_xor (value (register ++ c ∷ [])) (value g) ≡ bit_xor (value (register ++ c ∷ [])) (value g) = omega arith in
    record {
      stays = λ h. absurd (omega arith);
      sums = λ _. ap value shifted ∙ sum ∙ xor_comm (value g) (value (register ++ c ∷ [])) ∙ sym none ∙ sym x ∙ ap₂ bit_xor (sym whole) (sym divisor);
    }

short_steps : (g xs : List Bool) (c : Bool) (r : ℕ) → length xs < length g → r ≡ 2 * value xs + bit c → rem g (xs ++ c ∷ []) ≡ xs ++ c ∷ [] → Steps g xs c r
short_steps g xs c r short is next =
    let k = length-append xs (c ∷ []) in
    let s = value-snoc xs c in
    let b = value_below (xs ++ c ∷ []) in
    let m : 2 ^ length (xs ++ c ∷ []) ≤ 2 ^ length g = pow_mono (omega arith) in
    record {
      stays = λ _. ap value next ∙ omega arith;
      sums = λ h. absurd (omega arith);
    }

pub remainder_steps : (g xs : List Bool) (c : Bool) (r : ℕ) → 0 < length g → r ≡ 2 * value (rem g xs) + bit c → Steps g xs c r
remainder_steps g xs c r pos is = elim (cases_lt (length xs) (length g)) [
  | inl short ↦
      let k = length-append xs (c ∷ []) in
      short_steps g xs c r short (is ∙ ap (λ v. 2 * value v + bit c) (rem-short g xs (omega arith))) (rem-short g (xs ++ c ∷ []) (omega arith))
  | inr long ↦
      let l = remainder_length g xs long in
      shift_steps g xs (rem g xs) c r l pos is
      (remainder_goes_on g xs (c ∷ []) long ∙ division_is_shifting g (rem g xs) (c ∷ []) l pos)
]

pub rem-below : (g xs : List Bool) → value (rem g xs) < 2 ^ length g
rem-below g xs = elim (cases_lt (length xs) (length g)) [
  | inl short ↦
      let b = value_below xs in
      let m : 2 ^ length xs ≤ 2 ^ length g = pow_mono (omega arith) in
      rw (rem-short g xs (omega arith)) (omega arith)
  | inr long ↦ rw (remainder_length g xs long) at (value_below (rem g xs))
]

-- a register of n bits, for a divisor of degree n, takes one bit more
pub record Takes (n d : ℕ) (xs : List Bool) (c : Bool) (r : ℕ) : Type 0 where
  pub stays : r < 2 ^ n → r ≡ value (rem (bits n d) (xs ++ c ∷ []))
  pub sums : 2 ^ n ≤ r → bit_xor r d ≡ value (rem (bits n d) (xs ++ c ∷ []))

pub register_takes : (n d : ℕ) (xs : List Bool) (c : Bool) (r : ℕ) → 2 ^ n ≤ d → d < 2 * 2 ^ n → 0 < n → r ≡ 2 * value (rem (bits n d) xs) + bit c → Takes n d xs c r
register_takes n d xs c r low high pos is =
    let l = bits_length n d in
    let v = value_of_bits n d in
    let once : d % 2 ^ n ≡ d - 2 ^ n = mod_once d (2 ^ n) low high in
    let whole : 2 ^ length (bits n d) + value (bits n d) ≡ d = rw (l, v) (omega arith) in
    let s = remainder_steps (bits n d) xs c r (omega arith) is in
    record {
      stays = λ h. sym (s.stays (rw l h));
      sums = λ h. sym (s.sums (rw l h) ∙ ap (bit_xor r) whole);
    }

-- a bit as the code's number
pub bit-byte : (b : Bool) → bool_byte b ≡ bit b
bit-byte true = refl
bit-byte false = refl

pub bit-lt : (b : Bool) → bit b < 2
bit-lt true = omega arith
bit-lt false = omega arith
