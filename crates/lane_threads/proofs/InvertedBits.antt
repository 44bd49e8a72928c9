-- The bits of a number, each of them inverted.
use Rattle.std.proofs.Common.{◌≡◌, ◌∙◌, ℕ, suc, ◌+◌, ◌-◌, ◌*◌, ◌^◌, ◌<◌, not, Bool, true, false, if◌then◌else◌, List, [], ◌∷◌, map, length, mod-eq_of_lt, refl, sym, ap, arith}
use Rattle.std.proofs.lemmas.List.{length-map}
use Rattle.jesd_base.specs.Bits.{bit, bits, value}
use Rattle.jesd_base.proofs.BitLemmas.{bits_length, bits_of_value, pow_double, value_of_bits}
use Rattle.link_model.specs.Carried.{with_polarity}

both-bits : (b : Bool) (p : ℕ) → bit (not b) * p + bit b * p ≡ p
both-bits true p = omega arith
both-bits false p = omega arith

-- a number and the one with all bits inverted make 2^n - 1
value-not : (bs : List Bool) → value (map not bs) + value bs + 1 ≡ 2 ^ length bs
value-not [] = refl
value-not (b ∷ bs) =
    let p : ℕ = 2 ^ length bs in
    let long = length-map bs not in
    let power : 2 ^ length (map not bs) ≡ p = ap (λ (n : ℕ). 2 ^ n) long in
    let first : bit (not b) * 2 ^ length (map not bs) ≡ bit (not b) * p =
    ap (λ (q : ℕ). bit (not b) * q) power in
    let both = both-bits b p in
    let rest = value-not bs in
    let twice = pow_double (length bs) in
    omega arith

-- all n bits of a number inverted are those of 2^n - 1 less the number
pub bits-with_polarity : (n x : ℕ) → x < 2 ^ n → bits n (2 ^ n - 1 - x) ≡ map not (bits n x)
bits-with_polarity n x below =
    let bs : List Bool = map not (bits n x) in
    let own = bits_length n x in
    let long : length bs ≡ n = length-map (bits n x) not ∙ own in
    let is : value (bits n x) ≡ x = value_of_bits n x ∙ mod-eq_of_lt below in
    let sum = value-not (bits n x) in
    let power : 2 ^ length (bits n x) ≡ 2 ^ n = ap (λ (k : ℕ). 2 ^ k) own in
    let number : 2 ^ n - 1 - x ≡ value bs = omega arith in
    ap (bits n) number ∙ sym (ap (λ (k : ℕ). bits k (value bs)) long) ∙ bits_of_value bs
