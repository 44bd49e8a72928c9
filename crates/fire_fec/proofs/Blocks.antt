-- A block at a time, by tables of octets.
use Rattle.std.proofs.Common.{◌≡◌, ℕ, zero, suc, ◌+◌, ◌-◌, ◌*◌, ◌/◌, ◌%◌, ◌^◌, ◌<◌, ◌==◌, Bool, true, List, [], ◌∷◌, ◌++◌, length, map, take, get_or, refl, sym, ◌∙◌, ap, ap₂, append_assoc, length-append, arith, bit_xor}
use Rattle.std.specs.List.{flat_map}
use Rattle.std.specs.Int.{to_be_bytes}
use Rattle.std.proofs.lemmas.Bool.{eqb-true}
use Rattle.std.proofs.lemmas.List.{flat_map_more, take_more}
use mir.Syntax.{w64}
use Rattle.jesd_base.specs.Bits.{add, bits, value, zeros}
use Rattle.jesd_base.specs.Division.{add_bits, rem}
use Rattle.fire_fec.specs.Burst.{fire, parity}
use Rattle.fire_fec.specs.kept.Shifting.{times_x, times_pow, over_x}
use Rattle.fire_fec.specs.kept.Taking.{block_taken, times_power}
use Rattle.fire_fec.specs.declared.tables.TheConstants.{TABLES}
use Rattle.fire_fec.proofs.Dividing.{remainder_is_linear, sum_is_xor, add_length_below, value-lt}
use Rattle.fire_fec.proofs.Numbers.{bits_length, bits_of_both, bits-xor, bits-zero}
use Rattle.fire_fec.proofs.Single.{zeros-length, fire-length, rem-length}
use Rattle.fire_fec.proofs.Trapping.{zeros-add, times_pow-zero}
use Rattle.fire_fec.proofs.Carried.{over_x_small, times_over_x}
use Rattle.fire_fec.proofs.Free.{all_below, all_below_at, times_pow_small, times_pow_add, over_times_x}
use Rattle.fire_fec.proofs.Sums.{times_pow_linear}
use Rattle.fire_fec.proofs.Remainders.{parity-append, parity-octet, parity-none, parity-small, times_power-is, bytes_of, zeros-first}

-- ---- a block behind bits
pub block_taken-small : (r b : ℕ) → block_taken r b < 2 ^ 26
block_taken-small r b =
    let U : List Bool = bits 26 r ++ zeros 64 in
    let V : List Bool = bits 64 b ++ zeros 26 in
    let lV : length V ≡ 90 =
    omega (arith, length-append (bits 64 b) (zeros 26), bits_length 64 b, zeros-length 26) in
    let lU : length U ≡ 90 =
    omega (arith, length-append (bits 26 r) (zeros 64), bits_length 26 r, zeros-length 64) in
    let l = add_length_below U V (omega arith) in
    rw (rem-length (add_bits U V) (omega arith)) at (value-lt (rem fire (add_bits U V)))

pub block_taken-parity : (xs : List Bool) (b : ℕ)
    → block_taken (value (parity xs)) b ≡ value (parity (xs ++ bits 64 b))
block_taken-parity xs b =
    let r : ℕ = value (parity xs) in
    let f = fire-length in
    let z26 = zeros-length 26 in
    let z64 = zeros-length 64 in
    let n = bits_length 64 b in
    let U : List Bool = bits 26 r ++ zeros 64 in
    let V : List Bool = bits 64 b ++ zeros 26 in
    let lR = bits_length 26 r in
    let lU : length U ≡ 90 = omega (arith, length-append (bits 26 r) (zeros 64)) in
    let lV : length V ≡ 90 = omega (arith, length-append (bits 64 b) (zeros 26)) in
    let lFirst = rem-length U (omega arith) in
    let lSecond = rem-length V (omega arith) in
    ap value (remainder_is_linear fire U V (omega arith) (omega arith))
    ∙ sum_is_xor (rem fire U) (rem fire V) (omega arith)
    ∙ ap (λ v. bit_xor v (value (parity (bits 64 b))))
    (times_power-is 64 r (parity-small xs) ∙ ap (λ k. times_pow k r) (sym n))
    ∙ sym (parity-append xs (bits 64 b) (omega arith))

-- ---- a block and a remainder as one number
add-parts : (ws xs ys zs : List Bool) → length ws ≡ length xs
    → add_bits (ws ++ ys) (xs ++ zs) ≡ add_bits ws xs ++ add_bits ys zs
add-parts [] [] ys zs e = refl
add-parts [] (x ∷ xs) ys zs e = absurd (omega arith)
add-parts (w ∷ ws) [] ys zs e = absurd (omega arith)
add-parts (w ∷ ws) (x ∷ xs) ys zs e =
    ap {B = List Bool} (λ r. add w x ∷ r) (add-parts ws xs ys zs (omega arith))

pub block_taken-sum : (r b : ℕ)
    → block_taken r b ≡ value (parity (bits 64 (bit_xor (r * 2 ^ 38) b)))
block_taken-sum r b =
    let z26 = zeros-length 26 in
    let z38 = zeros-length 38 in
    let A : List Bool = bits 26 r ++ zeros 38 in
    let lR = bits_length 26 r in
    let lB = bits_length 64 b in
    let lA : length A ≡ length (bits 64 b) = omega (arith, length-append (bits 26 r) (zeros 38)) in
    let z : r * 2 ^ 38 ≡ r * 2 ^ 38 + 0 = omega arith in
    let y : ℕ = bit_xor (r * 2 ^ 38) b in
    let up : bits 64 (r * 2 ^ 38) ≡ A =
    ap (bits 64) z ∙ bits_of_both 26 38 r 0 (omega arith)
    ∙ ap (λ s. bits 26 r ++ s) (bits-zero 38) in
    let sum : bits 64 y ≡ add_bits A (bits 64 b) =
    bits-xor 64 (r * 2 ^ 38) b ∙ ap (λ s. add_bits s (bits 64 b)) up in
    let tail : bits 26 r ++ zeros 64 ≡ A ++ zeros 26 =
    ap (λ s. bits 26 r ++ s) (sym (zeros-add 38 26))
    ∙ sym (append_assoc (bits 26 r) (zeros 38) (zeros 26)) in
    let whole : add_bits (bits 26 r ++ zeros 64) (bits 64 b ++ zeros 26) ≡ bits 64 y ++ zeros 26 =
    ap (λ s. add_bits s (bits 64 b ++ zeros 26)) tail
    ∙ add-parts A (bits 64 b) (zeros 26) (zeros 26) lA
    ∙ ap₂ (λ s t. s ++ t) (sym sum) (zeros-first 26 (zeros 26) (omega arith)) in
    ap (λ s. value (rem fire s)) whole

-- ---- octets
flat_map-more : (octets : List ℕ) (b : ℕ)
    → flat_map (bits 8) (octets ++ b ∷ []) ≡ flat_map (bits 8) octets ++ bits 8 b
flat_map-more octets b = sym (flat_map_more (bits 8) [] octets b)

is_entry : ℕ → ℕ → Bool
is_entry k i = get_or (get_or TABLES k []) i 0 == times_pow (64 - 8 * k) (i * 2 ^ 18)

computed-tables : all_below (λ k. all_below (is_entry k) 256) 8 ≡ true
unfolding is_entry times_x times_pow
computed-tables = refl

entry : (k i : ℕ) → k < 8 → i < 256
    → get_or (get_or TABLES k []) i 0 ≡ times_pow (64 - 8 * k) (i * 2 ^ 18)
unfolding is_entry
entry k i lk li =
    let table = all_below_at (λ j. all_below (is_entry j) 256) 8 k computed-tables lk in
    eqb-true _ _ (all_below_at (is_entry k) 256 i table li)

-- the first k octets of a block, with zeros in place of the others
abbrev pub octets_taken : ℕ → List ℕ → ℕ
octets_taken k octets = times_pow (64 - 8 * k) (value (parity (flat_map (bits 8) octets)))

octets_taken-more : (k : ℕ) (octets : List ℕ) (b : ℕ) → k < 8 → b < 256
    → octets_taken (k + 1) (octets ++ b ∷ [])
    ≡ bit_xor (octets_taken k octets) (times_pow (64 - 8 * k) (b * 2 ^ 18))
octets_taken-more k octets b few small =
    let m : ℕ = 64 - 8 * (k + 1) in
    let xs : List Bool = flat_map (bits 8) octets in
    let p : ℕ = value (parity xs) in
    let l = bits_length 8 b in
    let e : m + 8 ≡ 64 - 8 * k = omega arith in
    let ps = parity-small xs in
    let q : ℕ = b * 2 ^ 18 in
    let pq = times_pow_small 8 q (omega arith) in
    let more : value (parity (xs ++ bits 8 b)) ≡ bit_xor (times_pow 8 p) (times_pow 8 q) =
    parity-append xs (bits 8 b) (omega arith)
    ∙ ap₂ bit_xor (ap (λ n. times_pow n p) l) (parity-octet b small) in
    ap (λ s. times_pow m (value (parity s))) (flat_map-more octets b)
    ∙ ap (times_pow m) more
    ∙ times_pow_linear m (times_pow 8 p) (times_pow 8 q) (times_pow_small 8 p ps) pq
    ∙ ap₂ bit_xor (sym (times_pow_add m 8 p)) (sym (times_pow_add m 8 q))
    ∙ ap (λ n. bit_xor (times_pow n p) (times_pow n q)) e

pub octets_taken-none : 0 ≡ octets_taken 0 []
octets_taken-none = sym (ap (times_pow 64) (sym parity-none) ∙ times_pow-zero 64)

low_octets-small : (vs : List ℕ) (k : ℕ) → get_or (map (λ v. v % 256) vs) k 0 < 256
low_octets-small [] k = omega arith
low_octets-small (v ∷ vs) zero = omega arith
low_octets-small (v ∷ vs) (suc k) = low_octets-small vs k

octets-small : (y k : ℕ) → get_or (to_be_bytes w64 y) k 0 < 256
octets-small y =
    let high : List ℕ = y / 2 ^ 56 ∷ y / 2 ^ 48 ∷ y / 2 ^ 40 ∷ y / 2 ^ 32 ∷ [] in
    low_octets-small (high ++ y / 2 ^ 24 ∷ y / 2 ^ 16 ∷ y / 2 ^ 8 ∷ y ∷ [])

module _ (octets : List ℕ) (y : ℕ) (is : octets ≡ to_be_bytes w64 y) where
  pub octet_more : (k taken : ℕ) → k < 8 → taken ≡ octets_taken k (take k octets)
      → bit_xor taken (get_or (get_or TABLES k []) (get_or octets k 0) 0)
      ≡ octets_taken (k + 1) (take (k + 1) octets)
  octet_more k taken few before =
      let b : ℕ = get_or octets k 0 in
      let long : k < length octets = rw (ap length is) few in
      let small : b < 256 = rw is (octets-small y k) in
      sym (ap (octets_taken (k + 1)) (take_more octets k 0 long)
      ∙ octets_taken-more k (take k octets) b few small
      ∙ ap₂ bit_xor (sym before) (sym (entry k b few small)))

  pub octets_whole : (k taken : ℕ) → k ≡ 8 → taken ≡ octets_taken k (take k octets)
      → taken ≡ value (parity (bits 64 y))
  unfolding times_pow
  octets_whole k taken all is_taken =
      is_taken ∙ ap (λ n. octets_taken n (take n octets)) all
      ∙ ap (λ s. octets_taken 8 (take 8 s)) is ∙ ap (λ s. value (parity s)) (bytes_of y)

-- ---- a shift
pub times_power-one : (r : ℕ) → r < 2 ^ 26 → times_power 1 r ≡ times_x r
unfolding times_pow
times_power-one r small = times_power-is 1 r small

pub over_x-is : (r s : ℕ) → s < 2 ^ 26 → times_power 1 s ≡ r → s ≡ over_x r
over_x-is r s small e = sym (over_times_x s small) ∙ ap over_x (sym (times_power-one s small) ∙ e)

pub times_power-over_x : (r : ℕ) → r < 2 ^ 26 → times_power 1 (over_x r) ≡ r
times_power-over_x r small =
    times_power-one (over_x r) (over_x_small r small) ∙ times_over_x r small
