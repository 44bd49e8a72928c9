-- What the number of a received word's remainder tells of the word.
use Rattle.std.proofs.Common.{◌≡◌, ◌≢◌, ℕ, Bool, true, false, List, [], ◌∷◌, ◌++◌, length, take, Option, Some, None, refl, sym, ◌∙◌, ap, ap₂, inl, inr, length-append, arith}
use Rattle.std.proofs.lemmas.Nat.{pow_pos}
use Rattle.std.specs.Int.Bits.{xor_self}
use Rattle.std.proofs.lemmas.Bool.{cases_Bool, true≢false}
use Rattle.std.proofs.Math.Seq.{take-append_seam}
use Rattle.jesd_base.specs.Bits.{bits, value, zeros, all_zero}
use Rattle.jesd_base.specs.Division.{divide, rem}
use Rattle.fire_fec.specs.Burst.{fire, Burst, parity, burst_added, burst}
use Rattle.fire_fec.specs.kept.Shifting.{trapped}
use Rattle.fire_fec.specs.Corrects.{payload_bits, received}
use Rattle.fire_fec.specs.laws.CorrectionLaws.{ParityBelow, ParityMakesWhole, OneBurstIsCorrected}
use Rattle.fire_fec.specs.declared.fix.Fix.TheVariants.{Whole, Fixed, Uncorrectable}
use Rattle.fire_fec.proofs.Numbers.{bits_length}
use Rattle.fire_fec.proofs.Trapping.{burst_is_trapped, one_burst_is_found, value-all_zero}
use Rattle.fire_fec.proofs.Remainders.{parity-small, received_remainder}
use Rattle.fire_fec.proofs.Flipping.{payload-length}

zero_of_value : (xs : List Bool) → value xs ≡ 0 → all_zero xs ≡ true
unfolding all_zero
zero_of_value [] e = refl
zero_of_value (true ∷ xs) e = let p = pow_pos (length xs) in absurd (omega arith)
zero_of_value (false ∷ xs) e = zero_of_value xs (omega arith)

word_length : (payload : List ℕ) (check : ℕ) → length payload ≡ 32 → length (received payload check) ≡ 2074
word_length payload check blocks = omega (arith, payload-length payload, bits_length 26 check, length-append (payload_bits payload) (bits 26 check))

take-front : (v w : List Bool) → length v ≡ 2048 → take 2048 (v ++ w) ≡ v
take-front v w e = rw e at (take-append_seam v w)

module _ (payload : List ℕ) (check r : ℕ) (blocks : length payload ≡ 32) (is : r ≡ value (rem fire (received payload check))) where
  pub is_whole : r ≡ 0 → all_zero (rem fire (received payload check)) ≡ true
  is_whole e = zero_of_value (rem fire (received payload check)) (sym is ∙ e)

  pub is_not_whole : r ≢ 0 → all_zero (rem fire (received payload check)) ≡ false
  is_not_whole ne = elim (cases_Bool (all_zero (rem fire (received payload check)))) [
    | inl zero_word ↦ absurd (ne (is ∙ value-all_zero (rem fire (received payload check)) zero_word))
    | inr other ↦ other
  ]

  pub burst_of_remainder : (b : Option Burst) → trapped r ≡ b → burst (received payload check) ≡ b
  burst_of_remainder b e = burst_is_trapped (received payload check) (word_length payload check blocks) ∙ ap trapped (sym is) ∙ e

pub parity_below : ParityBelow
parity_below payload = parity-small (payload_bits payload)

pub parity_makes_whole : ParityMakesWhole
unfolding rem divide fire bits zeros all_zero
parity_makes_whole [] = refl
parity_makes_whole (x ∷ xs) =
    let payload : List ℕ = x ∷ xs in
    let p : ℕ = value (parity (payload_bits payload)) in
    let l = payload-length payload in
    let r = received_remainder (payload_bits payload) p (omega arith) (parity-small (payload_bits payload)) in
    zero_of_value (rem fire (received payload p)) (r ∙ xor_self p)

start_of : Option Burst → ℕ
start_of (Some b) = b.start
start_of None = 0

mask_of : Option Burst → ℕ
mask_of (Some b) = b.mask
mask_of None = 0

is_some_burst : Option Burst → Bool
is_some_burst (Some b) = true
is_some_burst None = false

pub one_burst_is_corrected : OneBurstIsCorrected
unfolding start_of mask_of is_some_burst
one_burst_is_corrected sent old new check got s m Whole blocks lt low high fit zero_word is answer =
    let f = one_burst_is_found (received sent check) s m (word_length sent check blocks) lt low high fit zero_word in
    absurd (true≢false (sym answer.0 ∙ ap (λ v. all_zero (rem fire v)) is ∙ f.0))
one_burst_is_corrected sent old new check got s m (Fixed t n) blocks lt low high fit zero_word is answer =
    let v : List Bool = received sent check in
    let f = one_burst_is_found v s m (word_length sent check blocks) lt low high fit zero_word in
    let same = sym answer.1 ∙ ap burst is ∙ f.1 in
    let a : t ≡ s = ap start_of same in
    let b : n ≡ m = ap mask_of same in
    let l = payload-length sent in
    (ap₂ Fixed a b, answer.2 ∙ ap₂ (λ i j. take 2048 (burst_added (received old got) i j)) a b ∙ ap (λ w. take 2048 (burst_added w s m)) is ∙ ap (take 2048) f.2 ∙ take-front (payload_bits sent) (bits 26 check) (omega arith))
one_burst_is_corrected sent old new check got s m Uncorrectable blocks lt low high fit zero_word is answer =
    let f = one_burst_is_found (received sent check) s m (word_length sent check blocks) lt low high fit zero_word in
    absurd (true≢false (sym (ap is_some_burst (sym answer.1 ∙ ap burst is ∙ f.1))))
